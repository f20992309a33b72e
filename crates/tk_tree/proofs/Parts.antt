-- Runs of pages, joined and cut.
use Rattle.std.proofs.Common.{◌≡◌, ℕ, Bool, true, false, if◌then◌else◌, List, [], ◌∷◌, ◌++◌, Option, Some, None, refl, sym, ap, ◌∙◌, append_assoc}
use Rattle.std.proofs.lemmas.List.Concat.{flat_map-append}
use Rattle.std.specs.List.{flat_map}
use Rattle.std.specs.Ordering.{is_le}
use Rattle.std.specs.declared.cmp.Ordering.TheVariants.{Less}
use Rattle.tk_model.specs.Orders.{key_cmp}
use Rattle.tk_model.specs.declared.record.Order.{Order}
use Rattle.tk_model.proofs.KeyOrders.{keys_total}
use Rattle.tk_tree.specs.Tree.{KeyedChild, over}
use Rattle.tk_tree.specs.Formed.{From, Between, AllPast, KeysRise, ChildrenWithin}
use Rattle.tk_tree.specs.Put.{SplitPage, joined}
use Rattle.tk_tree.proofs.Keys.{le_less, under_higher}

-- what holds of both, holds of the one that a test chooses
pub chosen : {A : Type 0} (P : A → Type 0) (b : Bool) (x y : A) → (b ≡ true → P x) → (b ≡ false → P y) → P (if b then x else y)
chosen P true x y so not = so refl
chosen P false x y so not = not refl

-- what the pages have, one after another
abbrev pub parts : {T A : Type 0} → (T → List A) → SplitPage T → List A
parts f b = over f b.first b.rest

-- past the low bound, and not at it
abbrev pub Past : Order → Option (List ℕ) → List ℕ → Type 0
Past o None k = Unit {0}
Past o (Some low) k = key_cmp o low k ≡ Less

pub farther : (o : Order) (low : Option (List ℕ)) (a b : List ℕ) → From o low a → key_cmp o a b ≡ Less → From o low b
farther o None a b from less = tt
farther o (Some low) a b from less = ap is_le (le_less o low a b from less)

pub farther_past : (o : Order) (low : Option (List ℕ)) (a b : List ℕ) → From o low a → key_cmp o a b ≡ Less → Past o low b
farther_past o None a b from less = tt
farther_past o (Some low) a b from less = le_less o low a b from less

module _ {T A : Type 0} (f : T → List A) where
  pub over_joined : (t : T) (ks : List (KeyedChild T)) (k : KeyedChild T) (us : List (KeyedChild T)) → over f t (ks ++ k ∷ us) ≡ over f t ks ++ over f k.tree us
  over_joined t ks k us =
      ap (λ l. f t ++ l) (flat_map-append (λ (x : KeyedChild T). f x.tree) ks (k ∷ us)) ∙ sym (append_assoc (f t) (flat_map (λ x. f x.tree) ks) (over f k.tree us))

  pub parts_joined : (a b : SplitPage T) (key : List ℕ) → parts f (joined a key b) ≡ parts f a ++ parts f b
  parts_joined a b key = over_joined a.first a.rest (record { key = key; tree = b.first }) b.rest

module _ {T : Type 0} (o : Order) where
  abbrev pub AllPastLow : Option (List ℕ) → List (KeyedChild T) → Type 0
  AllPastLow None ks = Unit {0}
  AllPastLow (Some low) ks = AllPast o low ks

  -- each child's key stands in front of this one
  abbrev pub AllAhead : List (KeyedChild T) → List ℕ → Type 0
  AllAhead [] key = Unit {0}
  AllAhead (k ∷ ks) key = (key_cmp o k.key key ≡ Less) × AllAhead ks key

  pub past_farther : (a b : List ℕ) (ks : List (KeyedChild T)) → key_cmp o a b ≡ Less → AllPast o b ks → AllPast o a ks
  past_farther a b [] less all = tt
  past_farther a b (k ∷ ks) less all = ((keys_total o).trans a b k.key less all.0, past_farther a b ks less all.1)

  pub past_append : (a : List ℕ) (ks us : List (KeyedChild T)) → AllPast o a ks → AllPast o a us → AllPast o a (ks ++ us)
  past_append a [] us all more = more
  past_append a (k ∷ ks) us all more = (all.0, past_append a ks us all.1 more)

  pub past_low_append : (low : Option (List ℕ)) (ks us : List (KeyedChild T)) → AllPastLow low ks → AllPastLow low us → AllPastLow low (ks ++ us)
  past_low_append None ks us all more = tt
  past_low_append (Some low) ks us all more = past_append low ks us all more

  pub past_low_farther : (low : Option (List ℕ)) (b : List ℕ) (ks : List (KeyedChild T)) → Past o low b → AllPast o b ks → AllPastLow low ks
  past_low_farther None b ks past all = tt
  past_low_farther (Some low) b ks past all = past_farther low b ks past all

  pub past_low_cons : (low : Option (List ℕ)) (k : KeyedChild T) (ks : List (KeyedChild T)) → Past o low k.key → AllPastLow low ks → AllPastLow low (k ∷ ks)
  past_low_cons None k ks past all = tt
  past_low_cons (Some low) k ks past all = (past, all)

  -- keys that rise up to one, and from it on
  pub rise_joined : (ks : List (KeyedChild T)) (k : KeyedChild T) (us : List (KeyedChild T)) → KeysRise o ks → AllAhead ks k.key → KeysRise o (k ∷ us) → KeysRise o (ks ++ k ∷ us)
  rise_joined [] k us rise ahead more = more
  rise_joined (j ∷ ks) k us rise ahead more =
      (past_append j.key ks (k ∷ us) rise.0 (ahead.0, past_farther j.key k.key us ahead.0 more.0), rise_joined ks k us rise.1 ahead.1 more)

  pub ahead : (a : List ℕ) (ks : List (KeyedChild T)) (k : KeyedChild T) (us : List (KeyedChild T)) → AllPast o a (ks ++ k ∷ us) → key_cmp o a k.key ≡ Less
  ahead a [] k us all = all.0
  ahead a (j ∷ ks) k us all = ahead a ks k us all.1

  module _ (P : (low high : Option (List ℕ)) → T → Type 0) where
    pub children_ahead : (low : Option (List ℕ)) (key : List ℕ) (t : T) (ks : List (KeyedChild T)) → ChildrenWithin o P low (Some key) t ks → AllAhead ks key
    children_ahead low key t [] children = tt
    children_ahead low key t (k ∷ ks) children = (children.0.under, children_ahead (Some k.key) key k.tree ks children.2)

    pub children_joined : (low high : Option (List ℕ)) (t : T) (ks : List (KeyedChild T)) (k : KeyedChild T) (us : List (KeyedChild T)) → ChildrenWithin o P low (Some k.key) t ks → Between o low high k.key → ChildrenWithin o P (Some k.key) high k.tree us
        → ChildrenWithin o P low high t (ks ++ k ∷ us)
    children_joined low high t [] k us children between more = (between, children, more)
    children_joined low high t (j ∷ ks) k us children between more = (
      record { from = children.0.from; under = under_higher o k.key j.key high children.0.under between.under },
      children.1,
      children_joined (Some j.key) high j.tree ks k us children.2 (record { from = ap is_le children.0.under; under = between.under }) more,
    )

    -- The pages that a page became: their keys rise past its low bound.
    pub record IsRun (low high : Option (List ℕ)) (b : SplitPage T) : Type 0 where
      pub children : ChildrenWithin o P low high b.first b.rest
      pub rise : KeysRise o b.rest
      pub past : AllPastLow low b.rest

    pub run_joined : (low high : Option (List ℕ)) (a : SplitPage T) (key : List ℕ) (b : SplitPage T) → IsRun low (Some key) a → Between o low high key → Past o low key → IsRun (Some key) high b → IsRun low high (joined a key b)
    run_joined low high a key b first between past second =
        let k : KeyedChild T = record { key = key; tree = b.first } in record {
          children = children_joined low high a.first a.rest k b.rest first.children between second.children;
          rise = rise_joined a.rest k b.rest first.rise (children_ahead low key a.first a.rest first.children) (second.past, second.rise);
          past = past_low_append low a.rest (k ∷ b.rest) first.past (past_low_cons low k b.rest past (past_low_farther low key b.rest past second.past));
        }

    -- children cut at one of them
    pub children_cut : (low high : Option (List ℕ)) (t : T) (ks : List (KeyedChild T)) (k : KeyedChild T) (us : List (KeyedChild T)) → KeysRise o (ks ++ k ∷ us) → ChildrenWithin o P low high t (ks ++ k ∷ us)
        → ChildrenWithin o P low (Some k.key) t ks × Between o low high k.key × ChildrenWithin o P (Some k.key) high k.tree us
    children_cut low high t [] k us rise children = (children.1, children.0, children.2)
    children_cut low high t (j ∷ ks) k us rise children =
        let deeper = children_cut (Some j.key) high j.tree ks k us rise.1 children.2 in
        let less : key_cmp o j.key k.key ≡ Less = ahead j.key ks k us rise.0 in
        ((record { from = children.0.from; under = less }, children.1, deeper.0), record { from = farther o low j.key k.key children.0.from less; under = deeper.1.under }, deeper.2)
