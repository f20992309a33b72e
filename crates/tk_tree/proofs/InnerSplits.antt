-- An inner page that is split keeps its children, and none has more than 128.
use Rattle.std.proofs.Common.{◌≡◌, ℕ, zero, suc, ◌+◌, ◌≤◌, ◌<◌, true, false, List, [], ◌∷◌, ◌++◌, length, take, drop, Option, Some, None, sym, ap, subst, ◌∙◌, arith, length-take, length-drop}
use Rattle.std.specs.Prelude.{nat_lt}
use Rattle.std.proofs.lemmas.List.{append-nil, take-append-drop}
use Rattle.std.proofs.lemmas.Bool.Decides.{nat_tests}
use Rattle.tk_model.specs.declared.record.Order.{Order}
use Rattle.tk_tree.specs.Tree.{KeyedChild, Inner, Tree, over}
use Rattle.tk_tree.specs.Formed.{AllPast, KeysRise, ChildrenWithin, IsWithin}
use Rattle.tk_tree.specs.Put.{SplitPage, inner_alone, cut_off, split_inner}
use Rattle.tk_tree.proofs.Parts.{chosen, parts, over_joined, parts_joined, Past, ahead, farther_past, IsRun, run_joined, children_cut}

long_so : (n : ℕ) → nat_lt 127 n ≡ true → 128 ≤ n
long_so n long = grind (arith, nat_tests)

pub short_so : (n : ℕ) → nat_lt 127 n ≡ false → n ≤ 127
short_so n short = grind (arith, nat_tests)

module _ {T A : Type 0} (f : T → List A) where
  -- what the children of an inner page have
  abbrev pub of_inner : Inner T → List A
  of_inner t = over f t.first t.rest

  alone_has : (number : ℕ) (t : T) (ks : List (KeyedChild T)) (next : ℕ) → parts of_inner (inner_alone number t ks next) ≡ over f t ks
  alone_has number t ks next = append-nil (over f t ks)

  cut_has : (number : ℕ) (t : T) (ks us : List (KeyedChild T)) (next : ℕ) (others : T → List (KeyedChild T) → SplitPage (Inner T)) → ((u : T) (more : List (KeyedChild T)) → parts of_inner (others u more) ≡ over f u more)
      → parts of_inner (cut_off (inner_alone number t ks next) us others) ≡ over f t (ks ++ us)
  cut_has number t ks [] next others known = alone_has number t ks next ∙ ap (λ l. over f t l) (sym (append-nil ks))
  cut_has number t ks (k ∷ us) next others known =
      parts_joined of_inner (inner_alone number t ks next) (others k.tree us) k.key
      ∙ ap (λ l. l ++ parts of_inner (others k.tree us)) (alone_has number t ks next)
      ∙ ap (λ l. over f t ks ++ l) (known k.tree us)
      ∙ sym (over_joined f t ks k us)

  pub split_has : (fuel number : ℕ) (t : T) (ks : List (KeyedChild T)) (next : ℕ) → parts of_inner (split_inner fuel number t ks next) ≡ over f t ks
  split_has zero number t ks next = alone_has number t ks next
  split_has (suc fuel) number t ks next =
      chosen (λ b. parts of_inner b ≡ over f t ks) (nat_lt 127 (length ks))
      (cut_off (inner_alone number t (take 63 ks) (next + 1)) (drop 63 ks) (λ u more. split_inner fuel next u more (next + 1)))
      (inner_alone number t ks next)
      (λ long. cut_has number t (take 63 ks) (drop 63 ks) (next + 1) (λ u more. split_inner fuel next u more (next + 1)) (λ u more. split_has fuel next u more (next + 1))
      ∙ ap (λ l. over f t l) (take-append-drop 63 ks))
      (λ short. alone_has number t ks next)

module _ {T : Type 0} (o : Order) where
  past_front : (a : List ℕ) (ks us : List (KeyedChild T)) → AllPast o a (ks ++ us) → AllPast o a ks
  past_front a [] us all = tt
  past_front a (k ∷ ks) us all = (all.0, past_front a ks us all.1)

  rise_front : (ks us : List (KeyedChild T)) → KeysRise o (ks ++ us) → KeysRise o ks
  rise_front [] us rise = tt
  rise_front (k ∷ ks) us rise = (past_front k.key ks us rise.0, rise_front ks us rise.1)

  rise_back : (ks us : List (KeyedChild T)) → KeysRise o (ks ++ us) → KeysRise o us
  rise_back [] us rise = rise
  rise_back (k ∷ ks) us rise = rise_back ks us rise.1

module _ (o : Order) (n : ℕ) where
  alone_within : (low high : Option (List ℕ)) (number : ℕ) (t : Tree n) (ks : List (KeyedChild (Tree n))) (next : ℕ) → length ks ≤ 127 → KeysRise o ks → ChildrenWithin o (IsWithin o n) low high t ks
      → IsRun o (IsWithin o (suc n)) low high (inner_alone number t ks next)
  alone_within None high number t ks next few rise children = record { children = (few, rise, children); rise = tt; past = tt }
  alone_within (Some low) high number t ks next few rise children = record { children = (few, rise, children); rise = tt; past = tt }

  cut_past : (low high : Option (List ℕ)) (t : Tree n) (ks : List (KeyedChild (Tree n))) (k : KeyedChild (Tree n)) (us : List (KeyedChild (Tree n))) → 1 ≤ length ks → KeysRise o (ks ++ k ∷ us) → ChildrenWithin o (IsWithin o n) low high t (ks ++ k ∷ us)
      → Past o low k.key
  cut_past low high t [] k us some rise children = absurd (omega arith)
  cut_past low high t (j ∷ ks) k us some rise children = farther_past o low j.key k.key children.0.from (ahead o j.key ks k us rise.0)

  cut_within : (low high : Option (List ℕ)) (number : ℕ) (t : Tree n) (ks us : List (KeyedChild (Tree n))) (next : ℕ) (others : Tree n → List (KeyedChild (Tree n)) → SplitPage (Tree (suc n)))
      → 1 ≤ length ks → length ks ≤ 127 → KeysRise o (ks ++ us) → ChildrenWithin o (IsWithin o n) low high t (ks ++ us)
      → ((mid : List ℕ) (u : Tree n) (more : List (KeyedChild (Tree n))) → length more < length us → KeysRise o more → ChildrenWithin o (IsWithin o n) (Some mid) high u more → IsRun o (IsWithin o (suc n)) (Some mid) high (others u more))
      → IsRun o (IsWithin o (suc n)) low high (cut_off (inner_alone number t ks next) us others)
  cut_within low high number t ks [] next others some few rise children known =
      alone_within low high number t ks next few (subst (λ l. KeysRise o l) (append-nil ks) rise) (subst (λ l. ChildrenWithin o (IsWithin o n) low high t l) (append-nil ks) children)
  cut_within low high number t ks (k ∷ us) next others some few rise children known =
      let cut = children_cut o (IsWithin o n) low high t ks k us rise children in
      run_joined o (IsWithin o (suc n)) low high (inner_alone number t ks next) k.key (others k.tree us)
      (alone_within low (Some k.key) number t ks next few (rise_front o ks (k ∷ us) rise) cut.0)
      cut.1 (cut_past low high t ks k us some rise children)
      (known k.key k.tree us (omega arith) (rise_back o ks (k ∷ us) rise).1 cut.2)

  pub split_within : (low high : Option (List ℕ)) (fuel number : ℕ) (t : Tree n) (ks : List (KeyedChild (Tree n))) (next : ℕ) → length ks ≤ fuel + 127 → KeysRise o ks → ChildrenWithin o (IsWithin o n) low high t ks
      → IsRun o (IsWithin o (suc n)) low high (split_inner fuel number t ks next)
  split_within low high zero number t ks next few rise children = alone_within low high number t ks next (omega arith) rise children
  split_within low high (suc fuel) number t ks next few rise children =
      chosen (λ b. IsRun o (IsWithin o (suc n)) low high b) (nat_lt 127 (length ks))
      (cut_off (inner_alone number t (take 63 ks) (next + 1)) (drop 63 ks) (λ u more. split_inner fuel next u more (next + 1)))
      (inner_alone number t ks next)
      (λ long.
      let many : 128 ≤ length ks = long_so (length ks) long in
      let whole = take-append-drop 63 ks in
      cut_within low high number t (take 63 ks) (drop 63 ks) (next + 1) (λ u more. split_inner fuel next u more (next + 1))
      (omega (arith, length-take 63 ks)) (omega (arith, length-take 63 ks)) (subst (λ l. KeysRise o l) (sym whole) rise) (subst (λ l. ChildrenWithin o (IsWithin o n) low high t l) (sym whole) children)
      (λ mid u more less rise_more children_more. split_within (Some mid) high fuel next u more (next + 1) (omega (arith, length-drop 63 ks)) rise_more children_more))
      (λ short. alone_within low high number t ks next (short_so (length ks) short) rise children)
