-- How a record is put, and how pages that grow are split.
use Rattle.std.specs.Prelude.{ℕ, zero, suc, ◌+◌, ◌*◌, Bool, false, nat_lt, nat_le, List, [], ◌∷◌, ◌++◌, length, take, drop, if◌then◌else◌, ◌==◌}
use Rattle.std.specs.Ordering.{is_le}
use Rattle.tk_model.specs.Orders.{key_cmp}
use Rattle.tk_model.specs.Records.{put}
use Rattle.tk_model.specs.declared.record.Order.{Order}
use Rattle.tk_model.specs.declared.record.Pair.{Pair}
use Rattle.tk_tree.specs.Tree.{Leaf, KeyedChild, Inner, Tree}
use Rattle.tk_tree.specs.Formed.{pair_size, leaf_size, IsTreeOf}

-- What a page became: itself and the pages that were split from it, each with its least key. Then the next page number, and
-- the pages that were written.
pub record SplitPage (T : Type 0) : Type 0 where
  pub first : T
  pub rest : List (KeyedChild T)
  pub next : ℕ
  pub wrote : List ℕ

-- two records or more, and more than 2,048 bytes
abbrev pub is_long : List Pair → Bool
is_long [] = false
is_long (p ∷ []) = false
is_long (p ∷ q ∷ ps) = nat_lt 2048 (leaf_size (p ∷ q ∷ ps))

-- the number of leading records whose own text has at least half of all bytes; one is left
abbrev pub half_from : (all so_far : ℕ) → List Pair → ℕ
half_from all so_far [] = 0
half_from all so_far (p ∷ []) = 0
half_from all so_far (p ∷ q ∷ ps) = if nat_le all (2 * (so_far + pair_size p)) then 1 else 1 + half_from all (so_far + pair_size p) (q ∷ ps)

abbrev pub half_of : List Pair → ℕ
half_of ps = half_from (leaf_size ps) 5 ps

abbrev pub least_key : List Pair → List ℕ
least_key [] = []
least_key (p ∷ ps) = p.key

module _ {T : Type 0} where
  -- two runs of pages, the second behind this key
  abbrev pub joined : SplitPage T → (key : List ℕ) → SplitPage T → SplitPage T
  joined a key b = record { first = a.first; rest = a.rest ++ record { key = key; tree = b.first } ∷ b.rest; next = b.next; wrote = a.wrote ++ b.wrote }

abbrev pub leaf_alone : (number : ℕ) → List Pair → (next : ℕ) → SplitPage Leaf
leaf_alone number ps next = record { first = record { number = number; pairs = ps }; rest = []; next = next; wrote = number ∷ [] }

-- a leaf with these records, split until no part is too long; the fuel is the number of records
abbrev pub split_leaf : (fuel number : ℕ) → List Pair → (next : ℕ) → SplitPage Leaf
split_leaf zero number ps next = leaf_alone number ps next
split_leaf (suc fuel) number ps next =
    if is_long ps
    then (let a = split_leaf fuel number (take (half_of ps) ps) (next + 1) in
    joined a (least_key (drop (half_of ps) ps)) (split_leaf fuel next (drop (half_of ps) ps) a.next))
    else leaf_alone number ps next

module _ {T : Type 0} where
  abbrev pub inner_alone : (number : ℕ) → T → List (KeyedChild T) → (next : ℕ) → SplitPage (Inner T)
  inner_alone number t ks next = record { first = record { number = number; first = t; rest = ks }; rest = []; next = next; wrote = number ∷ [] }

  -- the page of the first children, and what the others become
  abbrev pub cut_off : SplitPage (Inner T) → List (KeyedChild T) → (T → List (KeyedChild T) → SplitPage (Inner T)) → SplitPage (Inner T)
  cut_off page [] others = page
  cut_off page (k ∷ ks) others = joined page k.key (others k.tree ks)

  -- an inner page with these children, of which those behind the first 64 go on a next page while there are more than 128
  abbrev pub split_inner : (fuel number : ℕ) → T → List (KeyedChild T) → (next : ℕ) → SplitPage (Inner T)
  split_inner zero number t ks next = inner_alone number t ks next
  split_inner (suc fuel) number t ks next =
      if nat_lt 127 (length ks)
      then cut_off (inner_alone number t (take 63 ks) (next + 1)) (drop 63 ks) (λ u more. split_inner fuel next u more (next + 1))
      else inner_alone number t ks next

  -- the child for the key becomes these pages, and its siblings stay
  abbrev pub spread : Order → List ℕ → (T → SplitPage T) → T → List (KeyedChild T) → SplitPage T
  spread o key f t [] = f t
  spread o key f t (k ∷ ks) =
      if is_le (key_cmp o k.key key)
      then (let b = spread o key f k.tree ks in record b { first = t; rest = record { key = k.key; tree = b.first } ∷ b.rest })
      else (let b = f t in record b { rest = b.rest ++ k ∷ ks })

  -- an inner page whose children became these; where none was split it isn't written
  abbrev pub raised : (number : ℕ) → (before : List (KeyedChild T)) → SplitPage T → SplitPage (Inner T)
  raised number before b =
      if length b.rest == length before
      then record { first = record { number = number; first = b.first; rest = b.rest }; rest = []; next = b.next; wrote = b.wrote }
      else (let c = split_inner (length b.rest) number b.first b.rest b.next in record c { wrote = b.wrote ++ c.wrote })

abbrev pub put_in : Order → Pair → (n : ℕ) → Tree n → (next : ℕ) → SplitPage (Tree n)
put_in o new zero t next = split_leaf (length (put o new t.pairs)) t.number (put o new t.pairs) next
put_in o new (suc n) t next = raised t.number t.rest (spread o new.key (λ u. put_in o new n u next) t.first t.rest)

-- a tree, its next page number, and the pages that were written
pub record TreeAfter : Type 0 where
  pub levels : ℕ
  pub top : Tree levels
  pub next : ℕ
  pub wrote : List ℕ

-- while the root page was split, a new root is made
abbrev pub grow : (fuel n : ℕ) → SplitPage (Tree n) → TreeAfter
grow zero n b = record { levels = n; top = b.first; next = b.next; wrote = b.wrote }
grow (suc fuel) n b =
    if length b.rest == 0
    then record { levels = n; top = b.first; next = b.next; wrote = b.wrote }
    else grow fuel (suc n) (let c = split_inner (length b.rest) b.next b.first b.rest (b.next + 1) in record c { wrote = b.wrote ++ c.wrote })

abbrev pub put_tree : Order → Pair → (n : ℕ) → Tree n → (next : ℕ) → TreeAfter
put_tree o new n t next = let b = put_in o new n t next in grow (length b.rest) n b

-- the tree has these records and is valid
abbrev pub LeadsTo : Order → List Pair → TreeAfter → Type 0
LeadsTo o m g = IsTreeOf o m g.levels g.top
