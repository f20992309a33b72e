-- The first record within a bound, going up or down.
use Rattle.std.specs.Prelude.{ℕ, zero, suc, Bool, false, List, [], ◌∷◌, Option, if◌then◌else◌}
use Rattle.std.specs.Ordering.{is_le, is_lt}
use Rattle.tk_model.specs.Orders.{key_cmp}
use Rattle.tk_model.specs.Records.{or_else, first_within, last_within}
use Rattle.tk_model.specs.declared.record.Order.{Order}
use Rattle.tk_model.specs.declared.record.Bound.{Bound}
use Rattle.tk_model.specs.declared.record.Bound.TheVariants.{Edge, Over, From as At}
use Rattle.tk_model.specs.declared.record.Pair.{Pair}
use Rattle.tk_tree.specs.Tree.{KeyedChild, Tree}

-- nothing in front of a child with this key is within the bound going up
abbrev pub starts_past : Order → Bound → List ℕ → Bool
starts_past o Edge key = false
starts_past o (Over b) key = is_le (key_cmp o key b)
starts_past o (At b) key = is_le (key_cmp o key b)

-- nothing from a child with this key on is within the bound going down
abbrev pub ends_before : Order → Bound → List ℕ → Bool
ends_before o Edge key = false
ends_before o (Over b) key = is_le (key_cmp o b key)
ends_before o (At b) key = is_lt (key_cmp o b key)

module _ {T : Type 0} where
  abbrev pub next_over : Order → Bound → (T → Option Pair) → T → List (KeyedChild T) → Option Pair
  next_over o b f t [] = f t
  next_over o b f t (k ∷ ks) = if starts_past o b k.key then next_over o b f k.tree ks else or_else (f t) (next_over o b f k.tree ks)

  abbrev pub prev_over : Order → Bound → (T → Option Pair) → T → List (KeyedChild T) → Option Pair
  prev_over o b f t [] = f t
  prev_over o b f t (k ∷ ks) = if ends_before o b k.key then f t else or_else (prev_over o b f k.tree ks) (f t)

abbrev pub next_in : Order → Bound → (n : ℕ) → Tree n → Option Pair
next_in o b zero t = first_within o b t.pairs
next_in o b (suc n) t = next_over o b (next_in o b n) t.first t.rest

abbrev pub prev_in : Order → Bound → (n : ℕ) → Tree n → Option Pair
prev_in o b zero t = last_within o b t.pairs
prev_in o b (suc n) t = prev_over o b (prev_in o b n) t.first t.rest
