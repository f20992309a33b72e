-- The search for the first record past the limits.
use Rattle.std.proofs.Common.{◌≡◌, ℕ, ◌<◌, ◌≤◌, ◌+◌, Bool, true, false, cond, not, ltb, zero-add, List, ◌∷◌, length, drop, get_or, position, Some, None, refl, sym, ap, ◌∙◌, arith}
use Rattle.std.specs.List.{position_or_len}
use Rattle.std.proofs.Math.ListN.{drop_of_length-le}
use Rattle.std.proofs.lemmas.List.{drop_more}
use Rattle.std.proofs.lemmas.Bool.{lt-ltb, le-ltb}
use Rattle.tk_model.specs.declared.record.Pair.{Pair}
use Rattle.tk_flat.specs.Tsv.{is_past_limits, first_past_limits}

-- the records before this place are within the limits
pub record WithinSoFar (pairs : List Pair) (i : ℕ) : Type 0 where
  pub place : position_or_len is_past_limits pairs ≡ i + position_or_len is_past_limits (drop i pairs)

pub within_none : (pairs : List Pair) → WithinSoFar pairs 0
within_none pairs = record { place = sym (zero-add (position_or_len is_past_limits pairs)) }

front : (pairs : List Pair) (i : ℕ) (pair : Pair) (t : Bool) → i < length pairs → pair ≡ get_or pairs i pair → is_past_limits pair ≡ t
    → position_or_len is_past_limits (drop i pairs) ≡ cond (not t) (1 + position_or_len is_past_limits (drop (i + 1) pairs)) 0
front pairs i pair t inside is test =
    ap (position_or_len is_past_limits) (drop_more pairs i pair inside ∙ ap (λ (p : Pair). p ∷ drop (i + 1) pairs) (sym is))
    ∙ ap (λ b. cond (not b) (1 + position_or_len is_past_limits (drop (i + 1) pairs)) 0) test

pub within_more : (pairs : List Pair) (i : ℕ) (pair : Pair) → i < length pairs → pair ≡ get_or pairs i pair → is_past_limits pair ≡ false → WithinSoFar pairs i → WithinSoFar pairs (i + 1)
within_more pairs i pair inside is test so_far = record { place = omega (arith, so_far.place, front pairs i pair false inside is test) }

pub within_until : (pairs : List Pair) (i : ℕ) (pair : Pair) → i < length pairs → pair ≡ get_or pairs i pair → is_past_limits pair ≡ true → WithinSoFar pairs i → Some (i + 1) ≡ first_past_limits pairs
within_until pairs i pair inside is test so_far =
    let place : position_or_len is_past_limits pairs ≡ i = omega (arith, so_far.place, front pairs i pair true inside is test) in
    let at : position is_past_limits pairs ≡ Some i =
    ap (λ k. cond (ltb k (length pairs)) (Some k) None) place ∙ ap (λ t. cond t (Some i) None) (lt-ltb i (length pairs) inside) in
    rw at refl

pub within_all : (pairs : List Pair) (i : ℕ) → length pairs ≤ i → i ≤ length pairs → WithinSoFar pairs i → None ≡ first_past_limits pairs
within_all pairs i past within so_far =
    let none : position_or_len is_past_limits (drop i pairs) ≡ 0 = ap (position_or_len is_past_limits) (drop_of_length-le pairs past) in
    let end : length pairs ≤ position_or_len is_past_limits pairs = omega (arith, so_far.place, none) in
    let at : position is_past_limits pairs ≡ None =
    ap (λ t. cond t (Some (position_or_len is_past_limits pairs)) None) (le-ltb (position_or_len is_past_limits pairs) (length pairs) end) in
    rw at refl

pub ruleset search_steps = (within_none, within_more, within_until, within_all)
