-- A value that is given whole.
use Rattle.std.proofs.Common.{◌≡◌, ℕ, ◌+◌, ◌-◌, ◌<◌, ◌≤◌, ◌^◌, List, ◌++◌, length, take, drop, sym, ◌∙◌, ap, arith}
use Rattle.std.specs.Prelude.{Option, Some, None, IfSome}
use Rattle.std.proofs.lemmas.List.{take_at, take_all}
use Rattle.tk_buckets.specs.Lookup.{IsBlockOf}
use Rattle.tk_buckets.specs.declared.lookup.FoundBlock.{FoundBlock}

-- by a vector that was filled
pub whole_told : (o : Option (List ℕ)) (x : FoundBlock) (buffer key : List ℕ) (len n : ℕ) (items old new given : List ℕ) → given ≡ take n (new ++ drop (length new) items) → n ≡ length items → length items ≡ len → length new ≡ len → length old ≡ len
    → IfSome o (λ f. length f < 2 ^ 64 → length old ≤ x.value_len → (b : IsBlockOf f key buffer x) → new ≡ take (length old) b.body.value)
    → len ≡ x.value_len → IfSome o (λ f. length f < 2 ^ 64 → (b : IsBlockOf f key buffer x) → given ≡ b.body.value)
whole_told None x buffer key len n items old new given is count items_len new_len old_len filled same = tt
whole_told (Some f) x buffer key len n items old new given is count items_len new_len old_len filled same = λ size b.
    is ∙ take_at new (drop (length new) items) n (omega (arith, count, items_len, new_len))
    ∙ filled size (omega (arith, old_len, same)) b ∙ take_all (length old) b.body.value (omega (arith, old_len, same, b.value_len))

-- by the buffer
pub held_told : (o : Option (List ℕ)) (x : FoundBlock) (buffer key given : List ℕ) (start end : ℕ) → start ≡ 40 + length key → end ≡ start + x.value_len → end ≤ length buffer → given ≡ take (end - start) (drop start buffer)
    → IfSome o (λ f. length f < 2 ^ 64 → (b : IsBlockOf f key buffer x) → given ≡ b.body.value)
held_told None x buffer key given start end at until within is = tt
held_told (Some f) x buffer key given start end at until within is = λ size b.
    is ∙ ap (λ (n : ℕ). take n (drop start buffer)) (omega (arith, until)) ∙ ap (λ (k : ℕ). take x.value_len (drop k buffer)) at
    ∙ b.value x.value_len (omega (arith, b.value_len)) (omega (arith, at, until, within)) ∙ take_all x.value_len b.body.value (omega (arith, b.value_len))
