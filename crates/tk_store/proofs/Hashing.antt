-- What the hashes of keys tell of the keys.
use Rattle.std.proofs.Common.{◌≡◌, ℕ, Bool, true, false, List, refl, sym, ap, ◌∙◌}
use Rattle.std.specs.Ordering.{nat_cmp}
use Rattle.std.specs.declared.cmp.Ordering.TheVariants.{Less, Greater}
use Rattle.tk_model.specs.Hashes.{mix_of}
use Rattle.tk_model.specs.Orders.{same_bytes, key_cmp}
use Rattle.tk_model.specs.declared.record.Order.TheVariants.{Hash}
use Rattle.tk_model.proofs.KeyOrders.{same_told}

not_true : (b : Bool) → (b ≡ true → ⊥) → b ≡ false
not_true true never = absurd (never refl)
not_true false never = refl

-- keys of other hashes are others
pub apart : (a b : List ℕ) (x y : ℕ) → x ≡ mix_of a → y ≡ mix_of b → (y ≡ x → ⊥) → same_bytes a b ≡ false
apart a b x y of_a of_b other = not_true (same_bytes a b) (λ same. other (of_b ∙ ap mix_of (sym (same_told a b same)) ∙ sym of_a))

first_less : (a b : List ℕ) → nat_cmp (mix_of a) (mix_of b) ≡ Less → key_cmp Hash a b ≡ Less
unfolding key_cmp
first_less a b e = rw e refl

first_greater : (a b : List ℕ) → nat_cmp (mix_of a) (mix_of b) ≡ Greater → key_cmp Hash a b ≡ Greater
unfolding key_cmp
first_greater a b e = rw e refl

pub by_less : (a b : List ℕ) (x y : ℕ) → x ≡ mix_of a → y ≡ mix_of b → nat_cmp x y ≡ Less → key_cmp Hash a b ≡ Less
by_less a b x y of_a of_b e = first_less a b (rw (← of_a, ← of_b) e)

pub by_greater : (a b : List ℕ) (x y : ℕ) → x ≡ mix_of a → y ≡ mix_of b → nat_cmp x y ≡ Greater → key_cmp Hash a b ≡ Greater
by_greater a b x y of_a of_b e = first_greater a b (rw (← of_a, ← of_b) e)
