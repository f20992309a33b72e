-- What tests and options tell.
use Rattle.std.proofs.Common.{◌≡◌, ℕ, ◌≤◌, Bool, true, false, refl, arith}
use Rattle.std.specs.Prelude.{Some, None, ◌==◌, ◌&&◌, ◌||◌, nat_le}
use Rattle.std.proofs.lemmas.Bool.Decides.{nat_tests}

pub two_true : (a b : Bool) → (a && b) ≡ true → (a ≡ true) × (b ≡ true)
two_true true true h = (refl, refl)
two_true true false h = absurd (cc)
two_true false b h = absurd (cc)

pub two_false : (a b : Bool) → (a || b) ≡ false → (a ≡ false) × (b ≡ false)
two_false false false h = (refl, refl)
two_false false true h = absurd (cc)
two_false true b h = absurd (cc)

pub not_both : (a : Bool) → a ≡ true → a ≡ false → ⊥
not_both a t f = cc (t, f)

pub no_some : {A : Type 0} (x : A) → None ≡ Some x → ⊥
no_some x is = cc is

pub same_some : {A : Type 0} (x y : A) → Some x ≡ Some y → x ≡ y
same_some x y is = cc is

pub told : (a b : ℕ) → (a == b) ≡ true → a ≡ b
told a b is = grind (arith, nat_tests)

pub within : (a b : ℕ) → nat_le a b ≡ true → a ≤ b
within a b is = grind (arith, nat_tests)

pub false_unless : (b : Bool) → (b ≡ true → ⊥) → b ≡ false
false_unless true f = absurd (f refl)
false_unless false f = refl
