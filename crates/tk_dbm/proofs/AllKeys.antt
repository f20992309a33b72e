-- All stripes, one after another.
use Rattle.std.proofs.Common.{◌≡◌, ◌≢◌, ◌+◌, ◌<◌, ◌||◌, ℕ, Bool, zero, suc, true, List, ◌∷◌, length, refl, sym, ap, ◌∙◌, subst, ⊎_elim, arith}
use Rattle.tk_model.specs.declared.record.Entry.{Entry}
use Rattle.tk_core.specs.Caller.{weight}
use Rattle.tk_core.specs.Lists.{has, without, AllBelow}
use Rattle.tk_core.specs.Moves.{took_stripe, gave_stripe}
use Rattle.tk_core.proofs.Facts.{by_test, has_cons}
use Rattle.tk_locks.specs.View.{View, with_caller}
use Rattle.tk_dbm.specs.AllKeys.{falling_from, LocksOnly}
use Rattle.tk_dbm.proofs.Visits.{without_new}

pub locks_self : (v : View) → LocksOnly v v
locks_self v = record { seen = refl; mine = refl; allowance = refl; broke = refl; met = refl; counts = refl; marks = refl }

pub locks_then : (u v w : View) → LocksOnly u v → LocksOnly v w → LocksOnly u w
locks_then u v w p q = record { seen = q.seen ∙ p.seen; mine = q.mine ∙ p.mine; allowance = q.allowance ∙ p.allowance; broke = q.broke ∙ p.broke; met = q.met ∙ p.met; counts = q.counts ∙ p.counts; marks = q.marks ∙ p.marks }

pub locks_taken : (l : ℕ) (log : List Entry) (v w : View) → w ≡ with_caller (took_stripe l log v.caller) v → LocksOnly v w
locks_taken l log v w e = subst (LocksOnly v) (sym e) (record { seen = refl; mine = refl; allowance = refl; broke = refl; met = refl; counts = refl; marks = refl })

pub locks_given : (l : ℕ) (v w : View) → w ≡ with_caller (gave_stripe l v.caller) v → LocksOnly v w
locks_given l v w e = subst (LocksOnly v) (sym e) (record { seen = refl; mine = refl; allowance = refl; broke = refl; met = refl; counts = refl; marks = refl })

pub weighs_still : (v w : View) → LocksOnly v w → 0 < weight v.caller → 0 < weight w.caller
weighs_still v w k h = let a = k.allowance in let b = ap (λ z. length z) k.mine in omega arith

pub falling_below : (n : ℕ) → AllBelow n (falling_from n)
falling_below zero l h = absurd (cc (h))
falling_below (suc n) l h = ⊎_elim (λ (e : l ≡ n). omega arith) (λ (q : (l ≢ n) × (has l (falling_from n) ≡ true)). let t = falling_below n l q.1 in omega arith) (has_cons l n (falling_from n) h)

pub falling_has : (n l : ℕ) → l < n → has l (falling_from n) ≡ true
falling_has zero l h = absurd (omega arith)
falling_has (suc n) l h = by_test l n (λ (b : Bool). (b || has l (falling_from n)) ≡ true) (λ e. refl) (λ differ. falling_has n l (omega arith))

pub falling_more : (n : ℕ) → falling_from (n + 1) ≡ n ∷ falling_from n
falling_more n = let e : n + 1 ≡ suc n = omega arith in ap falling_from e

pub falling_given : (i n : ℕ) → i ≡ n + 1 → without n (falling_from i) ≡ falling_from n
falling_given i n e = ap (without n) (ap falling_from e ∙ falling_more n) ∙ without_new n (falling_from n) (falling_below n)

pub falling_held : (i n : ℕ) → i ≡ n + 1 → has n (falling_from i) ≡ true
falling_held i n e = falling_has i n (omega arith)
