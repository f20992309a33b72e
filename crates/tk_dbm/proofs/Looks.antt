-- What a look tells.
use Rattle.std.proofs.Common.{◌≡◌, ℕ, true, refl, sym, subst}
use Rattle.tk_locks.specs.View.{View}
use Rattle.tk_locks.specs.Steps.{Saw}
use Rattle.tk_dbm.specs.Setting.{Setting}
use Rattle.tk_dbm.specs.Passes.{Looked}

pub has_looked : (s : Setting) (v : View) (n : ℕ) (w : View) → Saw s.frame (λ m. s.law m ≡ true) s.first v n w → Looked s v n w
has_looked s v n w (log, met, long, other, is) = subst (λ (z : View). Looked s v n z) (sym is) (record {
  front = met.seen;
  calls = long;
  lawful = met.lawful;
  allowance = refl;
  mine = refl;
  broke = refl;
  met = refl;
  counts = refl;
  marks = refl;
})
