-- What a look and a join tell.
use Rattle.std.specs.Prelude.{◌≡◌, ◌⊎◌, ◌+◌, ℕ, true, ◌++◌, length}
use mathlib.Core.List.{IsPrefix}
use Rattle.tk_core.specs.Rule.{IsLawful}
use Rattle.tk_locks.specs.View.{View}
use Rattle.tk_dbm.specs.Setting.{Setting}

-- The pass has seen the whole history, which has so many calls and begins with what it saw before. All else is as it was.
pub record Looked (s : Setting) (v : View) (n : ℕ) (w : View) : Type 0 where
  pub front : IsPrefix v.caller.seen w.caller.seen
  pub calls : length w.caller.seen ≡ n
  pub lawful : IsLawful s.frame (λ m. s.law m ≡ true) s.first w.caller.seen
  pub allowance : w.caller.allowance ≡ v.caller.allowance
  pub mine : w.caller.mine ≡ v.caller.mine
  pub broke : w.caller.broke ≡ v.caller.broke
  pub met : w.caller.met ≡ v.caller.met
  pub counts : w.counts ≡ v.counts
  pub marks : w.marks ≡ v.marks

-- One pass has what two had, and the longer of what they saw: what either saw begins it.
pub record Joins (v u w : View) : Type 0 where
  pub seen : IsPrefix v.caller.seen w.caller.seen
  pub other : IsPrefix u.caller.seen w.caller.seen
  pub one : (w.caller.seen ≡ v.caller.seen) ⊎ (w.caller.seen ≡ u.caller.seen)
  pub allowance : w.caller.allowance ≡ v.caller.allowance + u.caller.allowance
  pub mine : w.caller.mine ≡ v.caller.mine ++ u.caller.mine
  pub broke : w.caller.broke ≡ v.caller.broke ++ u.caller.broke
  pub met : w.caller.met ≡ v.caller.met ++ u.caller.met
  pub counts : w.counts ≡ v.counts ++ u.counts
  pub marks : w.marks ≡ v.marks ++ u.marks
