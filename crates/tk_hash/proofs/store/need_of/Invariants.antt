use Rattle.std.proofs.Common.{◌≡◌, ℕ, ◌+◌, List, drop}
use Rattle.std.specs.Prelude.{sum_by}
use Rattle.tk_model.specs.declared.record.Change.{Change}
use Rattle.tk_model.specs.Records.{AllFit}
use Rattle.tk_store.specs.Store.{extent_of}
use Rattle.tk_hash.proofs.store.need_of.Given as goal

-- what is left makes up the whole
pub record Summed (all : List Change) (done need : ℕ) : Type 0 where
  pub sum : need + sum_by (extent_of 1) (drop done all) ≡ sum_by (extent_of 1) all
  pub fit : AllFit (drop done all)

abbrev pub invariant-loop-change : goal.invariant-loop-change
invariant-loop-change l = Summed l.changes l.change-index l.need
