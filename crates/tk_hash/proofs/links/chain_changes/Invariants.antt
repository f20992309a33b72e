use Rattle.std.proofs.Common.{◌≡◌, ◌-◌, ◌^◌, ℕ, List, length, take, drop}
use Rattle.tk_model.specs.Records.{AllFit, HasNoClear}
use Rattle.tk_block.specs.Blocks.{group_bodies}
use Rattle.tk_block.specs.Layout.{Placed, end_of}
use Rattle.tk_append.specs.Chains.{HeadsAre}
use Rattle.tk_hash.proofs.PlanLoop.{Ahead}
use Rattle.tk_hash.specs.Plan.{with_new, AllBelow, IsNewest}
use Rattle.tk_hash.proofs.links.chain_changes.Given as goal

abbrev pub invariant-loop-change : goal.invariant-loop-change
invariant-loop-change l = record {
  chained : (number : ℕ) (before : List Placed) → HeadsAre l.p l.heads before → Ahead l.p (with_new l.chains.heads.items l.heads) l.chains.links l.place (drop l.change-index l.changes) l.changes l.end number before;
  newest : IsNewest l.chains.newest (take (length l.chains.heads.items - 1) l.chains.heads.items);
  below : AllBelow (2 ^ l.p) l.chains.heads.items;
  counts : length l.chains.links ≡ l.change-index;
  fit : AllFit (drop l.change-index l.changes);
  no_clear : HasNoClear (drop l.change-index l.changes);
  ends : (number : ℕ) → end_of l.place (group_bodies number (drop l.change-index l.changes)) ≡ end_of l.end (group_bodies number l.changes);
}
