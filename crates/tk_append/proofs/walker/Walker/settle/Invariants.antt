use Rattle.std.proofs.Common.{◌≡◌}
use Rattle.tk_append.proofs.Checked.{Settled}
use Rattle.tk_append.proofs.walker.Walker.settle.Given as goal

abbrev pub invariant-loop-bucket : goal.invariant-loop-bucket
invariant-loop-bucket l = record {
  heads : Settled l.fn.self.heads.items l.self.heads.items l.self.cleared l.bucket;
  cleared : l.self.cleared ≡ l.fn.self.cleared;
  keys : l.self.keys ≡ l.fn.self.keys;
  before : l.self.before ≡ l.fn.self.before;
  open_group : l.self.open_group ≡ l.fn.self.open_group;
}
