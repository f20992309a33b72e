use Rattle.std.proofs.Common.{◌≡◌, length, drop}
use Rattle.tk_hash.specs.Plan.{with_new, AllBelow}
use Rattle.tk_hash.proofs.plan.renew.Given as goal

abbrev pub invariant-loop-head : goal.invariant-loop-head
invariant-loop-head l = record {
  left : with_new (drop l.head-index l.new) l.heads ≡ with_new l.new l.fn.heads;
  below : AllBelow (length l.fn.heads) (drop l.head-index l.new);
  long : length l.heads ≡ length l.fn.heads;
}
