use Rattle.std.proofs.Common.{◌≡◌, [], length, take, replicate}
use Rattle.tk_store.proofs.hashed.clear_all.Given as goal

abbrev pub invariant-loop-i : goal.invariant-loop-i
invariant-loop-i l = record {
  cleared : take l.i l.buckets.items ≡ replicate l.i [];
  all : length l.buckets.items ≡ length l.fn.buckets.items;
}
