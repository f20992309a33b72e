use Rattle.std.proofs.Common.{◌≡◌, ◌++◌}
use Rattle.tk_store.proofs.hashed.fill.Given as goal

abbrev pub invariant-loop-pair : goal.invariant-loop-pair
invariant-loop-pair l = record {
  whole : l.fn.pairs ≡ l.yielded ++ l.pair-iterator.rest.items;
  put : l.records ≡ l.yielded;
}
