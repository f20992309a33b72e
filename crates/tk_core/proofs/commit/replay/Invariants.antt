use Rattle.std.proofs.Common.{◌≡◌, true, [], drop}
use Rattle.tk_model.specs.Entries.{legal, replay_entries}
use Rattle.tk_core.proofs.commit.replay.Given as goal

abbrev pub invariant-loop-entry : goal.invariant-loop-entry
invariant-loop-entry l = record {
  order : l.map.order ≡ l.fn.order;
  legal : legal l.fn.order l.map.pairs (drop l.entry-index l.history) ≡ true;
  pairs : replay_entries l.fn.order (drop l.entry-index l.history) l.map.pairs ≡ replay_entries l.fn.order l.history [];
}
