use Rattle.std.proofs.Common.{All}
use Rattle.tk_dbm.specs.Dbm.{IsIdleOf}
use Rattle.tk_bench.proofs.workers.Given as goal

abbrev pub invariant-loop-number : goal.invariant-loop-number
invariant-loop-number g l = record {
  own : IsIdleOf g.S.SeqStore.lawful g.S.SeqStore.stands g.S.SeqStore.store_view g.S.SeqStore.constants l.db l.pass;
  each : All (λ w. IsIdleOf g.S.SeqStore.lawful g.S.SeqStore.stands g.S.SeqStore.store_view g.S.SeqStore.constants l.db w.pass) l.workers.items;
}
