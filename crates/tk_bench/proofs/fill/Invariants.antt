use Rattle.tk_dbm.specs.Dbm.{IsIdleOf}
use Rattle.tk_bench.proofs.fill.Given as goal

abbrev pub invariant-loop-number : goal.invariant-loop-number
invariant-loop-number g l = IsIdleOf g.S.SeqStore.lawful g.S.SeqStore.stands g.S.SeqStore.store_view g.S.SeqStore.constants l.db l.pass
