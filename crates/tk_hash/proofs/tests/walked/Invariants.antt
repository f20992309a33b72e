use Rattle.std.proofs.Common.{◌≡◌}
use Rattle.tk_store.specs.Store.{IsWhole}
use Rattle.tk_hash.proofs.tests.walked.Given as goal

-- searches change nothing
abbrev pub invariant-loop-step : goal.invariant-loop-step
invariant-loop-step g l = record {
  whole : IsWhole g.S.SeqStore.stands l.store;
  store_view : g.S.SeqStore.store_view l.store ≡ g.S.SeqStore.store_view l.initial.store;
  constants : g.S.SeqStore.constants l.store ≡ g.S.SeqStore.constants l.initial.store;
}
