use Rattle.tk_store.specs.Store.{IsWhole}
use Rattle.tk_mem.proofs.tests.are.Given as goal

abbrev pub invariant-loop-pair : goal.invariant-loop-pair
invariant-loop-pair g l = IsWhole g.S.SeqStore.stands l.store
