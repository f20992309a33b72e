use Rattle.std.proofs.Common.{◌≡◌, ◌≤◌, true, false}
use Rattle.tk_store.specs.Store.{IsWhole}
use Rattle.tk_mem.proofs.tests.fill.Given as goal

-- the store is ready for the next number
abbrev pub invariant-loop-i : goal.invariant-loop-i
invariant-loop-i g l = record {
  whole : IsWhole g.S.SeqStore.stands l.store;
  opened : (g.S.SeqStore.store_view l.store).closed ≡ false;
  writable : (g.S.SeqStore.constants l.store).writable ≡ true;
  floor : (g.S.SeqStore.store_view l.store).floor ≤ l.i;
}
