use Rattle.std.proofs.Common.{◌+◌, ◌≤◌, length}
use Rattle.std.specs.Vec.{vec_capacity}
use Rattle.tk_dbm.specs.Ending.{AllMayEnd}
use Rattle.tk_dbm.proofs.Fates.{Ending}
use Rattle.tk_dbm.proofs.ending.end_all.Given as goal

abbrev pub invariant-loop-homes : goal.invariant-loop-homes
invariant-loop-homes g l = record {
  may : AllMayEnd g.S.SeqStore.stands g.S.SeqStore.store_view g.S.SeqStore.constants l.fn.next l.homes.items;
  so : Ending g.S.SeqStore.stands g.S.SeqStore.store_view g.S.SeqStore.constants g.S.SeqStore.fault_count l.fn.next l.initial.homes.items l.homes.items l.into.items l.ending.failed l.ending.broken;
  room : length l.into.items + length l.homes.items ≤ vec_capacity l.into;
}

abbrev pub decreases-loop-homes : goal.decreases-loop-homes
decreases-loop-homes g l = length l.homes.items
