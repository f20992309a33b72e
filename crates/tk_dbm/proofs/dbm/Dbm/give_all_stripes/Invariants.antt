use Rattle.std.proofs.Common.{◌≤◌}
use Rattle.tk_dbm.specs.AllKeys.{falling_from, LocksOnly}
use Rattle.tk_dbm.specs.Dbm.{its, view, IsPassAt}
use Rattle.tk_dbm.proofs.dbm.Dbm.give_all_stripes.Given as goal

abbrev pub invariant-loop-i : goal.invariant-loop-i
invariant-loop-i g l = record {
  own : IsPassAt g.S.SeqStore.lawful g.S.SeqStore.stands g.S.SeqStore.store_view g.S.SeqStore.constants (falling_from l.i) l.fn.self l.pass;
  low : l.i ≤ (its l.fn.self).frame.stripes;
  kept : LocksOnly (view l.fn.pass) (view l.pass);
}

abbrev pub decreases-loop-i : goal.decreases-loop-i
decreases-loop-i g l = l.i
