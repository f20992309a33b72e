use Rattle.std.proofs.Common.{refl}
use Rattle.tk_locks.specs.Calls.{view as locks_view}
use Rattle.tk_dbm.specs.Dbm.{its, view, writes}
use Rattle.tk_dbm.proofs.Changing.{kept_at}
use Rattle.tk_dbm.proofs.dbm.Dbm.keep.Goals as goal

pub returns-clause-made : goal.returns-clause-made
returns-clause-made g c = (
  c.commit-number.result,
  refl,
  kept_at g.S.SeqStore.lawful g.S.SeqStore.stands g.S.SeqStore.store_view g.S.SeqStore.constants g.S.SeqStore.fault_count (its c.args.self.now) (writes c.args.self.now)
      g.J.Picked.entry (view c.args.pass.now) c.commit-number.result (locks_view c.commit-number.new.pass) c.requires.may c.commit-number.ensures.step,
)
