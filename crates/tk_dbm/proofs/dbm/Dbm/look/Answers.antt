use Rattle.tk_dbm.specs.Dbm.{setting, view}
use Rattle.tk_dbm.proofs.Looks.{has_looked}
use Rattle.tk_dbm.proofs.dbm.Dbm.look.Goals as goal

pub returns-clause-seen : goal.returns-clause-seen
returns-clause-seen g c = has_looked (setting g.S.SeqStore.lawful g.S.SeqStore.store_view g.S.SeqStore.fault_count c.args.self.now) (view c.args.pass.now) c.look.result _ c.look.ensures.step
