use Rattle.tk_dbm.specs.Dbm.{its, setting, view}
use Rattle.tk_dbm.specs.Room.{IsFull, AllHaveRoom}
use Rattle.tk_dbm.proofs.Ends.{ends_after}
use Rattle.tk_dbm.proofs.dbm.Dbm.process_in.Goals as goal

pub returns-in-Ok-clause-ends : goal.returns-in-Ok-clause-ends
returns-in-Ok-clause-ends g c = ends_after g.P.RecordProcessor.acts g.P.RecordProcessor.turns (setting g.S.SeqStore.lawful g.S.SeqStore.store_view g.S.SeqStore.fault_count c.args.self.now) (IsFull g.S.SeqStore.stands g.S.SeqStore.store_view g.S.SeqStore.constants (its c.args.self.now)) (AllHaveRoom g.S.SeqStore.stands g.S.SeqStore.store_view g.S.SeqStore.constants (its c.args.self.now)) c.args.writable c.args.p.now c.args.key.now c.args.i c.requires.key.0 c.requires.visit.low
    (view c.args.pass.now) (view c.read.new.pass) (view c.act.new.pass) c.act.result c.in-Ok.ensures.rests c.act.ensures.ends
