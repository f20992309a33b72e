use Rattle.tk_dbm.specs.Dbm.{setting, view}
use Rattle.tk_dbm.specs.OneKey.{picked_entry}
use Rattle.tk_dbm.proofs.dbm.Dbm.process_in.Given as goal

abbrev pub ghosts-act : goal.ghosts-act
ghosts-act g a = record { entry = picked_entry g.P.RecordProcessor.acts g.P.RecordProcessor.turns (setting g.S.SeqStore.lawful g.S.SeqStore.store_view g.S.SeqStore.fault_count a.self.now) a.writable a.p.now a.key.now a.i (view a.pass.now).caller }
