use Rattle.tk_core.specs.Rule.{map_after}
use Rattle.tk_dbm.specs.Dbm.{its, setting, view}
use Rattle.tk_dbm.proofs.dbm.Dbm.number.Given as goal

abbrev pub ghosts-draw : goal.ghosts-draw
ghosts-draw g a = record { entry = g.J.Asked.entry (map_after (its a.self.now).frame (setting g.S.SeqStore.lawful g.S.SeqStore.store_view g.S.SeqStore.fault_count a.self.now).first (view a.pass.now).caller.base) }
