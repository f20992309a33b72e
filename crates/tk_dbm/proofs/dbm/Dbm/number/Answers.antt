use Rattle.tk_model.proofs.RecordLaws.{entries_rising}
use Rattle.tk_core.specs.Rule.{map_after}
use Rattle.tk_dbm.specs.Dbm.{its, setting, view, writes}
use Rattle.tk_dbm.proofs.Around.{numbered}
use Rattle.tk_dbm.proofs.dbm.Dbm.number.Goals as goal

pub returns-clause-visits : goal.returns-clause-visits
returns-clause-visits g c = let f = (its c.args.self.now).frame in let m = (setting g.S.SeqStore.lawful g.S.SeqStore.store_view g.S.SeqStore.fault_count c.args.self.now).first in let met = c.draw-number.ensures.step in
    numbered g.S.SeqStore.lawful g.S.SeqStore.stands g.S.SeqStore.store_view g.S.SeqStore.constants g.S.SeqStore.fault_count (its c.args.self.now) (writes c.args.self.now) (λ _ _ _ _ _ _. ⊥) (λ _ _ _. Unit {0}) g.J.Asked.entry (view c.args.pass.now) c.draw-number.result (view c.draw-number.new.pass) c.requires.may met
    (c.requires.alike (map_after f m (view c.args.pass.now).caller.base) (map_after f m met.0) (entries_rising f.order (view c.args.pass.now).caller.base m met.1.lawful.rising) (entries_rising f.order met.0 m met.1.lawful.rising) met.1.still.records)
