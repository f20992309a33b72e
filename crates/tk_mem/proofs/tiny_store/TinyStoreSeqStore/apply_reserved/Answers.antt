use Rattle.std.proofs.Common.{◌∙◌, sym, refl}
use Rattle.tk_mem.proofs.Stored.{made, running}
use Rattle.tk_mem.proofs.tiny_store.TinyStoreSeqStore.apply_reserved.Goals as goal

pub returns-clause-stands : goal.returns-clause-stands
returns-clause-stands g c changes p first since hard st =
    let runs = running c.args.self.now.stage c.requires.open in
    made g.D.Disk.image g.D.Disk.may_leave c.args.self.now _ c.args.number changes first since hard p st (c.in_ok-apply_reserved.ensures.stands changes p.records first since hard st.records)
    (c.apply_reserved.ensures.open ∙ sym st.unclosed) refl runs runs

pub returns-clause-since : goal.returns-clause-since
returns-clause-since g c changes p t n first since hard st =
    let runs = running c.args.self.now.stage c.requires.open in
    made g.D.Disk.image g.D.Disk.may_leave c.args.self.now _ c.args.number changes first since hard p st (c.in_ok-apply_reserved.ensures.stands changes p.records first since hard st.records)
    (c.apply_reserved.ensures.open ∙ sym st.unclosed) refl runs runs
