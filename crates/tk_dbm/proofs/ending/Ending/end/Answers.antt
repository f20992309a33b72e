use Rattle.std.proofs.Common.{rules, ◌≡◌, Option, None, refl, sym, subst}
use Rattle.tk_status.specs.declared.Status.{Status}
use Rattle.tk_dbm.specs.Ending.{EndsOne}
use Rattle.tk_dbm.specs.Fates.{Spoilt}
use Rattle.tk_dbm.proofs.Fates.{or_none, ends_home}
use Rattle.tk_dbm.proofs.ending.Ending.end.Goals as goal

pub returns-in-Some : goal.returns-in-Some
returns-in-Some g c = record { fate = Spoilt c.in-Some.faults; ends = (c.in-Some.is, refl); failed_is = or_none c.args.self.now.failed; broken_is = c.or-self.ensures }

pub returns : goal.returns
returns g c =
    let sound : c.args.home.broken ≡ None = search rules in
    subst (λ (f : Option Status). EndsOne g.S.SeqStore.stands g.S.SeqStore.store_view g.S.SeqStore.constants g.S.SeqStore.fault_count c.args.next c.args.self.now.failed c.args.self.now.broken c.args.home f c.args.self.now.broken c.end_file-store.result.0) (sym c.or-self-2.ensures)
    (ends_home g.S.SeqStore.stands g.S.SeqStore.store_view g.S.SeqStore.constants g.S.SeqStore.fault_count c.args.next c.args.home c.args.self.now.failed c.args.self.now.broken c.end_file-store.result.1 c.end_file-store.result.0 sound c.end_file-store.ensures)
