use Rattle.std.proofs.Common.{◌≡◌, ⊎_elim, refl, ap, ◌∙◌, subst}
use Rattle.tk_dbm.specs.declared.visit.Work.{Work}
use Rattle.tk_dbm.specs.declared.visit.Work.TheVariants.{Count, Sync, Keep}
use Rattle.tk_dbm.specs.Dbm.{its, view}
use Rattle.tk_dbm.specs.Visiting.{IsDue, MarksSuit}
use Rattle.tk_dbm.proofs.Goods.{whole, unclosed}
use Rattle.tk_dbm.proofs.Finishing.{counted_out, kept_out, synced_out, hardened_out}
use Rattle.tk_dbm.proofs.dbm.Dbm.finish.Goals as goal

pub sync_hard-requires-clause-whole : goal.sync_hard-requires-clause-whole
sync_hard-requires-clause-whole g c = whole g.S.SeqStore.lawful g.S.SeqStore.stands g.S.SeqStore.store_view g.S.SeqStore.constants (its c.args.self.now) c.requires.fresh c.args.i c.requires.due.low c.args.home.now.store _ _ c.requires.due.good_then

pub sync_hard-requires-clause-open : goal.sync_hard-requires-clause-open
sync_hard-requires-clause-open g c = unclosed g.S.SeqStore.lawful g.S.SeqStore.stands g.S.SeqStore.store_view g.S.SeqStore.constants (its c.args.self.now) c.requires.fresh c.args.i c.requires.due.low c.args.home.now.store _ _ c.requires.due.good_then

pub sync-requires-clause-whole : goal.sync-requires-clause-whole
sync-requires-clause-whole g c = whole g.S.SeqStore.lawful g.S.SeqStore.stands g.S.SeqStore.store_view g.S.SeqStore.constants (its c.args.self.now) c.requires.fresh c.args.i c.requires.due.low c.args.home.now.store _ _ c.requires.due.good_then

pub sync-requires-clause-open : goal.sync-requires-clause-open
sync-requires-clause-open g c = unclosed g.S.SeqStore.lawful g.S.SeqStore.stands g.S.SeqStore.store_view g.S.SeqStore.constants (its c.args.self.now) c.requires.fresh c.args.i c.requires.due.low c.args.home.now.store _ _ c.requires.due.good_then

pub returns-in-Count-clause-out : goal.returns-in-Count-clause-out
returns-in-Count-clause-out g c = ⊎_elim
    (λ (e : c.args.work ≡ Count). counted_out g.S.SeqStore.lawful g.S.SeqStore.stands g.S.SeqStore.store_view g.S.SeqStore.constants g.S.SeqStore.fault_count (its c.args.self.now) c.requires.fresh c.args.i g.S.SeqStore.reserved c.args.number (view c.args.pass.now) c.args.home.now.store c.args.home.now.broken c.requires.whole
    (subst (λ (w : Work). IsDue g.S.SeqStore.lawful g.S.SeqStore.stands g.S.SeqStore.store_view g.S.SeqStore.constants g.S.SeqStore.fault_count (its c.args.self.now) g.S.SeqStore.reserved w c.args.i c.args.number (view c.args.pass.now) c.args.home.now.store) e c.requires.due))
    (λ (e : c.args.work ≡ Keep). kept_out g.S.SeqStore.lawful g.S.SeqStore.stands g.S.SeqStore.store_view g.S.SeqStore.constants g.S.SeqStore.fault_count (its c.args.self.now) c.requires.fresh c.args.i g.S.SeqStore.reserved c.args.number (view c.args.pass.now) c.args.home.now.store c.args.home.now.broken c.requires.whole
    (subst (λ (w : Work). IsDue g.S.SeqStore.lawful g.S.SeqStore.stands g.S.SeqStore.store_view g.S.SeqStore.constants g.S.SeqStore.fault_count (its c.args.self.now) g.S.SeqStore.reserved w c.args.i c.args.number (view c.args.pass.now) c.args.home.now.store) e c.requires.due)) c.in-Count.is

pub returns-in-Sync-false-clause-out : goal.returns-in-Sync-false-clause-out
returns-in-Sync-false-clause-out g c = synced_out g.S.SeqStore.lawful g.S.SeqStore.stands g.S.SeqStore.store_view g.S.SeqStore.constants g.S.SeqStore.fault_count (its c.args.self.now) c.requires.fresh c.args.i g.S.SeqStore.reserved c.args.number (view c.args.pass.now) c.args.home.now.store c.sync.new.self c.args.home.now.broken c.requires.whole
    (subst (λ (w : Work). IsDue g.S.SeqStore.lawful g.S.SeqStore.stands g.S.SeqStore.store_view g.S.SeqStore.constants g.S.SeqStore.fault_count (its c.args.self.now) g.S.SeqStore.reserved w c.args.i c.args.number (view c.args.pass.now) c.args.home.now.store) (c.in-Sync-false.is ∙ ap Sync c.in-Sync-false.hard-test) c.requires.due)
    c.sync.result c.sync.ensures.stands c.sync.ensures.store_view c.sync.ensures.goes_on.same_nature c.sync.ensures.cause.later

pub returns-in-Sync-true-clause-out : goal.returns-in-Sync-true-clause-out
returns-in-Sync-true-clause-out g c = let is = c.in-Sync-true.is ∙ ap Sync c.in-Sync-true.hard-test in hardened_out g.S.SeqStore.lawful g.S.SeqStore.stands g.S.SeqStore.store_view g.S.SeqStore.constants g.S.SeqStore.fault_count (its c.args.self.now) c.requires.fresh c.args.i g.S.SeqStore.reserved c.args.number (view c.args.pass.now) c.args.home.now.store c.sync_hard.new.store c.args.home.now.broken c.requires.whole
    (subst (λ (w : Work). MarksSuit g.S.SeqStore.constants (its c.args.self.now) w) is c.requires.marks refl)
    (subst (λ (w : Work). IsDue g.S.SeqStore.lawful g.S.SeqStore.stands g.S.SeqStore.store_view g.S.SeqStore.constants g.S.SeqStore.fault_count (its c.args.self.now) g.S.SeqStore.reserved w c.args.i c.args.number (view c.args.pass.now) c.args.home.now.store) is c.requires.due)
    c.sync_hard.result c.sync_hard.ensures.stands c.sync_hard.ensures.floor c.sync_hard.ensures.constants c.sync_hard.ensures.tells c.sync_hard.ensures.open c.sync_hard.ensures.cause.later
