use Rattle.std.specs.Option.{option_copied}
use Rattle.std.proofs.Common.{◌≡◌, true, Some, None, is_some, if◌then◌else◌, sym, ap, ◌∙◌, subst}
use Rattle.tk_model.specs.Records.{IsClearAlone}
use Rattle.tk_proc.specs.Runs.{counted, unless_long, status_unless_long, action_changes}
use Rattle.tk_store.specs.Store.{AllFitWithin}
use Rattle.tk_core.specs.Needs.{MayCommit}
use Rattle.tk_locks.specs.Rule.{records_in}
use Rattle.tk_dbm.specs.Dbm.{its, setting, view}
use Rattle.tk_dbm.specs.Parts.{MayChange, MadeAt, Changed}
use Rattle.tk_dbm.specs.Room.{IsFull, AllHaveRoom}
use Rattle.tk_dbm.proofs.Changing.{needs_no_room}
use Rattle.tk_dbm.proofs.Ends.{ends_gave_up, ends_kept, ends_changed, may_keep, may_change, alone, fit, short_stores, writes_if, copied_then, some_then}
use Rattle.tk_dbm.proofs.dbm.Dbm.act.Goals as goal

pub returns-in_default-clause-ends : goal.returns-in_default-clause-ends
returns-in_default-clause-ends g c = ends_gave_up g.P.RecordProcessor.acts g.P.RecordProcessor.turns (setting g.S.SeqStore.lawful g.S.SeqStore.store_view g.S.SeqStore.fault_count c.args.self.now) (IsFull g.S.SeqStore.stands g.S.SeqStore.store_view g.S.SeqStore.constants (its c.args.self.now)) (AllHaveRoom g.S.SeqStore.stands g.S.SeqStore.store_view g.S.SeqStore.constants (its c.args.self.now)) c.args.writable c.args.p.now c.args.key.now c.args.i c.requires.key.0 c.requires.visit.low (view c.args.pass.now) (view c.give_up.new.pass) c.give_up.result c.give_up.ensures.answer c.give_up.ensures.quiet c.give_up.ensures.nothing

pub returns-in_default-changes_of-clause-ends : goal.returns-in_default-changes_of-clause-ends
returns-in_default-changes_of-clause-ends g c = ends_gave_up g.P.RecordProcessor.acts g.P.RecordProcessor.turns (setting g.S.SeqStore.lawful g.S.SeqStore.store_view g.S.SeqStore.fault_count c.args.self.now) (IsFull g.S.SeqStore.stands g.S.SeqStore.store_view g.S.SeqStore.constants (its c.args.self.now)) (AllHaveRoom g.S.SeqStore.stands g.S.SeqStore.store_view g.S.SeqStore.constants (its c.args.self.now)) c.args.writable c.args.p.now c.args.key.now c.args.i c.requires.key.0 c.requires.visit.low (view c.args.pass.now) (view c.give_up-in_default-changes_of.new.pass) c.give_up-in_default-changes_of.result
    c.give_up-in_default-changes_of.ensures.answer c.give_up-in_default-changes_of.ensures.quiet c.give_up-in_default-changes_of.ensures.nothing

pub keep-requires-clause-may : goal.keep-requires-clause-may
keep-requires-clause-may g c = subst (λ z. MayCommit (its c.args.self.now).frame (λ m. g.S.SeqStore.lawful m ≡ true) (records_in (its c.args.self.now).frame.order g.S.SeqStore.store_view (its c.args.self.now).start) z (view c.args.pass.now).caller) (sym c.requires.entry)
    (may_keep g.P.RecordProcessor.acts g.P.RecordProcessor.turns (setting g.S.SeqStore.lawful g.S.SeqStore.store_view g.S.SeqStore.fault_count c.args.self.now) (IsFull g.S.SeqStore.stands g.S.SeqStore.store_view g.S.SeqStore.constants (its c.args.self.now)) (AllHaveRoom g.S.SeqStore.stands g.S.SeqStore.store_view g.S.SeqStore.constants (its c.args.self.now)) c.args.writable c.args.p.now c.args.key.now c.args.i c.requires.key.0 c.requires.visit.low (view c.args.pass.now) c.requires.own.fresh.rising c.requires.law c.in-Ok-changes_of.changes (option_copied c.then_some-was.result) (c.in-Ok-changes_of.ensures (option_copied c.then_some-was.result) (ap (λ z. is_some (option_copied z)) c.then_some-was.ensures ∙ some_then c.args.found c.as_slice.result) ∙ ap (action_changes c.args.key.now (option_copied c.then_some-was.result)) (c.counted_action-action.ensures.action ∙ ap (λ z. unless_long (counted c.args.writable z)) c.in-Ok.ensures.action)) (λ tells. ap option_copied c.then_some-was.ensures ∙ copied_then c.args.found c.as_slice.result ∙ ap (λ z. if c.args.found then Some z else None) c.as_slice.ensures ∙ c.requires.value tells) c.requires.key.1 c.requires.allowance c.requires.key.2 c.requires.own.own.1.live (c.is_empty.ensures.0 c.if-is_empty.true))

pub returns-then-is_empty-clause-ends : goal.returns-then-is_empty-clause-ends
returns-then-is_empty-clause-ends g c = let made = c.keep.ensures.made in ends_kept g.P.RecordProcessor.acts g.P.RecordProcessor.turns (setting g.S.SeqStore.lawful g.S.SeqStore.store_view g.S.SeqStore.fault_count c.args.self.now) (IsFull g.S.SeqStore.stands g.S.SeqStore.store_view g.S.SeqStore.constants (its c.args.self.now)) (AllHaveRoom g.S.SeqStore.stands g.S.SeqStore.store_view g.S.SeqStore.constants (its c.args.self.now)) c.args.writable c.args.p.now c.args.key.now c.args.i c.requires.key.0 c.requires.visit.low (view c.args.pass.now) c.requires.own.fresh.rising c.requires.law c.in-Ok-changes_of.changes (option_copied c.then_some-was.result) (c.in-Ok-changes_of.ensures (option_copied c.then_some-was.result) (ap (λ z. is_some (option_copied z)) c.then_some-was.ensures ∙ some_then c.args.found c.as_slice.result) ∙ ap (action_changes c.args.key.now (option_copied c.then_some-was.result)) (c.counted_action-action.ensures.action ∙ ap (λ z. unless_long (counted c.args.writable z)) c.in-Ok.ensures.action)) (λ tells. ap option_copied c.then_some-was.ensures ∙ copied_then c.args.found c.as_slice.result ∙ ap (λ z. if c.args.found then Some z else None) c.as_slice.ensures ∙ c.requires.value tells) c.requires.key.1 c.requires.allowance c.requires.key.2
    (view c.keep.new.pass) c.keep.result made.0 (c.is_empty.ensures.0 c.if-is_empty.true)
    (made.1 ∙ ap (λ z. record { status = z; number = Some made.0 }) (c.counted_action-action.ensures.status ∙ ap (λ z. status_unless_long (counted c.args.writable z)) c.in-Ok.ensures.action))
    c.keep.ensures.quiet (subst (λ z. MadeAt (setting g.S.SeqStore.lawful g.S.SeqStore.store_view g.S.SeqStore.fault_count c.args.self.now) z (view c.args.pass.now).caller (view c.keep.new.pass).caller made.0) c.requires.entry made.2) (needs_no_room g.S.SeqStore.stands g.S.SeqStore.store_view g.S.SeqStore.constants (its c.args.self.now))

pub change-requires-clause-may : goal.change-requires-clause-may
change-requires-clause-may g c = subst (λ z. MayChange (setting g.S.SeqStore.lawful g.S.SeqStore.store_view g.S.SeqStore.fault_count c.args.self.now) z c.args.i c.in-Ok-changes_of.changes (view c.args.pass.now).caller) (sym c.requires.entry) (may_change g.P.RecordProcessor.acts g.P.RecordProcessor.turns (setting g.S.SeqStore.lawful g.S.SeqStore.store_view g.S.SeqStore.fault_count c.args.self.now) (IsFull g.S.SeqStore.stands g.S.SeqStore.store_view g.S.SeqStore.constants (its c.args.self.now)) (AllHaveRoom g.S.SeqStore.stands g.S.SeqStore.store_view g.S.SeqStore.constants (its c.args.self.now)) c.args.writable c.args.p.now c.args.key.now c.args.i c.requires.key.0 c.requires.visit.low (view c.args.pass.now) c.requires.own.fresh.rising c.requires.law c.in-Ok-changes_of.changes (option_copied c.then_some-was.result) (c.in-Ok-changes_of.ensures (option_copied c.then_some-was.result) (ap (λ z. is_some (option_copied z)) c.then_some-was.ensures ∙ some_then c.args.found c.as_slice.result) ∙ ap (action_changes c.args.key.now (option_copied c.then_some-was.result)) (c.counted_action-action.ensures.action ∙ ap (λ z. unless_long (counted c.args.writable z)) c.in-Ok.ensures.action)) (λ tells. ap option_copied c.then_some-was.ensures ∙ copied_then c.args.found c.as_slice.result ∙ ap (λ z. if c.args.found then Some z else None) c.as_slice.ensures ∙ c.requires.value tells) c.requires.key.1 c.requires.allowance c.requires.key.2)

pub change-requires-clause-writes : goal.change-requires-clause-writes
change-requires-clause-writes g c = c.requires.writes (writes_if c.args.writable c.args.key.now (option_copied c.then_some-was.result) (g.P.RecordProcessor.acts c.args.p.now c.args.key.now (option_copied c.then_some-was.result))
    (λ none. absurd (cc (c.is_empty.ensures.1 ((c.in-Ok-changes_of.ensures (option_copied c.then_some-was.result) (ap (λ z. is_some (option_copied z)) c.then_some-was.ensures ∙ some_then c.args.found c.as_slice.result) ∙ ap (action_changes c.args.key.now (option_copied c.then_some-was.result)) (c.counted_action-action.ensures.action ∙ ap (λ z. unless_long (counted c.args.writable z)) c.in-Ok.ensures.action)) ∙ none), c.if-is_empty.false))))

pub change-requires-clause-alone : goal.change-requires-clause-alone
change-requires-clause-alone g c = subst IsClearAlone (sym (c.in-Ok-changes_of.ensures (option_copied c.then_some-was.result) (ap (λ z. is_some (option_copied z)) c.then_some-was.ensures ∙ some_then c.args.found c.as_slice.result) ∙ ap (action_changes c.args.key.now (option_copied c.then_some-was.result)) (c.counted_action-action.ensures.action ∙ ap (λ z. unless_long (counted c.args.writable z)) c.in-Ok.ensures.action))) (alone c.args.key.now (option_copied c.then_some-was.result) (unless_long (counted c.args.writable (g.P.RecordProcessor.acts c.args.p.now c.args.key.now (option_copied c.then_some-was.result)))))

pub change-requires-clause-fit : goal.change-requires-clause-fit
change-requires-clause-fit g c = subst (AllFitWithin 16777215) (sym (c.in-Ok-changes_of.ensures (option_copied c.then_some-was.result) (ap (λ z. is_some (option_copied z)) c.then_some-was.ensures ∙ some_then c.args.found c.as_slice.result) ∙ ap (action_changes c.args.key.now (option_copied c.then_some-was.result)) (c.counted_action-action.ensures.action ∙ ap (λ z. unless_long (counted c.args.writable z)) c.in-Ok.ensures.action))) (fit c.args.key.now (option_copied c.then_some-was.result) (unless_long (counted c.args.writable (g.P.RecordProcessor.acts c.args.p.now c.args.key.now (option_copied c.then_some-was.result)))) c.requires.key.1 (short_stores (counted c.args.writable (g.P.RecordProcessor.acts c.args.p.now c.args.key.now (option_copied c.then_some-was.result)))))

pub returns-clause-ends : goal.returns-clause-ends
returns-clause-ends g c = ends_changed g.P.RecordProcessor.acts g.P.RecordProcessor.turns (setting g.S.SeqStore.lawful g.S.SeqStore.store_view g.S.SeqStore.fault_count c.args.self.now) (IsFull g.S.SeqStore.stands g.S.SeqStore.store_view g.S.SeqStore.constants (its c.args.self.now)) (AllHaveRoom g.S.SeqStore.stands g.S.SeqStore.store_view g.S.SeqStore.constants (its c.args.self.now)) c.args.writable c.args.p.now c.args.key.now c.args.i c.requires.key.0 c.requires.visit.low (view c.args.pass.now) c.requires.own.fresh.rising c.requires.law c.in-Ok-changes_of.changes (option_copied c.then_some-was.result) (c.in-Ok-changes_of.ensures (option_copied c.then_some-was.result) (ap (λ z. is_some (option_copied z)) c.then_some-was.ensures ∙ some_then c.args.found c.as_slice.result) ∙ ap (action_changes c.args.key.now (option_copied c.then_some-was.result)) (c.counted_action-action.ensures.action ∙ ap (λ z. unless_long (counted c.args.writable z)) c.in-Ok.ensures.action)) (λ tells. ap option_copied c.then_some-was.ensures ∙ copied_then c.args.found c.as_slice.result ∙ ap (λ z. if c.args.found then Some z else None) c.as_slice.ensures ∙ c.requires.value tells) c.requires.key.1 c.requires.allowance c.requires.key.2
    (view c.change.new.pass) c.change.result (λ e. absurd (cc (c.is_empty.ensures.1 e, c.if-is_empty.false))) (subst (λ z. Changed (setting g.S.SeqStore.lawful g.S.SeqStore.store_view g.S.SeqStore.fault_count c.args.self.now) (IsFull g.S.SeqStore.stands g.S.SeqStore.store_view g.S.SeqStore.constants (its c.args.self.now)) (AllHaveRoom g.S.SeqStore.stands g.S.SeqStore.store_view g.S.SeqStore.constants (its c.args.self.now)) c.args.i z (view c.args.pass.now) c.change.result (view c.change.new.pass)) c.requires.entry c.change.ensures.changed)
