use Rattle.std.proofs.Common.{◌≡◌, ◌&&◌, not, true, false, ◌∷◌, refl, ap, ◌∙◌, arith}
use Rattle.tk_status.specs.declared.Status.TheVariants as statuses
use Rattle.tk_core.specs.Lists.{without}
use Rattle.tk_core.proofs.Facts.{not_both}
use Rattle.tk_locks.specs.Calls.{view as view_of}
use Rattle.tk_locks.specs.View.{View}
use Rattle.tk_dbm.specs.Dbm.{its, setting, view}
use Rattle.tk_dbm.specs.OneKey.{key_entry, key_status}
use Rattle.tk_dbm.specs.Room.{IsFull, AllHaveRoom}
use Rattle.tk_dbm.specs.Setting.{uses_key}
use Rattle.tk_dbm.proofs.Visits.{taken_back}
use Rattle.tk_dbm.proofs.Ends.{ends_between, called_refused, both_true, first_false, second_false}
use Rattle.tk_dbm.proofs.dbm.Dbm.process.Goals as goal
use Rattle.tk_dbm.proofs.dbm.Dbm.process.Goals.{else-writable-via-then-writable+else-not-self, else-writable-via-else-writable}

pub returns-then-not-self-clause-called : goal.returns-then-not-self-clause-called
returns-then-not-self-clause-called g c =
    let writes : (c.args.writable && not c.args.self.now.writable) ≡ true = both_true c.args.writable (not c.args.self.now.writable) c.if-writable.true (ap not c.if-not-self.true) in
    called_refused (setting g.S.SeqStore.lawful g.S.SeqStore.store_view g.S.SeqStore.fault_count c.args.self.now) (IsFull g.S.SeqStore.stands g.S.SeqStore.store_view g.S.SeqStore.constants (its c.args.self.now)) (AllHaveRoom g.S.SeqStore.stands g.S.SeqStore.store_view g.S.SeqStore.constants (its c.args.self.now)) c.args.writable c.args.key.now (key_status g.P.RecordProcessor.acts g.P.RecordProcessor.turns (setting g.S.SeqStore.lawful g.S.SeqStore.store_view g.S.SeqStore.fault_count c.args.self.now) c.args.writable c.args.p.now c.args.key.now) (key_entry g.P.RecordProcessor.acts g.P.RecordProcessor.turns (setting g.S.SeqStore.lawful g.S.SeqStore.store_view g.S.SeqStore.fault_count c.args.self.now) c.args.writable c.args.p.now c.args.key.now) (view c.args.pass.now) c.refused.result statuses.Precondition
    c.refused.ensures tt writes c.requires.own.held (λ _. refl) (λ f. absurd (not_both (c.args.writable && not c.args.self.now.writable) writes f))

pub returns-then-allowance-eq0-clause-called : goal.returns-then-allowance-eq0-clause-called
returns-then-allowance-eq0-clause-called g c =
    let never : (c.args.writable && not c.args.self.now.writable) ≡ false = (elim c.else-writable.branch [
      | else-writable-via-then-writable+else-not-self w ↦ second_false c.args.writable (not c.args.self.now.writable) (ap not w.if-not-self.false)
      | else-writable-via-else-writable w ↦ first_false c.args.writable (not c.args.self.now.writable) w.if-writable.false
    ]) in
    called_refused (setting g.S.SeqStore.lawful g.S.SeqStore.store_view g.S.SeqStore.fault_count c.args.self.now) (IsFull g.S.SeqStore.stands g.S.SeqStore.store_view g.S.SeqStore.constants (its c.args.self.now)) (AllHaveRoom g.S.SeqStore.stands g.S.SeqStore.store_view g.S.SeqStore.constants (its c.args.self.now)) c.args.writable c.args.key.now (key_status g.P.RecordProcessor.acts g.P.RecordProcessor.turns (setting g.S.SeqStore.lawful g.S.SeqStore.store_view g.S.SeqStore.fault_count c.args.self.now) c.args.writable c.args.p.now c.args.key.now) (key_entry g.P.RecordProcessor.acts g.P.RecordProcessor.turns (setting g.S.SeqStore.lawful g.S.SeqStore.store_view g.S.SeqStore.fault_count c.args.self.now) c.args.writable c.args.p.now c.args.key.now) (view c.args.pass.now) c.refused-then-allowance-eq0.result statuses.Limit
    c.refused-then-allowance-eq0.ensures tt (let a = c.allowance.ensures.value in let z = c.if-allowance-eq0.true in omega arith) c.requires.own.held (λ t. absurd (not_both (c.args.writable && not c.args.self.now.writable) t never)) (λ _ _. refl)

pub returns-clause-called : goal.returns-clause-called
returns-clause-called g c =
    let never : (c.args.writable && not c.args.self.now.writable) ≡ false = (elim c.else-writable.branch [
      | else-writable-via-then-writable+else-not-self w ↦ second_false c.args.writable (not c.args.self.now.writable) (ap not w.if-not-self.false)
      | else-writable-via-else-writable w ↦ first_false c.args.writable (not c.args.self.now.writable) w.if-writable.false
    ]) in
    let took = c.take_stripe.ensures.step.2 in
    let gave = ap view_of c.trim.ensures ∙ c.give_stripe.ensures.step in
    record {
      ends = ends_between (setting g.S.SeqStore.lawful g.S.SeqStore.store_view g.S.SeqStore.fault_count c.args.self.now) (IsFull g.S.SeqStore.stands g.S.SeqStore.store_view g.S.SeqStore.constants (its c.args.self.now)) (AllHaveRoom g.S.SeqStore.stands g.S.SeqStore.store_view g.S.SeqStore.constants (its c.args.self.now)) c.args.writable (uses_key (setting g.S.SeqStore.lawful g.S.SeqStore.store_view g.S.SeqStore.fault_count c.args.self.now) c.args.key.now) (key_status g.P.RecordProcessor.acts g.P.RecordProcessor.turns (setting g.S.SeqStore.lawful g.S.SeqStore.store_view g.S.SeqStore.fault_count c.args.self.now) c.args.writable c.args.p.now c.args.key.now) (key_entry g.P.RecordProcessor.acts g.P.RecordProcessor.turns (setting g.S.SeqStore.lawful g.S.SeqStore.store_view g.S.SeqStore.fault_count c.args.self.now) c.args.writable c.args.p.now c.args.key.now) (view c.args.pass.now) (view_of c.take_stripe.new.pass) (view c.process_in-answer.new.pass) (view c.trim.new.self) c.process_in-answer.result
          (record { counts = ap (λ (z : View). z.counts) took; marks = ap (λ (z : View). z.marks) took; broke = ap (λ (z : View). z.caller.broke) took; met = ap (λ (z : View). z.caller.met) took })
          (record { counts = ap (λ (z : View). z.counts) gave; marks = ap (λ (z : View). z.marks) gave; broke = ap (λ (z : View). z.caller.broke) gave; met = ap (λ (z : View). z.caller.met) gave })
          (ap (λ (z : View). z.caller.seen) took) (ap (λ (z : View). z.caller.mine) took) (ap (λ (z : View). z.caller.allowance) took)
          (ap (λ (z : View). z.caller.seen) gave) (ap (λ (z : View). z.caller.mine) gave) (ap (λ (z : View). z.caller.allowance) gave) c.process_in-answer.ensures.ends;
      refused = λ t. absurd (not_both (c.args.writable && not c.args.self.now.writable) t never);
      limited = λ _ z. absurd (let a = c.allowance.ensures.value in let n = c.if-allowance-eq0.false in omega arith);
      idle = ap (λ (z : View). z.caller.held) gave ∙ ap (without c.stripe-lock.result) (c.process_in-answer.ensures.own.held ∙ ap (λ (z : View). z.caller.held) took ∙ ap (λ z. c.stripe-lock.result ∷ z) c.requires.own.held) ∙ taken_back true c.stripe-lock.result;
    }
