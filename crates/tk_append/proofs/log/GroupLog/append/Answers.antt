use Rattle.std.proofs.Common.{inl, ℕ, ◌+◌, List, length, sym, ◌∙◌, ap, subst, refl, arith}
use Rattle.tk_disk.specs.Crash.{Torn, Follows, LeavesOnly, PastOnly}
use Rattle.tk_disk.specs.Past.{Writes}
use Rattle.tk_disk.proofs.Moments.{TornOf, leaves_torn}
use Rattle.tk_block.specs.Blocks.{group_bodies}
use Rattle.tk_block.specs.Layout.{end_of}
use Rattle.tk_append.proofs.LogSteps.{ready_text, text_is, end_is, written_end, end_more, there_more}
use Rattle.tk_append.proofs.PastSteps.{past_held}
use Rattle.tk_append.proofs.log.GroupLog.append.Goals as goal

pub renumber-requires : goal.renumber-requires
renumber-requires g c =
    let r = c.requires.reserved_text in
    ready_text c.args.self.now.reserved_text c.args.self.now.end c.args.number r.0 r.1 r.2.fit r.2.text r.3

pub write_at-requires-clause-end : goal.write_at-requires-clause-end
write_at-requires-clause-end g c =
    let r = c.requires.reserved_text in
    omega (arith, end_is c.args.self.now.end c.args.number c.as_slice.result.now r.0 r.1 (c.as_slice.ensures ∙ text_is c.args.self.now c.args.number _ r.0 r.1 r.2 c.renumber.ensures), r.3)

pub overflow_add-self : goal.overflow_add-self
overflow_add-self g c =
    let r = c.requires.reserved_text in
    omega (arith, end_is c.args.self.now.end c.args.number c.renumber.new.text r.0 r.1 (text_is c.args.self.now c.args.number _ r.0 r.1 r.2 c.renumber.ensures), c.len.ensures, r.3)

pub returns-clause-written : goal.returns-clause-written
returns-clause-written g c = λ cs links reserved_text.
    written_end (g.D.Disk.image c.args.self.now.disk) _ c.args.self.now.end c.as_slice.result.now _ c.requires.here
    (c.as_slice.ensures ∙ text_is c.args.self.now c.args.number _ cs links reserved_text c.renumber.ensures) c.in_ok-write_at.ensures.written

pub returns-clause-end : goal.returns-clause-end
returns-clause-end g c = λ cs links reserved_text.
    ap (λ (n : ℕ). c.args.self.now.end + n) c.len.ensures ∙ end_is c.args.self.now.end c.args.number c.renumber.new.text cs links (text_is c.args.self.now c.args.number _ cs links reserved_text c.renumber.ensures)

pub returns-clause-stands : goal.returns-clause-stands
returns-clause-stands g c = λ groups cs links stands reserved_text linked.
    let text = text_is c.args.self.now c.args.number _ cs links reserved_text c.renumber.ensures in
    record {
      end_is =
          ap (λ (n : ℕ). c.args.self.now.end + n) c.len.ensures
          ∙ end_is c.args.self.now.end c.args.number c.renumber.new.text cs links text
          ∙ ap (λ (n : ℕ). end_of n (group_bodies c.args.number cs)) stands.end_is
          ∙ sym (end_more _ groups (record { number = c.args.number; changes = cs }));
      there =
          there_more (g.D.Disk.image c.args.self.now.disk) _ c.args.self.now.head groups (record { number = c.args.number; changes = cs }) c.args.self.now.end links stands.end_is linked stands.there
          (written_end (g.D.Disk.image c.args.self.now.disk) _ c.args.self.now.end c.as_slice.result.now _ c.requires.here (c.as_slice.ensures ∙ text) c.in_ok-write_at.ensures.written);
    }

pub returns-in_err-write_at-clause-crash : goal.returns-in_err-write_at-clause-crash
returns-in_err-write_at-clause-crash g c = λ cs links reserved_text.
    subst (λ (l : List ℕ). Follows (Torn c.args.self.now.end (length l)) (g.D.Disk.may_leave c.args.self.now.disk) (g.D.Disk.may_leave c.write_at.new.self))
    (c.as_slice.ensures ∙ text_is c.args.self.now c.args.number _ cs links reserved_text c.renumber.ensures) c.write_at.ensures.crash

pub returns-clause-crash : goal.returns-clause-crash
returns-clause-crash g c = λ cs links reserved_text.
    subst (λ (l : List ℕ). Follows (Torn c.args.self.now.end (length l)) (g.D.Disk.may_leave c.args.self.now.disk) (g.D.Disk.may_leave c.write_at.new.self))
    (c.as_slice.ensures ∙ text_is c.args.self.now c.args.number _ cs links reserved_text c.renumber.ensures) c.write_at.ensures.crash

pub returns-in_err-write_at-clause-time : goal.returns-in_err-write_at-clause-time
returns-in_err-write_at-clause-time g c = λ cs links reserved_text.
    subst (λ (l : List ℕ). LeavesOnly g.D.Disk.moment g.D.Disk.left_since c.args.self.now.disk c.write_at.new.self (TornOf g.D.Disk.may_leave g.D.Disk.moment g.D.Disk.left_since c.args.self.now.disk c.args.self.now.end (length l)))
    (c.as_slice.ensures ∙ text_is c.args.self.now c.args.number _ cs links reserved_text c.renumber.ensures)
    (leaves_torn g.D.Disk.may_leave g.D.Disk.moment g.D.Disk.left_since g.met.D.Disk.only_now _ _ _ _ c.write_at.ensures.crash c.write_at.ensures.time)

pub returns-clause-time : goal.returns-clause-time
returns-clause-time g c = λ cs links reserved_text.
    subst (λ (l : List ℕ). LeavesOnly g.D.Disk.moment g.D.Disk.left_since c.args.self.now.disk c.write_at.new.self (TornOf g.D.Disk.may_leave g.D.Disk.moment g.D.Disk.left_since c.args.self.now.disk c.args.self.now.end (length l)))
    (c.as_slice.ensures ∙ text_is c.args.self.now c.args.number _ cs links reserved_text c.renumber.ensures)
    (leaves_torn g.D.Disk.may_leave g.D.Disk.moment g.D.Disk.left_since g.met.D.Disk.only_now _ _ _ _ c.write_at.ensures.crash c.write_at.ensures.time)

pub returns-in_err-write_at-clause-past : goal.returns-in_err-write_at-clause-past
returns-in_err-write_at-clause-past g c = λ cs links reserved_text.
    subst (λ (l : List ℕ). Writes c.args.self.now.end l (g.D.Disk.past c.args.self.now.disk) (g.D.Disk.past c.write_at.new.self))
    (c.as_slice.ensures ∙ text_is c.args.self.now c.args.number _ cs links reserved_text c.renumber.ensures) c.write_at.ensures.past

pub returns-in_err-write_at-clause-pasts : goal.returns-in_err-write_at-clause-pasts
returns-in_err-write_at-clause-pasts g c = λ cs links reserved_text.
    subst (λ (l : List ℕ). PastOnly g.D.Disk.moment g.D.Disk.left_with c.args.self.now.disk c.write_at.new.self (Writes c.args.self.now.end l (g.D.Disk.past c.args.self.now.disk)))
    (c.as_slice.ensures ∙ text_is c.args.self.now c.args.number _ cs links reserved_text c.renumber.ensures)
    (past_held g.D.Disk.may_leave g.D.Disk.moment g.D.Disk.past g.D.Disk.left_with g.met.D.Disk.only_with _ _ _ c.write_at.ensures.pasts (inl refl) c.write_at.ensures.past)

pub returns-clause-past : goal.returns-clause-past
returns-clause-past g c = λ cs links reserved_text.
    subst (λ (l : List ℕ). Writes c.args.self.now.end l (g.D.Disk.past c.args.self.now.disk) (g.D.Disk.past c.write_at.new.self))
    (c.as_slice.ensures ∙ text_is c.args.self.now c.args.number _ cs links reserved_text c.renumber.ensures) c.write_at.ensures.past

pub returns-clause-pasts : goal.returns-clause-pasts
returns-clause-pasts g c = λ cs links reserved_text.
    subst (λ (l : List ℕ). PastOnly g.D.Disk.moment g.D.Disk.left_with c.args.self.now.disk c.write_at.new.self (Writes c.args.self.now.end l (g.D.Disk.past c.args.self.now.disk)))
    (c.as_slice.ensures ∙ text_is c.args.self.now c.args.number _ cs links reserved_text c.renumber.ensures)
    (past_held g.D.Disk.may_leave g.D.Disk.moment g.D.Disk.past g.D.Disk.left_with g.met.D.Disk.only_with _ _ _ c.write_at.ensures.pasts (inl refl) c.write_at.ensures.past)
