use Rattle.std.proofs.Common.{◌≡◌, inl, inr, Some, None, refl, sym, ap, ◌∙◌, subst, arith}
use Rattle.tk_status.specs.declared.Status.TheVariants.{System}
use Rattle.tk_core.specs.declared.frame.Frame.{Frame}
use Rattle.tk_core.specs.Covers.{IsFrame}
use Rattle.tk_locks.specs.declared.home.Home.{Home}
use Rattle.tk_locks.specs.Calls.{view as view_of}
use Rattle.tk_locks.specs.Rule.{count_at}
use Rattle.tk_locks.specs.Steps.{MayMark}
use Rattle.tk_locks.specs.View.{View, marked, noted}
use Rattle.tk_dbm.specs.Dbm.{its, view}
use Rattle.tk_dbm.proofs.Changing.{made_ready, may_mark, may_stay, fault_only}
use Rattle.tk_dbm.proofs.dbm.Dbm.make_call.Goals as goal
use Rattle.tk_dbm.proofs.dbm.Dbm.make_call.Goals.{in-Ok, in-Err}

pub apply-made-requires-clause-ready : goal.apply-made-requires-clause-ready
apply-made-requires-clause-ready g c = let framed = c.args.self.now.framed in
    made_ready g.S.SeqStore.lawful g.S.SeqStore.stands g.S.SeqStore.store_view g.S.SeqStore.constants g.S.SeqStore.fault_count (its c.args.self.now) c.args.i g.S.SeqStore.reserved g.J.Picked.entry (view c.args.pass.now) (view_of c.commit-number.new.pass) c.args.home
    c.commit-number.result _ c.requires.ready c.requires.out c.requires.whole.0 c.requires.whole.1 c.requires.may c.commit-number.ensures.step (subst IsFrame framed c.args.self.now.sized.0) (let b = ap (λ (z : Frame). z.base) framed in omega arith)

pub give_store-requires-clause-stays : goal.give_store-requires-clause-stays
give_store-requires-clause-stays g c =
    let step = c.commit-number.ensures.step in
    let unmarked : marked c.args.i (view_of c.commit-number.new.pass).marks ≡ None = ap (λ (z : View). marked c.args.i z.marks) step.5 ∙ c.requires.whole.1 in
    elim c.match-made.branch [
      | in-Ok w ↦ subst (λ (z : Home _). MayMark (its c.args.self.now).frame (count_at g.S.SeqStore.fault_count (its c.args.self.now).start) c.args.i (view_of c.commit-number.new.pass) z.broken) (sym w.home-is)
          (subst (MayMark (its c.args.self.now).frame (count_at g.S.SeqStore.fault_count (its c.args.self.now).start) c.args.i (view_of c.commit-number.new.pass)) (sym c.apply-made.ensures.whole)
          (may_stay (its c.args.self.now).frame (count_at g.S.SeqStore.fault_count (its c.args.self.now).start) c.args.i (view_of c.commit-number.new.pass) unmarked))
      | in-Err w ↦ subst (λ (z : Home _). MayMark (its c.args.self.now).frame (count_at g.S.SeqStore.fault_count (its c.args.self.now).start) c.args.i (view_of c.commit-number.new.pass) z.broken) (sym w.home-is)
          (may_mark (its c.args.self.now).frame (count_at g.S.SeqStore.fault_count (its c.args.self.now).start) c.args.i (noted c.args.i (view c.args.pass.now).counts) w.faults-faults.result (view_of c.commit-number.new.pass) c.requires.out.low unmarked c.requires.begun
          (let r = fault_only (g.S.SeqStore.fault_count c.args.home.store) (g.S.SeqStore.fault_count c.apply-made.new.home.store) c.apply-made.result _ w.in-Err.is c.apply-made.ensures.answers c.apply-made.ensures.cause in
          let e = w.faults-faults.ensures in let q = c.requires.out.counted in omega arith))
    ]

pub returns-clause-made : goal.returns-clause-made
returns-clause-made g c = record {
  n = c.commit-number.result;
  number = refl;
  between = view_of c.commit-number.new.pass;
  makes = c.commit-number.ensures.step;
  home = c.match-made.home;
  gave = c.give_store.ensures.step;
  how = elim c.match-made.branch [
    | in-Ok w ↦ inl (ap (λ z. z.broken) w.home-is ∙ c.apply-made.ensures.whole, w.status-is)
    | in-Err w ↦ inr (
      ap (λ z. z.broken) w.home-is ∙ ap Some w.faults-faults.ensures ∙ ap (λ z. Some (g.S.SeqStore.fault_count z.store)) (sym w.home-is),
      w.status-is ∙ ap System (w.faults-faults.ensures ∙ ap (λ z. g.S.SeqStore.fault_count z.store) (sym w.home-is)),
      (let r = fault_only (g.S.SeqStore.fault_count c.args.home.store) (g.S.SeqStore.fault_count c.apply-made.new.home.store) c.apply-made.result _ w.in-Err.is c.apply-made.ensures.answers c.apply-made.ensures.cause in
          let e = ap (λ z. g.S.SeqStore.fault_count z.store) w.home-is in let q = c.requires.out.counted in omega arith),
    )
  ];
}
