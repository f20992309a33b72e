use Rattle.std.proofs.Common.{rules, ◌≡◌, suc, ◌+◌, take, [], refl, sym, subst, arith}
use Rattle.tk_core.specs.Program.{IsCore, state_of}
use Rattle.tk_core.specs.Steps.{Runs, RunsFar}
use Rattle.tk_core.proofs.RunRows.{runs_more, stopped, reached, same_reached}
use Rattle.tk_core.proofs.machine.Core.run.Goals as goal

pub returns-in_err-records-clause-no_ring : goal.returns-in_err-records-clause-no_ring
returns-in_err-records-clause-no_ring c = (reached c.args.self.now c.args.self.now [] (subst IsCore c.self.view_is c.self.invariant) refl refl).no_ring

pub returns-then-not-branch-clause-far : goal.returns-then-not-branch-clause-far
returns-then-not-branch-clause-far c =
    subst (λ n. RunsFar c.args.self.now.frame c.args.moves.now (state_of c.args.self.now) (state_of c.step.new.self) n) (sym c.loop-next.invariant.count)
    (stopped c.args.moves.now c.loop-next.next-index c.next-item.result c.args.self.now c.loop-next.self c.step.new.self c.in_ok-step.field-0 (search rules) (search rules) c.loop-next.invariant.frame c.loop-next.invariant.runs
    c.in_ok-step.ensures.answer c.if-not-branch.true)

pub returns-in_err-step-clause-sound : goal.returns-in_err-step-clause-sound
returns-in_err-step-clause-sound c = (same_reached c.loop-next.self c.step.new.self c.in_err-step.ensures.want (reached c.args.self.now c.loop-next.self (take c.loop-next.next-index c.args.moves.now) (subst IsCore c.self.view_is c.self.invariant) c.loop-next.invariant.frame c.loop-next.invariant.runs)).sound

pub returns-in_err-step-clause-no_ring : goal.returns-in_err-step-clause-no_ring
returns-in_err-step-clause-no_ring c = (same_reached c.loop-next.self c.step.new.self c.in_err-step.ensures.want (reached c.args.self.now c.loop-next.self (take c.loop-next.next-index c.args.moves.now) (subst IsCore c.self.view_is c.self.invariant) c.loop-next.invariant.frame c.loop-next.invariant.runs)).no_ring

pub returns-then-not-branch-clause-sound : goal.returns-then-not-branch-clause-sound
returns-then-not-branch-clause-sound c = (same_reached c.loop-next.self c.step.new.self (c.in_ok-step.ensures.answer.refused c.if-not-branch.true).0 (reached c.args.self.now c.loop-next.self (take c.loop-next.next-index c.args.moves.now) (subst IsCore c.self.view_is c.self.invariant) c.loop-next.invariant.frame c.loop-next.invariant.runs)).sound

pub returns-then-not-branch-clause-no_ring : goal.returns-then-not-branch-clause-no_ring
returns-then-not-branch-clause-no_ring c = (same_reached c.loop-next.self c.step.new.self (c.in_ok-step.ensures.answer.refused c.if-not-branch.true).0 (reached c.args.self.now c.loop-next.self (take c.loop-next.next-index c.args.moves.now) (subst IsCore c.self.view_is c.self.invariant) c.loop-next.invariant.frame c.loop-next.invariant.runs)).no_ring

pub returns-clause-sound : goal.returns-clause-sound
returns-clause-sound c = (reached c.args.self.now c.loop-next.self (take c.loop-next.next-index c.args.moves.now) (subst IsCore c.self.view_is c.self.invariant) c.loop-next.invariant.frame c.loop-next.invariant.runs).sound

pub returns-clause-no_ring : goal.returns-clause-no_ring
returns-clause-no_ring c = (reached c.args.self.now c.loop-next.self (take c.loop-next.next-index c.args.moves.now) (subst IsCore c.self.view_is c.self.invariant) c.loop-next.invariant.frame c.loop-next.invariant.runs).no_ring

pub loop-next-preserved : goal.loop-next-preserved
loop-next-preserved c =
    let done = c.in_ok-step.ensures.answer in
    let step = done.done c.if-not-branch.false in
    let e : suc c.loop-next.next-index ≡ c.loop-next.next-index + 1 = omega arith in
    record {
      frame = search rules;
      count = search rules;
      records = c.in_ok-step.ensures.records c.if-not-branch.false;
      runs = subst (λ n. Runs c.args.self.now.frame (take n c.args.moves.now) (state_of c.args.self.now) (state_of c.step.new.self)) e
          (runs_more c.args.self.now.frame c.args.moves.now c.loop-next.next-index c.next-item.result (state_of c.args.self.now) (state_of c.loop-next.self) (state_of c.step.new.self) (search rules) (search rules) c.loop-next.invariant.runs
          (search rules));
    }
