use Rattle.std.proofs.Common.{rules, ◌∷◌, sym, ap, ◌∙◌, subst, arith}
use Rattle.tk_core.specs.Lists.{AllBelow}
use Rattle.tk_locks.specs.Calls.{view as view_of}
use Rattle.tk_locks.specs.View.{View}
use Rattle.tk_dbm.specs.Dbm.{view}
use Rattle.tk_dbm.proofs.AllKeys.{locks_self, locks_then, locks_taken, weighs_still, falling_below, falling_more}
use Rattle.tk_dbm.proofs.dbm.Dbm.take_all_stripes.Goals as goal

pub loop-i-init : goal.loop-i-init
loop-i-init g c = record { own = c.requires.own; low = omega arith; kept = locks_self (view c.args.pass.now) }

pub take_stripe-requires-clause-lock : goal.take_stripe-requires-clause-lock
take_stripe-requires-clause-lock g c = ((let e = c.args.self.now.framed in let t = c.loop-i-test.true in search rules), subst (AllBelow c.loop-i.i) (sym c.loop-i.invariant.own.held) (falling_below c.loop-i.i), weighs_still (view c.args.pass.now) (view c.loop-i.pass) c.loop-i.invariant.kept c.requires.weighs)

pub loop-i-preserved : goal.loop-i-preserved
loop-i-preserved g c = let step = c.take_stripe.ensures.step in let own = c.loop-i.invariant.own in record {
  own = record {
    own = c.take_stripe.ensures.own;
    held = ap (λ (z : View). z.caller.held) step.2 ∙ ap (λ z. c.loop-i.i ∷ z) own.held ∙ sym (falling_more c.loop-i.i);
    breaking = ap (λ (z : View). z.caller.breaking) step.2 ∙ own.breaking;
    fresh = own.fresh;
    writable = own.writable;
  };
  low = (let t = c.loop-i-test.true in search rules);
  kept = locks_then (view c.args.pass.now) (view c.loop-i.pass) (view_of c.take_stripe.new.pass) c.loop-i.invariant.kept (locks_taken c.loop-i.i step.0 (view c.loop-i.pass) (view_of c.take_stripe.new.pass) step.2);
}
