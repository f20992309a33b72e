use Rattle.std.proofs.Common.{rules, ◌-◌, ap, ◌∙◌, arith}
use Rattle.tk_core.specs.Lists.{has, without}
use Rattle.tk_locks.specs.Calls.{view as view_of}
use Rattle.tk_locks.specs.View.{View}
use Rattle.tk_dbm.specs.Dbm.{view}
use Rattle.tk_dbm.proofs.AllKeys.{locks_self, locks_then, locks_given, falling_given, falling_held}
use Rattle.tk_dbm.proofs.dbm.Dbm.give_all_stripes.Goals as goal

pub loop-i-init : goal.loop-i-init
loop-i-init g c = record { own = (let e = c.args.self.now.framed in search rules); low = (let e = c.args.self.now.framed in search rules); kept = locks_self (view c.args.pass.now) }

pub give_stripe-requires-clause-lock : goal.give_stripe-requires-clause-lock
give_stripe-requires-clause-lock g c = let some = c.loop-i-test.true in let low = c.loop-i.invariant.low in
    ((omega arith), ap (has (c.loop-i.i - 1)) c.loop-i.invariant.own.held ∙ falling_held c.loop-i.i (c.loop-i.i - 1) (omega arith))

pub loop-i-preserved : goal.loop-i-preserved
loop-i-preserved g c = let step = c.give_stripe.ensures.step in let own = c.loop-i.invariant.own in let some = c.loop-i-test.true in let low = c.loop-i.invariant.low in record {
  own = record {
    own = c.give_stripe.ensures.own;
    held = ap (λ (z : View). z.caller.held) step ∙ ap (without (c.loop-i.i - 1)) own.held ∙ falling_given c.loop-i.i (c.loop-i.i - 1) (omega arith);
    breaking = ap (λ (z : View). z.caller.breaking) step ∙ own.breaking;
    fresh = own.fresh;
    writable = own.writable;
  };
  low = omega arith;
  kept = locks_then (view c.args.pass.now) (view c.loop-i.pass) (view_of c.give_stripe.new.pass) c.loop-i.invariant.kept (locks_given (c.loop-i.i - 1) (view c.loop-i.pass) (view_of c.give_stripe.new.pass) step);
}
