use Rattle.std.proofs.Common.{take}
use Rattle.tk_core.proofs.Rings as rings
use Rattle.tk_core.proofs.Runs.{starts, step, run}
use Rattle.tk_core.proofs.law.all_reached_meet_the_rule.Goals as goal

pub returns : goal.returns
returns c = record {
  first = starts c.args.frame;
  step = λ x s t sound y. step c.args.frame s t sound x y;
  run = run c.args.frame;
  far = λ xs s t n sound r. let after = run c.args.frame (take n xs) s t sound r.done in (after, rings.no_ring _ _ _ _ _ _ _ _ _ after);
}
