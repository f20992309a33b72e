use Rattle.tk_core.proofs.Halves.{splits, joins, knows_all}
use Rattle.tk_core.proofs.law.halves_keep_the_rule.Goals as goal

pub returns-clause-halves : goal.returns-clause-halves
returns-clause-halves c = record {
  split = λ s id v sound at may. splits _ _ _ _ _ _ _ _ _ sound id v at (may.live, may.held);
  join = λ s id other v u sound at there may. joins _ _ _ _ _ _ _ _ _ sound id v at other u there may;
}

pub returns-clause-whole : goal.returns-clause-whole
returns-clause-whole c = λ s id v sound at whole held.
    let all = knows_all _ _ _ _ _ _ _ _ _ sound id v at whole held in
    record { free = all.0; home = λ i. sound.home i (all.0 _); numbers = all.1; all = all.3; broke = all.2 }
