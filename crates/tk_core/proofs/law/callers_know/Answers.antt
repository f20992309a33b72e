use Rattle.tk_core.proofs.Knows.{knows_which, knows_map, alone}
use Rattle.tk_core.proofs.law.callers_know.Goals as goal

pub returns : goal.returns
returns c = λ s id v sound at. record {
  records = (sound.knows id v at).still.records;
  groups = (sound.knows id v at).still.groups;
  hard = (sound.knows id v at).still.hard;
  broken = knows_which _ _ _ _ _ _ _ _ _ sound id v at;
  all = knows_map _ _ _ _ _ _ _ _ _ sound id v at;
  alone = alone _ _ _ _ _ _ _ _ _ sound id v at;
}
