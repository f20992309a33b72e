use Rattle.std.proofs.Common.{List, length, ap}
use Rattle.tk_model.specs.declared.record.Entry.{Entry}
use Rattle.tk_core.specs.Rule.{groups_of}
use Rattle.tk_core.proofs.Calls.{synced_hard}
use Rattle.tk_core.proofs.Commits.{commits}
use Rattle.tk_core.proofs.law.commits_keep_the_rule.Goals as goal

pub returns-clause-keeps : goal.returns-clause-keeps
returns-clause-keeps c = λ s id v e sound at may. commits _ _ _ _ _ _ _ _ _ sound id v at e may

pub returns-clause-safe : goal.returns-clause-safe
returns-clause-safe c = λ m log e i hard. ap (λ (es : List Entry). length (groups_of c.args.frame m es i)) (synced_hard log e hard)
