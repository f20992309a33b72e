use Rattle.std.proofs.Common.{length}
use Rattle.tk_hash.proofs.tests.sync_hard.Goals as goal

pub returns-clause-whole : goal.returns-clause-whole
returns-clause-whole c =
    let (first, since, hard, st) = c.requires.whole in
    (first, since, length since, c.in_ok-sync.ensures.stands first since hard st)
