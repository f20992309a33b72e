use Rattle.tk_skipfile.proofs.Wordless.{none_behind, wordless_called}
use Rattle.tk_skipfile.proofs.pieces.flush.Goals as goal

pub returns-in_err-write_at-clause-no_word : goal.returns-in_err-write_at-clause-no_word
returns-in_err-write_at-clause-no_word g c =
    wordless_called g.D.Disk.may_leave g.D.Disk.past g.D.Disk.moment g.D.Disk.left_with g.met.D.Disk.only_with _ _ c.write_at.ensures.pasts
    (none_behind c.args.at.now _ _ _ c.requires.behind c.write_at.ensures.past)

pub returns-clause-no_word : goal.returns-clause-no_word
returns-clause-no_word g c =
    wordless_called g.D.Disk.may_leave g.D.Disk.past g.D.Disk.moment g.D.Disk.left_with g.met.D.Disk.only_with _ _ c.write_at.ensures.pasts
    (none_behind c.args.at.now _ _ _ c.requires.behind c.write_at.ensures.past)
