use Rattle.std.proofs.Common.{[], ◌∷◌}
use Rattle.tk_disk.specs.MemFolder.{folder_is_out}
use Rattle.tk_util.proofs.Names.{all_home}
use Rattle.tk_util.proofs.tests.folder_of.Goals as goal

pub returns : goal.returns
returns c =
    all_home (folder_is_out c.new-folder.result) (folder_is_out c.add.new.self) (120 ∷ 46 ∷ 116 ∷ 107 ∷ 104 ∷ []) c.new-folder.ensures.out c.in_ok-add.ensures.others_out c.in_ok-add.ensures.out
