use Rattle.std.proofs.Common.{[], ◌∷◌}
use Rattle.tk_disk.specs.MemFolder.{folder_is_out}
use Rattle.tk_util.proofs.Names.{all_home}
use Rattle.tk_util.proofs.tests.a_refused_file_that_is_not_given_back.Goals as goal

pub run_in-requires : goal.run_in-requires
run_in-requires g c =
    all_home (folder_is_out c.new-folder.result) (folder_is_out c.add.new.self) (120 ∷ 46 ∷ 116 ∷ 107 ∷ 104 ∷ []) c.new-folder.ensures.out c.in_ok-add.ensures.others_out c.in_ok-add.ensures.out
