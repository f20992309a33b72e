use Rattle.std.proofs.Common.{refl, ◌∙◌}
use Rattle.tk_util.proofs.Making.{histories_joined}
use Rattle.tk_util.proofs.Names.{all_same, all_within}
use Rattle.tk_util.proofs.OnFolder.{others_through}
use Rattle.tk_util.proofs.Restoring.{read_stopped, read_files}
use Rattle.tk_util.proofs.restore.read_from.Goals as goal

pub returns-in-Err-clause-stopped : goal.returns-in-Err-clause-stopped
returns-in-Err-clause-stopped g c = read_stopped _ _ c.in-Err.stop _ c.in-Err.ensures.stopped c.end_of.ensures

pub returns-in-Err-clause-files : goal.returns-in-Err-clause-files
returns-in-Err-clause-files g c = λ tells. all_same _ _ c.args.name.now c.take_disk.ensures.others c.in-Err.ensures.same

pub returns-in-Err-clause-crash : goal.returns-in-Err-clause-crash
returns-in-Err-clause-crash g c = all_within _ _ c.args.name.now c.take_disk.ensures.others_crash c.in-Err.ensures.err_crash.crash

pub returns-in-Ok-Ok-clause-files : goal.returns-in-Ok-Ok-clause-files
returns-in-Ok-Ok-clause-files g c = λ tells.
    read_files _ (g.F.Folder.file c.take_disk.new.folder) _ c.args.name.now (g.F.D.Disk.image c.in-Ok.disk) (g.F.D.Disk.image c.read_image-read.new.from) (c.in-Ok.ensures.there refl tells) (c.in-Ok.ensures.image tells) c.read_image-read.ensures.image
    (c.give-given.ensures.here (c.take_disk.ensures.tells ∙ tells)) c.take_disk.ensures.others c.give-given.ensures.others

pub returns-in-Ok-Ok-clause-crash : goal.returns-in-Ok-Ok-clause-crash
returns-in-Ok-Ok-clause-crash g c =
    all_within _ _ c.args.name.now (others_through c.args.name.now _ (g.F.Folder.leaves c.take_disk.new.folder) _ c.take_disk.ensures.others_crash (λ m ne. (c.give-given.ensures.others_crash m ne).crash))
    (λ d l. c.in-Ok.ensures.crash.crash d (c.read_image-read.ensures.still d (c.give-given.ensures.crash.crash d l)))

pub returns-in-Ok-Err-clause-files : goal.returns-in-Ok-Err-clause-files
returns-in-Ok-Err-clause-files g c = λ tells.
    read_files _ (g.F.Folder.file c.take_disk.new.folder) _ c.args.name.now (g.F.D.Disk.image c.in-Ok.disk) (g.F.D.Disk.image c.read_image-read.new.from) (c.in-Ok.ensures.there refl tells) (c.in-Ok.ensures.image tells) c.read_image-read.ensures.image
    (c.give-given.ensures.here (c.take_disk.ensures.tells ∙ tells)) c.take_disk.ensures.others c.give-given.ensures.others

pub returns-in-Ok-Err-clause-crash : goal.returns-in-Ok-Err-clause-crash
returns-in-Ok-Err-clause-crash g c =
    all_within _ _ c.args.name.now (others_through c.args.name.now _ (g.F.Folder.leaves c.take_disk.new.folder) _ c.take_disk.ensures.others_crash (λ m ne. (c.give-given.ensures.others_crash m ne).crash))
    (λ d l. c.in-Ok.ensures.crash.crash d (c.read_image-read.ensures.still d (c.give-given.ensures.crash.crash d l)))

pub returns-in-Err-default-clause-files : goal.returns-in-Err-default-clause-files
returns-in-Err-default-clause-files g c = λ tells.
    read_files _ (g.F.Folder.file c.take_disk.new.folder) _ c.args.name.now (g.F.D.Disk.image c.in-Ok.disk) (g.F.D.Disk.image c.read_image-read.new.from) (c.in-Ok.ensures.there refl tells) (c.in-Ok.ensures.image tells) c.read_image-read.ensures.image
    (c.give-given.ensures.here (c.take_disk.ensures.tells ∙ tells)) c.take_disk.ensures.others c.give-given.ensures.others

pub returns-in-Err-default-clause-crash : goal.returns-in-Err-default-clause-crash
returns-in-Err-default-clause-crash g c =
    all_within _ _ c.args.name.now (others_through c.args.name.now _ (g.F.Folder.leaves c.take_disk.new.folder) _ c.take_disk.ensures.others_crash (λ m ne. (c.give-given.ensures.others_crash m ne).crash))
    (λ d l. c.in-Ok.ensures.crash.crash d (c.read_image-read.ensures.still d (c.give-given.ensures.crash.crash d l)))

pub returns-in-Ok-Ok-clause-history : goal.returns-in-Ok-Ok-clause-history
returns-in-Ok-Ok-clause-history g c = λ m ne. histories_joined _ _ _ _ _ _ _ _ _ _ _ _ _ _ _ (c.take_disk.ensures.others_history m ne) (c.give-given.ensures.others_crash m ne)

pub returns-in-Ok-Err-clause-history : goal.returns-in-Ok-Err-clause-history
returns-in-Ok-Err-clause-history g c = λ m ne. histories_joined _ _ _ _ _ _ _ _ _ _ _ _ _ _ _ (c.take_disk.ensures.others_history m ne) (c.give-given.ensures.others_crash m ne)

pub returns-in-Err-default-clause-history : goal.returns-in-Err-default-clause-history
returns-in-Err-default-clause-history g c = λ m ne. histories_joined _ _ _ _ _ _ _ _ _ _ _ _ _ _ _ (c.take_disk.ensures.others_history m ne) (c.give-given.ensures.others_crash m ne)
