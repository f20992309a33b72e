use Rattle.std.proofs.Common.{ℕ, List, refl, sym, ◌∙◌, ap, subst, inr}
use Rattle.std.specs.Prelude.{Option}
use Rattle.tk_disk.specs.Disk.{Rose}
use Rattle.tk_disk.specs.Folder.{or_empty}
use Rattle.tk_util.specs.Restoring.{WroteNew}
use Rattle.tk_util.proofs.Making.{restores_after, unread_restores}
use Rattle.tk_util.proofs.OnFolder.{leaves_after}
use Rattle.tk_util.proofs.Restoring.{restored_ran, restored_settled, unread_settled, only_to, settled_at}
use Rattle.tk_util.proofs.restore.run_restore.Goals as goal

pub returns-in-Err-clause-ends_clearly : goal.returns-in-Err-clause-ends_clearly
returns-in-Err-clause-ends_clearly g c = λ left held tells.
    unread_settled _ _ _ (record { others = λ m ne. c.read_from.ensures.files tells m; left = refl; held = refl }) (c.read_from.ensures.files tells _)

pub returns-in-Ok-clause-ends_clearly : goal.returns-in-Ok-clause-ends_clearly
returns-in-Ok-clause-ends_clearly g c = λ left held tells.
    restored_settled _ _ _ (record { others = only_to _ (g.F.Folder.file c.read_from.new.folder) _ _ (c.read_from.ensures.files tells) c.write_to.ensures.others; left = refl; held = refl })
    (c.in-Ok.ensures.read tells).1
    (settled_at _ _ _ _ (c.read_from.ensures.files tells _) (c.write_to.ensures.ends_clearly (c.read_from.ensures.tells ∙ tells) _ (c.in-Ok.ensures.read tells).0))
    (λ rose. inr (subst (λ (k : ℕ). Rose k (g.F.Folder.disk_faults c.write_to.new.folder c.args.restore.to.now)) (c.in-Ok.ensures.disks_met _) rose))

pub returns-in-Ok-clause-crash : goal.returns-in-Ok-clause-crash
returns-in-Ok-clause-crash g c =
    leaves_after _ (g.F.Folder.tells c.read_from.new.folder) _ _ (g.F.Folder.file c.read_from.new.folder c.args.restore.to.now) _ _ (g.F.Folder.leaves c.read_from.new.folder) _ _ c.read_from.ensures.tells (λ tells. c.read_from.ensures.files tells _) c.read_from.ensures.crash c.write_to.ensures.crash

pub returns-in-Ok-clause-ran : goal.returns-in-Ok-clause-ran
returns-in-Ok-clause-ran g c = λ left held tells.
    restored_ran _ _ _ (record { others = only_to _ (g.F.Folder.file c.read_from.new.folder) _ _ (c.read_from.ensures.files tells) c.write_to.ensures.others; left = refl; held = refl })
    c.write_to.result (c.in-Ok.ensures.read tells).1
    (subst (λ (o : Option (List ℕ)). WroteNew (or_empty (g.F.Folder.file c.args.folder.now c.args.restore.from.now)) o (g.F.Folder.file c.write_to.new.folder c.args.restore.to.now) c.write_to.result) (c.read_from.ensures.files tells _) (c.write_to.ensures.wrote (c.read_from.ensures.tells ∙ tells) _ (c.in-Ok.ensures.read tells).0))
    c.write_to.ensures.ends

pub returns-in-Ok-clause-makes : goal.returns-in-Ok-clause-makes
returns-in-Ok-clause-makes g c = λ tells empty.
    restores_after (or_empty (g.F.Folder.file c.args.folder.now c.args.restore.from.now)) (c.in-Ok.ensures.read tells).1 _ _ _ _ _ _ _ _ _ _ _ (g.F.Folder.left_with c.write_to.new.folder c.args.restore.to.now) (c.read_from.ensures.history c.args.restore.to.now (λ is. c.requires.differ (sym is)))
    (c.write_to.ensures.makes (c.read_from.ensures.tells ∙ tells) _ (c.in-Ok.ensures.read tells).0 (ap or_empty (c.read_from.ensures.files tells _) ∙ empty))

pub returns-in-Err-clause-makes : goal.returns-in-Err-clause-makes
returns-in-Err-clause-makes g c = λ tells empty.
    unread_restores _ _ _ _ _ _ _ _ _ _ (c.read_from.ensures.history c.args.restore.to.now (λ is. c.requires.differ (sym is))) (g.met.F.Folder.only_with c.args.folder.now c.args.restore.to.now) (or_empty (g.F.Folder.file c.args.folder.now c.args.restore.from.now))
