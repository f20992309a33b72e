use Rattle.std.proofs.Common.{refl, sym}
use Rattle.tk_proc.specs.Replies.{remove_reply}
use Rattle.tk_util.proofs.Crashing.{crash_with}
use Rattle.tk_util.proofs.CutShort.{cut_from_start, reply_cut}
use Rattle.tk_util.proofs.Interrupting.{reply_interrupted}
use Rattle.tk_util.proofs.Ready.{remove_fits}
use Rattle.tk_util.proofs.Replies.{called_done}
use Rattle.tk_util.proofs.key.remove_from.Goals as goal

pub returns-clause-call : goal.returns-clause-call
returns-clause-call g c =
    called_done _ _ remove_reply _ _ (λ was. refl) remove_fits _ _ _ _ _ _ _
    c.run_call-disk.ensures.made c.run_call-disk.ensures.no_room c.run_call-disk.ensures.refused c.run_call-disk.ensures.no_memory
    (λ was new. c.status.ensures was (sym new)) c.with_status-answer.ensures

pub returns-clause-crash : goal.returns-clause-crash
returns-clause-crash g c = crash_with _ _ _ _ _ _ (c.run_call-disk.ensures.crash refl) c.with_status-answer.ensures

pub returns-clause-crashes : goal.returns-clause-crashes
returns-clause-crashes g c = reply_interrupted (λ r k was. (remove_reply was).action) remove_reply c.args.key.now c.new-remover.result (λ was. refl) remove_fits _ _ _ _ _ _ _ (c.run_call-disk.ensures.crashes refl)

pub returns-clause-cut_short : goal.returns-clause-cut_short
returns-clause-cut_short g c =
    cut_from_start g.D.Disk.image g.D.Disk.may_leave g.D.Disk.past g.D.Disk.moment g.D.Disk.left_since g.D.Disk.left_with g.met.D.Disk.only_now g.met.D.Disk.only_with (g.D.Disk.image c.args.disk) _ c.args.disk _
    (reply_cut (λ r k was. (remove_reply was).action) remove_reply c.args.key.now c.new-remover.result (λ was. refl) remove_fits _ _ _ _ _ _ (c.run_call-disk.ensures.cut_short refl))
