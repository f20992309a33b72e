use Rattle.std.proofs.Common.{ℕ, List, refl, sym, ◌∙◌, ap, true}
use Rattle.tk_proc.specs.Replies.{set_reply}
use Rattle.tk_util.proofs.Crashing.{crash_with}
use Rattle.tk_util.proofs.CutShort.{reply_cut, same_cut}
use Rattle.tk_util.proofs.Interrupting.{reply_interrupted, same_unopened}
use Rattle.tk_util.proofs.Ready.{set_fits, set_success}
use Rattle.tk_util.proofs.Replies.{called_done}
use Rattle.tk_util.proofs.set.set_more.Goals as goal

pub returns-clause-call : goal.returns-clause-call
returns-clause-call g c =
    called_done _ _ (set_reply c.args.value.now true) _ _ (λ was. ap (λ (v : List ℕ). (set_reply v true was).action) (c.new-setter.ensures ∙ c.in-Ok.ensures)) (set_fits c.args.value.now c.requires.value) _ _ _ _ _ _ _
    c.run_call-disk.ensures.made c.run_call-disk.ensures.no_room c.run_call-disk.ensures.refused c.run_call-disk.ensures.no_memory
    (λ was new. c.status.ensures was ∙ set_success _ was ∙ sym (set_success _ was)) c.with_status-answer.ensures

pub returns-clause-crash : goal.returns-clause-crash
returns-clause-crash g c = crash_with _ _ _ _ _ _ (c.run_call-disk.ensures.crash refl) c.with_status-answer.ensures

pub returns-clause-crashes : goal.returns-clause-crashes
returns-clause-crashes g c =
    reply_interrupted (λ (s : List ℕ) k was. (set_reply s true was).action) (set_reply c.args.value.now true) c.args.key.now c.new-setter.result (λ was. ap (λ (v : List ℕ). (set_reply v true was).action) (c.new-setter.ensures ∙ c.in-Ok.ensures))
    (set_fits c.args.value.now c.requires.value) _ _ _ _ _ _ _ (c.run_call-disk.ensures.crashes refl)

pub returns-in_default-clause-crashes : goal.returns-in_default-clause-crashes
returns-in_default-clause-crashes g c = same_unopened g.D.Disk.image g.D.Disk.may_leave g.D.Disk.past g.D.Disk.moment g.D.Disk.left_since g.D.Disk.left_with (g.D.Disk.image c.args.disk) _ c.args.disk

pub returns-clause-cut_short : goal.returns-clause-cut_short
returns-clause-cut_short g c =
    reply_cut (λ (s : List ℕ) k was. (set_reply s true was).action) (set_reply c.args.value.now true) c.args.key.now c.new-setter.result (λ was. ap (λ (v : List ℕ). (set_reply v true was).action) (c.new-setter.ensures ∙ c.in-Ok.ensures))
    (set_fits c.args.value.now c.requires.value) _ _ _ _ _ _ (c.run_call-disk.ensures.cut_short refl)

pub returns-in_default-clause-cut_short : goal.returns-in_default-clause-cut_short
returns-in_default-clause-cut_short g c = same_cut g.D.Disk.image g.D.Disk.may_leave g.D.Disk.past g.D.Disk.moment g.D.Disk.left_since g.D.Disk.left_with g.met.D.Disk.since_with (g.D.Disk.image c.args.disk) _ c.args.disk
