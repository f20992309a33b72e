use Rattle.std.proofs.Common.{subst, Decides}
use Rattle.tk_core.specs.Commits.{hand, MayActEach}
use Rattle.tk_core.proofs.Needs.{for_touches}
use Rattle.tk_core.proofs.commit.may_write.Goals as goal

pub returns-in-Proc : goal.returns-in-Proc
returns-in-Proc c =
    for_touches c.args.frame c.requires.frame (hand c.args.row.now) c.args.before.now c.args.after.now c.args.entry.now c.may_act_each.result c.requires.after c.in-Proc.touches c.in-Proc.is
    (subst (λ ts. Decides c.may_act_each.result (MayActEach c.args.frame (hand c.args.row.now) c.args.before.now c.args.after.now ts)) c.as_slice-in-Proc.ensures c.may_act_each.ensures)
