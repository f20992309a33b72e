use Rattle.std.proofs.Common.{List, subst}
use Rattle.tk_hash.specs.declared.plan.NewHead.{NewHead}
use Rattle.tk_hash.specs.Plan.{IsNewest}
use Rattle.tk_hash.proofs.Once.{once_placed}
use Rattle.tk_hash.proofs.links.Chains.settle.Goals as goal

pub returns-clause-heads : goal.returns-clause-heads
returns-clause-heads c =
    let old : List NewHead = c.args.self.now.heads.items in
    let all : IsNewest c.remember.new.newest old = subst (λ (l : List NewHead). IsNewest c.remember.new.newest l) c.deref.ensures.value c.in_ok-remember.ensures in
    once_placed c.remember.new.newest old c.in_ok-self.field-0.items c.in_ok-self.ensures.ordered all c.in_ok-self.ensures.heads
