-- The words ask for one command.
use Rattle.std.proofs.Common.{◌≡◌, ℕ, List, subst}
use Rattle.std.specs.Prelude.{Option, Some, ◌⊎◌}
use Rattle.tk_status.specs.declared.finish.Finish.{Finish}
use Rattle.tk_util.specs.Words.{Command}
use Rattle.tk_util.specs.World.{World}
use Rattle.tk_util.specs.Ran.{Ran, EndsClearly, RoseOf}

pub same_of : (P : Command → Type 0) (o : Option Command) (c d : Command) → o ≡ Some c → o ≡ Some d → P d → P c
same_of P o c d one other p = let same : d ≡ c = cc (one, other) in subst P same p

pub same_ran : (before after : World) (finish : Finish) (o : Option Command) (c d : Command) → o ≡ Some c → o ≡ Some d → Ran d before after finish → Ran c before after finish
same_ran before after finish o c d one other ran = same_of (λ (x : Command). Ran x before after finish) o c d one other ran

pub same_settled : (before after : World) (old new : List ℕ → ℕ) (o : Option Command) (c d : Command) → o ≡ Some c → o ≡ Some d → EndsClearly d before after ⊎ RoseOf d old new → EndsClearly c before after ⊎ RoseOf c old new
same_settled before after old new o c d one other ends_clearly = same_of (λ (x : Command). EndsClearly x before after ⊎ RoseOf x old new) o c d one other ends_clearly
