use Rattle.tk_core.proofs.Rings as rings
use Rattle.tk_core.proofs.law.no_ring.Goals as goal

pub returns : goal.returns
returns c = λ s sound. rings.no_ring _ _ _ _ _ _ _ _ _ sound
