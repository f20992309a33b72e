use Rattle.std.proofs.Common.{refl}
use Rattle.tk_block.specs.Text.{closing_front}
use Rattle.tk_block.proofs.closing.closing_front.Goals as goal

pub returns : goal.returns
unfolding closing_front
returns c = rw (c.to_be_bytes-s.ensures, c.to_be_bytes-c.ensures, c.to_be_bytes-n.ensures) refl
