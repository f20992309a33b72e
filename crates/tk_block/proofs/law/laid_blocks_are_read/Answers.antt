use Rattle.tk_block.proofs.Laid.{appended_are_laid, blocks_are_read}
use Rattle.tk_block.proofs.law.laid_blocks_are_read.Goals as goal

pub returns : goal.returns
returns c = record { appended = appended_are_laid; read = blocks_are_read }
