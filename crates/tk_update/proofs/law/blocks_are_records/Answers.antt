use Rattle.tk_update.proofs.RestoredSteps.{restores_values}
use Rattle.tk_update.proofs.BlockSteps.{blocks_are_records}
use Rattle.tk_update.proofs.law.blocks_are_records.Goals as goal

pub returns : goal.returns
returns c = record { blocks = blocks_are_records c.args.order; restored = restores_values c.args.order }
