use Rattle.tk_model.proofs.KeyOrders.{same_told, same_itself}
use Rattle.tk_proc.proofs.law.values_are_met_alone.Goals as goal

pub returns : goal.returns
returns c = record { alone = same_told; itself = same_itself }
