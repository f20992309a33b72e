use Rattle.tk_model.proofs.KeyOrders.{orders_keys}
use Rattle.tk_model.proofs.law.keys_in_line.Goals as goal

pub returns : goal.returns
returns c = orders_keys c.args.order
