use Rattle.std.proofs.Common.{arith}
use Rattle.tk_page.proofs.Viewing.{copy_found, copy_again}
use Rattle.tk_page.proofs.read.read_page.Goals as goal

pub returns-clause-found : goal.returns-clause-found
returns-clause-found c = copy_found c.args.bytes.now c.copied_page.result (λ i. omega (arith, c.type_inv.bytes i)) c.copied_page.ensures

pub returns-clause-again : goal.returns-clause-again
returns-clause-again c = copy_again c.args.bytes.now c.copied_page.result c.copied_page.ensures
