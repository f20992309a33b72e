use Rattle.std.proofs.Common.{arith}
use Rattle.tk_page.proofs.Viewing.{view_found, view_again}
use Rattle.tk_page.proofs.view.page_here.Goals as goal

pub returns-clause-found : goal.returns-clause-found
returns-clause-found c = view_found c.args.bytes.now c.page_by_kind.result (λ i. omega (arith, c.type_inv.bytes i)) c.page_by_kind.ensures

pub returns-clause-again : goal.returns-clause-again
returns-clause-again c = view_again c.args.bytes.now c.page_by_kind.result c.page_by_kind.ensures
