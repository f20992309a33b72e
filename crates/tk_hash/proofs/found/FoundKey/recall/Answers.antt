use Rattle.std.proofs.Common.{◌≡◌, ℕ, List, true, sym, ◌∙◌, ap, subst}
use Rattle.std.specs.Prelude.{IfSome}
use Rattle.std.specs.Option.{is_some}
use Rattle.tk_model.specs.Orders.{same_bytes}
use Rattle.tk_model.specs.Records.{find}
use Rattle.tk_model.proofs.KeyOrders.{same_told, same_itself}
use Rattle.tk_hash.proofs.found.FoundKey.recall.Goals as goal

pub returns-then-is_same-clause-right : goal.returns-then-is_same-clause-right
returns-then-is_same-clause-right c records is =
    subst (λ (k : List ℕ). IfSome c.args.self.now.present (λ there. there ≡ is_some (find k records))) (sym c.as_slice.ensures ∙ same_told c.as_slice.result.now c.args.key.now (sym c.is_same.ensures ∙ c.if-is_same.true)) is

pub returns-else-is_same-clause-saved : goal.returns-else-is_same-clause-saved
returns-else-is_same-clause-saved c = λ e.
    let is : same_bytes c.as_slice.result.now c.args.key.now ≡ true = ap (λ (k : List ℕ). same_bytes k c.args.key.now) (c.as_slice.ensures ∙ sym e) ∙ same_itself c.args.key.now in
    absurd (cc (is, c.is_same.ensures, c.if-is_same.false))
