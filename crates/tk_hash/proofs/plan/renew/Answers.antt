use Rattle.std.proofs.Common.{◌≡◌, length, drop, get_or, sym, ◌∙◌, ap, arith}
use Rattle.std.proofs.lemmas.List.{drop_all, drop_more, length-set}
use Rattle.tk_hash.specs.declared.plan.NewHead.{NewHead}
use Rattle.tk_hash.specs.Plan.{with_new}
use Rattle.tk_hash.proofs.HeadTexts.{below_more}
use Rattle.tk_hash.proofs.plan.renew.Goals as goal
