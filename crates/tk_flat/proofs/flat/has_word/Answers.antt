use Rattle.std.proofs.Common.{sym, ◌∙◌}
use Rattle.std.proofs.lemmas.Bool.{true≢false}
use Rattle.std.proofs.lemmas.Bool.Decides.{Decides-eqb}
use Rattle.std.proofs.lemmas.Slice.Eq.{starts_is}
use Rattle.tk_flat.specs.Flat.{flat_word}
use Rattle.tk_flat.proofs.flat.has_word.Goals as goal

pub returns-clause-yes : goal.returns-clause-yes
returns-clause-yes c = (starts_is Decides-eqb c.args.bytes.now flat_word c.starts_with.result c.starts_with.ensures.value).0

pub returns-clause-no : goal.returns-clause-no
returns-clause-no c lacks rest is = true≢false (sym ((starts_is Decides-eqb c.args.bytes.now flat_word c.starts_with.result c.starts_with.ensures.value).1 rest is) ∙ lacks)
