use Rattle.tk_model.specs.RecordText.{pair_with}
use Rattle.tk_flat.proofs.LinesBack.{line-back}
use Rattle.tk_flat.proofs.tsv.write_line.Goals as goal

pub returns-clause-back : goal.returns-clause-back
returns-clause-back c = line-back (pair_with c.args.key.now c.args.value.now) c.escape.ensures.back c.escape-2.ensures.back
