use Rattle.tk_flat.proofs.Fields.{first_digit-short}
use Rattle.tk_flat.proofs.field.read_hex.Goals as goal

pub returns-in_default-clause-none : goal.returns-in_default-clause-none
returns-in_default-clause-none c = first_digit-short c.args.bytes.now c.in_default.len_below
