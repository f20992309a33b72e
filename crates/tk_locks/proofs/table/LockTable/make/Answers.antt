use Rattle.std.proofs.Common.{ap, ◌∙◌}
use Rattle.tk_locks.specs.Homes.{homes_of, bare}
use Rattle.tk_locks.proofs.Homes.{bare_homes}
use Rattle.tk_locks.proofs.table.LockTable.make.Goals as goal

pub returns-in-Err-clause-err : goal.returns-in-Err-clause-err
returns-in-Err-clause-err g c =
    c.from_vec.ensures ∙ c.unlodged.ensures ∙ ap bare (c.in-Err.ensures.err ∙ c.lodged-homes.ensures ∙ ap homes_of c.into_vec.ensures) ∙ bare_homes c.args.stores
