use Rattle.std.proofs.Common.{arith}
use Rattle.tk_mem.proofs.Sizes.{size_found}
use Rattle.tk_mem.proofs.change.size_at.Goals as goal

pub overflow_add-result : goal.overflow_add-result
overflow_add-result c =
    let f = size_found c.args.key.now c.as_slice.result.now c.in-Some.value.now c.args.table.now c.as_slice.ensures c.in-Some.ensures in
    omega (arith, f, c.len.ensures, c.len-in-Some.ensures, c.requires, c.ranges.size.fits)

pub overflow_add-result-in-Some : goal.overflow_add-result-in-Some
overflow_add-result-in-Some c =
    let f = size_found c.args.key.now c.as_slice.result.now c.in-Some.value.now c.args.table.now c.as_slice.ensures c.in-Some.ensures in
    omega (arith, f, c.len.ensures, c.len-in-Some.ensures, c.requires, c.ranges.size.fits)

pub returns-in-Some-clause-within : goal.returns-in-Some-clause-within
returns-in-Some-clause-within c =
    let f = size_found c.args.key.now c.as_slice.result.now c.in-Some.value.now c.args.table.now c.as_slice.ensures c.in-Some.ensures in
    omega (arith, f, c.len.ensures, c.len-in-Some.ensures, c.requires)
