use Rattle.std.proofs.Common.{◌+◌, ◌<◌, ◌^◌, ℕ, drop, sym, ap, ◌∙◌, arith}
use Rattle.tk_skipfile.specs.SkipText.{end_from}
use Rattle.tk_skipfile.proofs.TextSteps.{held_at, end_more, end_behind}
use Rattle.tk_skipfile.proofs.places.end_fits.Goals as goal

pub size_of-place-requires-clause-key : goal.size_of-place-requires-clause-key
size_of-place-requires-clause-key c =
    let held = held_at c.args.pairs.now c.loop-i.i c.index-pairs-i.result c.requires.held c.loop-i-test.true c.index-pairs-i.is in
    omega (arith, held.0, c.len.ensures)

pub size_of-place-requires-clause-value : goal.size_of-place-requires-clause-value
size_of-place-requires-clause-value c =
    let held = held_at c.args.pairs.now c.loop-i.i c.index-pairs-i.result c.requires.held c.loop-i-test.true c.index-pairs-i.is in
    omega (arith, held.1, c.len-in-loop-i.ensures)

pub loop-i-preserved : goal.loop-i-preserved
loop-i-preserved c =
    let p = c.index-pairs-i.result in
    let size = c.size_of-place.ensures.value p (sym c.len.ensures) (sym c.len-in-loop-i.ensures) in
    record {
      end = sym (end_more c.args.levels c.loop-i.i c.loop-i.place (c.loop-i.place + c.size_of-place.result) c.args.pairs.now p c.loop-i-test.true c.index-pairs-i.is (ap (λ (n : ℕ). c.loop-i.place + n) size)) ∙ c.loop-i.invariant.end;
      small = omega (arith, c.size_of-place.ensures.bound);
    }

pub returns-then-place-gt-LONGEST : goal.returns-then-place-gt-LONGEST
returns-then-place-gt-LONGEST c =
    let most = end_behind c.args.levels c.loop-i.i c.loop-i.place (drop c.loop-i.i c.args.pairs.now) in
    let far : 2 ^ 40 < end_from c.args.levels 0 32 c.args.pairs.now = omega (arith, most, c.loop-i.invariant.end) in
    grind arith
