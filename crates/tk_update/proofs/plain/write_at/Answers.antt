use Rattle.std.proofs.Common.{◌≡◌, ℕ, List, length, get_or, arith, sym, ◌∙◌, ap}
use Rattle.std.specs.Prelude.{slice_set, ◌==◌}
use Rattle.tk_block.specs.Layout.{Placed}
use Rattle.tk_update.specs.Blocks.{written_at}
use Rattle.tk_update.proofs.BlockSteps.{same_place}
use Rattle.tk_update.proofs.PlainSteps.{written_here}
use Rattle.tk_update.proofs.plain.write_at.Goals as goal

pub returns-then-place : goal.returns-then-place
returns-then-place c =
    let x = c.index-as_slice-i.result in
    let at : x.place ≡ c.args.place = sym c.place.ensures ∙ c.if-place.true in
    let new : c.new-written.result ≡ record { place = x.place; extent = x.extent; body = c.args.body } =
    c.new-written.ensures
    ∙ ap (λ (k : ℕ). record { place = k; extent = c.extent.result; body = c.args.body }) c.place-then-place.ensures
    ∙ ap (λ (k : ℕ). record { place = x.place; extent = k; body = c.args.body }) c.extent.ensures in
    c.set.ensures ∙ ap (slice_set c.loop-i.blocks c.loop-i.i) new
    ∙ written_here c.args.place c.args.body c.loop-i.blocks c.loop-i.i x (omega (arith, c.loop-i-test.true, c.len-i-end.ensures, ap length c.loop-i.invariant.0))
    (c.index-as_slice-i.is ∙ ap (λ (l : List Placed). get_or l c.loop-i.i x) c.as_slice.ensures) (ap (λ (k : ℕ). k == c.args.place) at ∙ same_place c.args.place) c.loop-i.invariant.1
    ∙ ap (written_at c.args.place c.args.body) c.loop-i.invariant.0
