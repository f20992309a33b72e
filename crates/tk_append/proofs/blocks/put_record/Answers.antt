use Rattle.std.proofs.Common.{◌≡◌, ◌+◌, length, ap, arith, ◌∙◌}
use Rattle.tk_model.specs.declared.record.Change.TheVariants.{Put}
use Rattle.tk_block.specs.Blocks.{body_of, extent_of, extent_for}
use Rattle.tk_append.proofs.Layouts.{length-grown}
use Rattle.tk_append.proofs.blocks.put_record.Goals as goal

pub flush_piece-requires-clause-end : goal.flush_piece-requires-clause-end
flush_piece-requires-clause-end g c =
    let grown = length-grown _ _ _ _ _ c.in_ok-write_block.ensures.ok in
    let same : extent_for (44 + length c.as_slice.result.now + length c.as_slice-2.result.now) ≡ extent_of (body_of c.args.number (Put c.args.pair.now) c.args.last) =
    ap (λ k. extent_for (44 + length k + length c.as_slice-2.result.now)) c.as_slice.ensures ∙ ap (λ v. extent_for (44 + length c.args.pair.now.key + length v)) c.as_slice-2.ensures in
    omega (arith, grown, same, c.requires.end)

pub returns-clause-end : goal.returns-clause-end
returns-clause-end g c =
    let grown = length-grown _ _ _ _ _ c.in_ok-write_block.ensures.ok in
    let same : extent_for (44 + length c.as_slice.result.now + length c.as_slice-2.result.now) ≡ extent_of (body_of c.args.number (Put c.args.pair.now) c.args.last) =
    ap (λ k. extent_for (44 + length k + length c.as_slice-2.result.now)) c.as_slice.ensures ∙ ap (λ v. extent_for (44 + length c.args.pair.now.key + length v)) c.as_slice-2.ensures in
    omega (arith, grown, same, c.in_ok-flush_piece.ensures.end)
