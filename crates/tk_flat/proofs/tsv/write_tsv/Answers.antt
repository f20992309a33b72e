use Rattle.std.proofs.Common.{◌≡◌, ◌++◌, subst, List, ℕ, ◌<◌, length, slice_index_or}
use Rattle.std.proofs.lemmas.List.{take_all}
use Rattle.std.proofs.lemmas.List.Elements.{All-nil, All-more}
use Rattle.tk_model.specs.declared.record.Pair.{Pair}
use Rattle.tk_flat.specs.Tsv.{IsReadBack, line_text}
use Rattle.tk_flat.proofs.LinesBack.{tsv_back, tsv_text-nil, tsv_text-more}
use Rattle.tk_flat.proofs.tsv.write_tsv.Goals as goal

pub loop-pair-init : goal.loop-pair-init
loop-pair-init c = (tsv_text-nil c.args.out.now, All-nil IsReadBack)

pub loop-pair-preserved : goal.loop-pair-preserved
loop-pair-preserved c =
    let items = c.as_slice-pair-items.result.now in
    let i = c.loop-pair.pair-index in
    let pair = c.pair-item.result in
    let written : c.write_line.new.out ≡ c.loop-pair.out ++ line_text pair = rw (c.as_slice.ensures, c.as_slice-in-loop-pair.ensures) at c.in_ok-write_line.ensures.ok in
    let back : IsReadBack pair = rw (c.as_slice.ensures, c.as_slice-in-loop-pair.ensures) at c.in_ok-write_line.ensures.back in (
      tsv_text-more c.args.out.now c.loop-pair.out c.write_line.new.out items i pair c.loop-pair-test.true c.pair-item.is c.loop-pair.invariant.0 written,
      All-more IsReadBack items i pair c.loop-pair-test.true c.loop-pair.invariant.1 (subst IsReadBack c.pair-item.is back),
    )

pub returns-clause-back : goal.returns-clause-back
returns-clause-back c =
    let items = c.as_slice-pair-items.result.now in
    let Back : List Pair → Type 0 = λ ps. (k : ℕ) (d : Pair) → k < length ps → IsReadBack (slice_index_or ps k d) in
    let all : Back items = subst Back (take_all c.loop-pair.pair-index items c.loop-pair-test.false) c.loop-pair.invariant.1 in
    tsv_back c.args.pairs.now (subst Back c.as_slice-pair-items.ensures all)
