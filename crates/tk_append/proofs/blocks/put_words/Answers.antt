use Rattle.std.proofs.Common.{◌≡◌, ℕ, ◌+◌, List, ◌++◌, length, take, sym, ◌∙◌, ap, subst, arith, length-append}
use Rattle.tk_append.proofs.Nameless.{nameless_joined}
use Rattle.tk_append.specs.Pieces.{Holds, words_text}
use Rattle.tk_append.proofs.PiecesSteps.{holds_more, words_text-more}
use Rattle.tk_append.proofs.blocks.put_words.Goals as goal

pub loop-word-preserved : goal.loop-word-preserved
loop-word-preserved g c =
    let i = c.loop-word.word-index in
    let bytes = c.to_be_bytes.result in
    let eight : length bytes ≡ 8 = ap length c.to_be_bytes.ensures in
    record {
      text = λ text h.
          c.in_ok-flush_piece.ensures.text (text ++ words_text (take (i + 1) c.args.words.now))
          (subst (λ (l : List ℕ). Holds (g.D.Disk.image c.loop-word.disk) c.loop-word.at l (text ++ words_text (take (i + 1) c.args.words.now))) (sym c.in_ok-extend.ensures.ok)
          (subst (λ (l : List ℕ). Holds (g.D.Disk.image c.loop-word.disk) c.loop-word.at (c.loop-word.waiting ++ bytes) l) (words_text-more c.args.words.now i text bytes 0 c.loop-word-test.true c.to_be_bytes.ensures)
          (holds_more (g.D.Disk.image c.loop-word.disk) c.loop-word.at c.loop-word.waiting bytes (text ++ words_text (take i c.args.words.now)) (c.loop-word.invariant.text text h))));
      here = c.in_ok-flush_piece.ensures.here;
      end = omega (arith, c.in_ok-flush_piece.ensures.end, ap length c.in_ok-extend.ensures.ok, length-append c.loop-word.waiting bytes, eight, c.loop-word.invariant.end);
      behind = omega (arith, c.loop-word.invariant.behind, c.in_ok-flush_piece.ensures.front);
      no_header = nameless_joined g.D.Disk.past g.D.Disk.moment g.D.Disk.left_with _ _ _ c.loop-word.invariant.no_header c.flush_piece.ensures.no_header;
      told = c.in_ok-flush_piece.ensures.told ∙ c.loop-word.invariant.told;
      count = c.in_ok-flush_piece.ensures.cause.kept ∙ c.loop-word.invariant.count;
    }

pub returns-in_err-flush_piece-clause-no_header : goal.returns-in_err-flush_piece-clause-no_header
returns-in_err-flush_piece-clause-no_header g c = nameless_joined g.D.Disk.past g.D.Disk.moment g.D.Disk.left_with _ _ _ c.loop-word.invariant.no_header c.flush_piece.ensures.no_header
