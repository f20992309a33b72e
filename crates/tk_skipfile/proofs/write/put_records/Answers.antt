use Rattle.std.proofs.Common.{ℕ, ◌+◌, List, ◌++◌, length, drop, sym, ◌∙◌, ap, subst, arith, append_assoc}
use Rattle.tk_model.specs.declared.record.Pair.{Pair}
use Rattle.tk_append.specs.Pieces.{Holds}
use Rattle.tk_skipfile.specs.SkipText.{size_of, end_from, linked_text}
use Rattle.tk_skipfile.proofs.TextSteps.{held_at, end_behind, end_more, texts_more, texts_end}
use Rattle.std.proofs.lemmas.List.{drop_all}
use Rattle.tk_skipfile.proofs.Wordless.{wordless_joined}
use Rattle.tk_skipfile.proofs.write.put_records.Goals as goal

pub put_record-requires-clause-fits : goal.put_record-requires-clause-fits
put_record-requires-clause-fits g c =
    let held = held_at c.args.pairs.now c.loop-i.i c.index-pairs-i.result c.requires.held c.loop-i-test.true c.index-pairs-i.is in
    record { key = held.0; value = omega (arith, held.1) }

pub put_record-requires-clause-end : goal.put_record-requires-clause-end
put_record-requires-clause-end g c =
    let p = c.index-pairs-i.result in
    let i = c.loop-i.i in
    let place = c.loop-i.at + length c.loop-i.waiting in
    let here = end_more c.args.levels i place (place + size_of c.args.levels i p) c.args.pairs.now p c.loop-i-test.true c.index-pairs-i.is (omega arith) in
    let most = end_behind c.args.levels (i + 1) (place + size_of c.args.levels i p) (drop (i + 1) c.args.pairs.now) in
    omega (arith, here, most, c.loop-i.invariant.end, c.requires.end)

pub loop-i-preserved : goal.loop-i-preserved
loop-i-preserved g c =
    let p = c.index-pairs-i.result in
    let i = c.loop-i.i in
    let place = c.loop-i.at + length c.loop-i.waiting in
    let next = c.put_record.new.at + length c.put_record.new.waiting in
    record {
      text = λ text h.
          let so_far = c.loop-i.invariant.text text h in
          let one = linked_text c.args.levels c.args.places.now i p place in (
            so_far.0 ++ one,
            subst (λ (l : List ℕ). Holds (g.D.Disk.image c.put_record.new.disk) c.put_record.new.at c.put_record.new.waiting l) (append_assoc text so_far.0 one)
                (c.in_ok-put_record.ensures.text (text ++ so_far.0) so_far.1),
            texts_more so_far.0 _ c.args.levels c.args.places.now i place next c.args.pairs.now p c.loop-i-test.true c.index-pairs-i.is c.in_ok-put_record.ensures.end so_far.2,
          );
      here = c.in_ok-put_record.ensures.here;
      end = sym (end_more c.args.levels i place next c.args.pairs.now p c.loop-i-test.true c.index-pairs-i.is c.in_ok-put_record.ensures.end) ∙ c.loop-i.invariant.end;
      behind = omega (arith, c.loop-i.invariant.behind, c.in_ok-put_record.ensures.front);
      no_word = wordless_joined g.D.Disk.past g.D.Disk.moment g.D.Disk.left_with _ _ _ c.loop-i.invariant.no_word c.put_record.ensures.no_word;
      told = c.in_ok-put_record.ensures.told ∙ c.loop-i.invariant.told;
      count = c.in_ok-put_record.ensures.cause.kept ∙ c.loop-i.invariant.count;
    }

pub returns-clause-text : goal.returns-clause-text
returns-clause-text g c text h =
    let so_far = c.loop-i.invariant.text text h in
    subst (λ (l : List ℕ). Holds (g.D.Disk.image c.loop-i.disk) c.loop-i.at c.loop-i.waiting (text ++ l))
    (texts_end so_far.0 _ c.args.levels c.args.places.now c.loop-i.i (c.loop-i.at + length c.loop-i.waiting) c.args.pairs.now c.loop-i-test.false so_far.2) so_far.1

pub returns-clause-end : goal.returns-clause-end
returns-clause-end g c =
    sym (ap (λ (l : List Pair). end_from c.args.levels c.loop-i.i (c.loop-i.at + length c.loop-i.waiting) l) (drop_all c.loop-i.i c.args.pairs.now c.loop-i-test.false)) ∙ c.loop-i.invariant.end

pub returns-in_err-put_record-clause-no_word : goal.returns-in_err-put_record-clause-no_word
returns-in_err-put_record-clause-no_word g c = wordless_joined g.D.Disk.past g.D.Disk.moment g.D.Disk.left_with _ _ _ c.loop-i.invariant.no_word c.put_record.ensures.no_word
