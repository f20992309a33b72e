use Rattle.std.proofs.Common.{ℕ, ◌+◌, List, ◌++◌, length, get_or, take, refl, sym, ◌∙◌, ap, subst, arith}
use Rattle.tk_model.specs.declared.record.Pair.{Pair}
use Rattle.tk_block.specs.declared.block.Body.{Body}
use Rattle.tk_block.specs.Blocks.{IsSmall}
use Rattle.tk_block.specs.Layout.{laid, end_of, texts}
use Rattle.tk_append.specs.Fresh.{fresh_bodies}
use Rattle.tk_append.proofs.Nameless.{nameless_joined}
use Rattle.tk_append.specs.Pieces.{Holds}
use Rattle.tk_append.proofs.Layouts.{small_at, end_of-more, end_of-take, texts-more, taken_all}
use Rattle.tk_append.proofs.blocks.put_records.Goals as goal

pub put_record-requires-clause-small : goal.put_record-requires-clause-small
put_record-requires-clause-small g c =
    subst (λ (q : Pair). IsSmall q.key q.value) (sym c.index-pairs-i.is) (small_at c.args.pairs.now c.loop-i.i c.index-pairs-i.result c.requires.small c.loop-i-test.true)

pub put_record-requires-clause-end : goal.put_record-requires-clause-end
put_record-requires-clause-end g c =
    let start = c.args.at.now + length c.args.waiting.now in
    let more = end_of-more start c.args.number c.args.each c.args.pairs.now c.loop-i.i c.index-pairs-i.result c.is_flagged-last.result c.loop-i-test.true c.index-pairs-i.is in
    let most = end_of-take start (c.loop-i.i + 1) (fresh_bodies c.args.number c.args.each c.args.pairs.now) in
    omega (arith, c.loop-i.invariant.end, more, most, c.requires.end)

pub loop-i-preserved : goal.loop-i-preserved
loop-i-preserved g c =
    let start = c.args.at.now + length c.args.waiting.now in
    let bodies = fresh_bodies c.args.number c.args.each c.args.pairs.now in
    let more = end_of-more start c.args.number c.args.each c.args.pairs.now c.loop-i.i c.index-pairs-i.result c.is_flagged-last.result c.loop-i-test.true c.index-pairs-i.is in
    record {
      text = λ text h.
          subst (λ (l : List ℕ). Holds (g.D.Disk.image c.put_record.new.disk) c.put_record.new.at c.put_record.new.waiting l)
          (texts-more start c.args.number c.args.each c.args.pairs.now c.args.links.now c.loop-i.i c.index-pairs-i.result c.is_flagged-last.result (c.loop-i.at + length c.loop-i.waiting) (get_or c.args.links.now c.loop-i.i 0) text
          c.loop-i-test.true c.index-pairs-i.is c.is_flagged-last.ensures c.loop-i.invariant.end refl)
          (c.in_ok-put_record.ensures.text (text ++ texts (laid start (take c.loop-i.i bodies)) c.args.links.now) (c.loop-i.invariant.text text h));
      here = c.in_ok-put_record.ensures.here;
      end = omega (arith, c.in_ok-put_record.ensures.end, c.loop-i.invariant.end, more);
      behind = omega (arith, c.loop-i.invariant.behind, c.in_ok-put_record.ensures.front);
      no_header = nameless_joined g.D.Disk.past g.D.Disk.moment g.D.Disk.left_with _ _ _ c.loop-i.invariant.no_header c.put_record.ensures.no_header;
      told = c.in_ok-put_record.ensures.told ∙ c.loop-i.invariant.told;
      count = c.in_ok-put_record.ensures.cause.kept ∙ c.loop-i.invariant.count;
    }

pub returns-clause-text : goal.returns-clause-text
returns-clause-text g c text h =
    let start = c.args.at.now + length c.args.waiting.now in
    subst (λ (l : List Body). Holds (g.D.Disk.image c.loop-i.disk) c.loop-i.at c.loop-i.waiting (text ++ texts (laid start l) c.args.links.now))
    (taken_all c.args.number c.args.each c.args.pairs.now c.loop-i.i c.loop-i-test.false) (c.loop-i.invariant.text text h)

pub returns-clause-end : goal.returns-clause-end
returns-clause-end g c =
    let start = c.args.at.now + length c.args.waiting.now in
    c.loop-i.invariant.end ∙ ap (λ (l : List Body). end_of start l) (taken_all c.args.number c.args.each c.args.pairs.now c.loop-i.i c.loop-i-test.false)

pub returns-in_err-put_record-clause-no_header : goal.returns-in_err-put_record-clause-no_header
returns-in_err-put_record-clause-no_header g c = nameless_joined g.D.Disk.past g.D.Disk.moment g.D.Disk.left_with _ _ _ c.loop-i.invariant.no_header c.put_record.ensures.no_header
