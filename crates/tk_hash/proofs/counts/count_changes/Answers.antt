use Rattle.std.proofs.Common.{◌≡◌, ℕ, ◌+◌, ◌-◌, List, [], length, take, refl, ◌∙◌, ap, subst, arith}
use Rattle.std.specs.Prelude.{Option, IfSome}
use Rattle.std.specs.Option.{is_some}
use Rattle.std.proofs.lemmas.List.{take_all}
use Rattle.tk_model.specs.Records.{find, after, replay}
use Rattle.tk_model.specs.declared.record.Order.TheVariants.{Hash}
use Rattle.tk_model.specs.declared.record.Pair.{Pair}
use Rattle.tk_model.specs.declared.record.Change.{Change}
use Rattle.tk_model.proofs.RecordLaws.{replay_rising}
use Rattle.tk_append.specs.FileText.{IsFile}
use Rattle.tk_hash.specs.Plan.{told_there, TellThere}
use Rattle.tk_hash.proofs.HeadTexts.{if_some, if_both}
use Rattle.tk_hash.proofs.Counted.{counted_more, counted_first, tell_none}
use Rattle.tk_disk.proofs.Moments.{nothing_read, reads_joined}
use Rattle.tk_hash.proofs.counts.count_changes.Goals as goal

pub loop-i-init : goal.loop-i-init
loop-i-init g c = record {
  counted = λ groups. counted_first (g.D.Disk.image c.args.disk.now) _ _;
  marks = tell_none _ c.in_ok-marks.ensures;
  buffer = refl;
  image = refl;
  still = nothing_read g.D.Disk.may_leave g.D.Disk.moment g.D.Disk.left_since g.D.Disk.past g.D.Disk.left_with c.args.disk.now;
  taken = omega arith;
  count = refl;
}

pub loop-i-preserved : goal.loop-i-preserved
loop-i-preserved g c =
    let disk = g.D.Disk in
    let i = c.loop-i.i in
    let cs = c.args.changes.now in
    let x = c.index-changes-i.result in
    let so_far = c.loop-i.invariant in
    let e = c.in_ok-there.ensures in
    let h = c.args.file.now.head in
    let key = c.key_of.result.now in
    let marks : List Pair = c.mark_before.new.marks in
    let there = c.in_ok-there.there in
    let image = disk.image c.args.disk.now in
    let told : (groups : List _) → IfSome image (λ f. IsFile h f groups → there ≡ told_there (find key marks) (is_some (find key (replay Hash groups [])))) = λ groups.
    subst (λ (o : Option (List ℕ)). IfSome o (λ f. IsFile h f groups → there ≡ told_there (find key marks) (is_some (find key (replay Hash groups []))))) so_far.image (e.value groups) in
    let next : i ≡ i + 1 - 1 = omega arith in
    record {
      counted = λ groups.
          if_both image _ _ _ (so_far.counted groups) (told groups) (λ f known is_told is first.
          let all = replay Hash groups [] in
          counted_more cs i c.loop-i.count c.in_ok-count.count x there marks (replay Hash groups []) c.loop-i-test.true c.index-changes-i.is (replay_rising Hash groups [] tt) (known is first) c.in_ok-mark_before.ensures
          (is_told is ∙ ap (λ (k : List ℕ). told_there (find k marks) (is_some (find k (replay Hash groups [])))) c.key_of.ensures)
          (λ m rising count is. c.in_ok-count.ensures m rising count is));
      marks = subst (λ (k : ℕ). TellThere (take k cs) marks) next c.in_ok-mark_before.ensures;
      buffer = e.buffer ∙ so_far.buffer;
      image = e.image ∙ so_far.image;
      still = reads_joined disk.may_leave disk.moment disk.left_since disk.past disk.left_with g.met.D.Disk.counts_now g.met.D.Disk.counts_with c.args.disk.now c.loop-i.disk c.was_there.new.disk so_far.still e.still;
      taken = omega (arith, so_far.taken, e.taken);
      count = e.cause.kept ∙ so_far.count;
    }

pub returns-clause-count : goal.returns-clause-count
returns-clause-count g c = λ groups.
    if_some (g.D.Disk.image c.args.disk.now) _ _ (c.loop-i.invariant.counted groups) (λ f known is first.
    known is first ∙ ap (λ (l : List Change). length (after Hash l (replay Hash groups []))) (take_all c.loop-i.i c.args.changes.now c.loop-i-test.false))
