use Rattle.std.proofs.Common.{◌≡◌, ◌≤◌, ◌+◌, ◌-◌, ◌++◌, List, ℕ, length, take, slice_range, ◌∙◌, ap, sym, arith}
use Rattle.std.proofs.Math.Seq.{take-length}
use Rattle.std.proofs.lemmas.List.{with_items_is}
use borrow.Rule.Slice.PartMut.{put_mid}
use Rattle.tk_append.proofs.Windows.{grown, length_put}
use Rattle.tk_append.proofs.window.Window.read.Goals as goal

pub returns-clause-more : goal.returns-clause-more
returns-clause-more g c =
    let w = c.args.self.now in
    let old = c.deref_mut.result.now in
    let new = c.read_piece.new.into in
    let len : length new ≡ c.args.count = omega arith in
    let within : w.end ≤ length old = omega (arith, w.within, ap length c.deref_mut.ensures.value) in (
      new,
      ap (λ (l : List ℕ). slice_range l w.start (w.end + c.args.count)) (with_items_is w.buffer (put_mid w.end (w.end + c.args.count - w.end) old new) (length_put w.end (w.end + c.args.count - w.end) old new (omega arith) (omega arith) ∙ ap length c.deref_mut.ensures.value ∙ sym w.buffer.ok.0))
          ∙ grown old new w.start w.end (w.end + c.args.count - w.end) c.args.count w.ordered within (omega arith)
          ∙ ap (λ (n : ℕ). slice_range old w.start w.end ++ take n new) (sym len)
          ∙ ap (λ (l : List ℕ). slice_range old w.start w.end ++ l) (take-length new)
          ∙ ap (λ (l : List ℕ). slice_range l w.start w.end ++ new) c.deref_mut.ensures.value,
      len,
      c.in_ok-read_piece.ensures.shows,
    )
