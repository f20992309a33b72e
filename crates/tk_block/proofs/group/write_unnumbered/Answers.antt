use Rattle.std.proofs.Common.{◌≡◌, ℕ, ◌+◌, ◌∷◌, List, length, drop, get_or, nat_eq, refl, sym, ◌∙◌, ap, subst, arith}
use Rattle.std.proofs.lemmas.List.{drop_more}
use Rattle.tk_model.specs.declared.record.Change.{Change}
use Rattle.tk_block.specs.Blocks.{AllSmall, group_bodies, body_of, is_nil}
use Rattle.tk_block.proofs.Groups.{end_behind, is_nil-drop, item_here, goes_on, end_goes_on, starts_more}
use Rattle.tk_block.proofs.group.write_unnumbered.Goals as goal

here : (c : goal.After-extent_of-at) → drop c.loop-i.i c.args.changes.now ≡ c.change-item.result ∷ drop (c.loop-i.i + 1) c.args.changes.now
here c =
    drop_more c.args.changes.now c.loop-i.i c.change-item.result (omega (arith, ap length c.as_slice-change-items.ensures))
    ∙ ap (λ (x : Change). x ∷ drop (c.loop-i.i + 1) c.args.changes.now) (sym (subst (λ (xs : List Change). c.change-item.result ≡ get_or xs c.loop-i.i c.change-item.result) c.as_slice-change-items.ensures c.change-item.is))

body : (c : goal.After-extent_of-at) → (record { kind = c.block_of-block.result.kind; last = c.block_of-block.result.last; key = c.block_of-block.result.key.now; value = c.block_of-block.result.value.now; number = c.block_of-block.result.number }) ≡ body_of 0 c.change-item.result (is_nil (drop (c.loop-i.i + 1) c.args.changes.now))
body c =
    let last : c.block_of-block.result.last ≡ is_nil (drop (c.loop-i.i + 1) c.args.changes.now) =
    c.block_of-block.ensures.last ∙ ap (λ (n : ℕ). nat_eq (c.loop-i.i + 1) n) c.len-count.ensures ∙ sym (is_nil-drop (c.loop-i.i + 1) c.args.changes.now (omega (arith, ap length c.as_slice-change-items.ensures))) in
    rw (c.block_of-block.ensures.kind, last, c.block_of-block.ensures.key, c.block_of-block.ensures.value, c.block_of-block.ensures.number) refl

pub overflow_add-at : goal.overflow_add-at
overflow_add-at c = omega (arith, c.loop-i.invariant.end, end_goes_on _ c.loop-i.at _ _ _ _ _ (here c) (body c) c.extent_of-at.ensures.value, end_behind (c.loop-i.at + c.extent_of-at.result) (group_bodies 0 (drop (c.loop-i.i + 1) c.args.changes.now)))

pub loop-i-preserved : goal.loop-i-preserved
loop-i-preserved c =
    let link = item_here c.args.links.now c.loop-i.i c.at.result.now c.at.ensures in
    record {
      text = goes_on _ c.loop-i.at _ _ _ _ _ _ _ _ _ _ (here c) link (body c) c.extent_of-at.ensures.value c.in_ok-write_unchecked.ensures.ok ∙ c.loop-i.invariant.text;
      end = end_goes_on _ c.loop-i.at _ _ _ _ _ (here c) (body c) c.extent_of-at.ensures.value ∙ c.loop-i.invariant.end;
      small = (subst AllSmall (here c) c.loop-i.invariant.small).1;
      kept = starts_more _ c.loop-i.out _ _ c.loop-i.invariant.kept c.in_ok-write_unchecked.ensures.ok;
    }
