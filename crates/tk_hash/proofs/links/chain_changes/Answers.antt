use Rattle.std.proofs.Common.{◌≡◌, ℕ, ◌+◌, ◌-◌, ◌*◌, ◌≤◌, ◌^◌, ◌∷◌, ◌++◌, List, [], length, take, drop, sym, ◌∙◌, ap, subst, arith}
use Rattle.std.proofs.lemmas.List.{drop_all}
use Rattle.tk_model.specs.declared.record.Change.{Change}
use Rattle.tk_model.specs.Records.{HasNoClear}
use Rattle.tk_block.specs.Blocks.{group_bodies, is_nil}
use Rattle.tk_block.specs.Layout.{bucket_in}
use Rattle.tk_block.proofs.Groups.{end_behind}
use Rattle.tk_hash.proofs.PlanLoop.{Ahead, all_ahead_heads, all_ahead_links, fit_rest}
use Rattle.tk_hash.specs.declared.plan.NewHead.{NewHead}
use Rattle.tk_hash.specs.Plan.{with_new, AllBelow, placed_in, IsNewest}
use Rattle.tk_hash.proofs.GroupChained.{here, fit_here, rest_ends, chained_more, no_clear_rest, below_last, back_to}
use Rattle.tk_hash.proofs.links.chain_changes.Goals as goal

pub overflow_add-place : goal.overflow_add-place
overflow_add-place c =
    let i = c.loop-change.change-index in
    let cs = c.args.changes.now in
    let at = here cs i c.change-item.result c.loop-change-test.true c.change-item.is in
    let rest = drop (i + 1) cs in
    omega (
      arith,
      rest_ends c.loop-change.place c.extent_of_change-place.result c.args.end i c.change-item.result cs 0 at (c.extent_of_change-place.ensures 0 (is_nil rest)) (c.loop-change.invariant.ends 0),
      c.requires.end,
      end_behind (c.loop-change.place + c.extent_of_change-place.result) (group_bodies 0 rest),
    )

pub extent_of_change-place-requires : goal.extent_of_change-place-requires
extent_of_change-place-requires c =
    let i = c.loop-change.change-index in
    let cs = c.args.changes.now in
    let x = c.change-item.result in
    fit_here x (drop (i + 1) cs) (drop i cs) (here cs i x c.loop-change-test.true c.change-item.is) c.loop-change.invariant.fit

pub loop-change-preserved : goal.loop-change-preserved
loop-change-preserved c =
    let i = c.loop-change.change-index in
    let cs = c.args.changes.now in
    let x = c.change-item.result in
    let at = here cs i x c.loop-change-test.true c.change-item.is in
    let rest = drop (i + 1) cs in
    let so_far = c.loop-change.invariant in
    let e = c.in_ok-chain_key.ensures in
    let p = c.args.p in
    let heads = c.args.heads.now in
    let place = c.loop-change.place in
    let extent = c.extent_of_change-place.result in
    let key : List ℕ = c.key_of.result.now in
    let b : ℕ = bucket_in p key in
    let ns : List NewHead = c.loop-change.chains.heads.items in
    let n : NewHead = record { bucket = b; place = place } in
    let none : HasNoClear (x ∷ rest) = subst HasNoClear at so_far.no_clear in
    record {
      chained = λ number before are.
          subst (λ (l : List NewHead). Ahead p (with_new l heads) c.chain_key.new.chains.links (place + extent) rest cs c.args.end number before) (sym {A = List NewHead} e.heads)
          (subst (λ (l : List ℕ). Ahead p (with_new (ns ++ n ∷ []) heads) l (place + extent) rest cs c.args.end number before) (sym {A = List ℕ} e.links)
          (chained_more p ns heads c.loop-change.chains.links place extent key x rest cs c.args.end number before c.key_of.ensures none e.below
          (c.extent_of_change-place.ensures number (is_nil rest)) are.whole
          (subst (λ (l : List Change). Ahead p (with_new ns heads) c.loop-change.chains.links place l cs c.args.end number before) at (so_far.chained number before are))));
      newest = subst (λ (l : List NewHead). IsNewest c.chain_key.new.chains.newest l) (sym (ap (λ (l : List NewHead). take (length l - 1) l) e.heads ∙ back_to ns n)) e.newest;
      below = subst (λ (l : List NewHead). AllBelow (2 ^ p) l) (sym e.heads) (below_last (2 ^ p) ns n so_far.below e.below);
      counts = omega (arith, e.counts, so_far.counts);
      fit = fit_rest x rest _ at so_far.fit;
      no_clear = no_clear_rest x rest none;
      ends = λ number. rest_ends place extent c.args.end i x cs number at (c.extent_of_change-place.ensures number (is_nil rest)) (so_far.ends number);
    }

pub returns-clause-links : goal.returns-clause-links
returns-clause-links c = λ number blocks are.
    all_ahead_links c.args.p _ _ _ _ _ _ number _ (drop_all c.loop-change.change-index c.args.changes.now c.loop-change-test.false) (c.loop-change.invariant.chained number blocks are)

pub returns-clause-heads : goal.returns-clause-heads
returns-clause-heads c = λ number blocks are.
    all_ahead_heads c.args.p _ _ _ _ _ _ number _ (drop_all c.loop-change.change-index c.args.changes.now c.loop-change-test.false) (c.loop-change.invariant.chained number blocks are)
