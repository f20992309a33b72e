-- The blocks of a file of groups fit, and where they stand.
use Rattle.std.proofs.Common.{◌≡◌, ℕ, ◌+◌, ◌*◌, ◌<◌, ◌≤◌, ◌^◌, Bool, true, false, cond, eqb, List, [], ◌∷◌, ◌++◌, length, drop, refl, sym, ◌∙◌, ap, subst, arith, append_assoc, length-append}
use Rattle.std.specs.Prelude.{◌&&◌, ◌||◌}
use Rattle.std.proofs.lemmas.Bool.{eqb-true}
use Rattle.std.proofs.lemmas.List.{append-nil, drop_at, drop-drop}
use Rattle.tk_model.specs.declared.record.Change.{Change}
use Rattle.tk_model.specs.declared.record.Group.{Group}
use Rattle.tk_block.specs.declared.block.Body.{Body}
use Rattle.tk_block.specs.declared.head.StaticHead.{StaticHead}
use Rattle.tk_block.specs.Number.{u64_in}
use Rattle.tk_block.specs.Text.{static_text, closing_text, base_of}
use Rattle.tk_block.specs.Blocks.{AllSmall, block_text, extent_of, group_bodies, is_nil}
use Rattle.tk_block.specs.Layout.{Placed, bucket_in, is_in, laid, newest, link_of, links_of, texts, end_of, bodies_of, heads_text}
use Rattle.tk_block.proofs.BlockReads.{change_fits}
use Rattle.tk_block.proofs.Grammar.{length-static_text, length-closing_text}
use Rattle.tk_block.proofs.Layouts.{newest-append}
use Rattle.tk_block.proofs.Lengths.{length-block_text, length-heads_text, length-texts}
use Rattle.tk_buckets.specs.Chain.{AllFitBody}
use Rattle.tk_append.specs.FileText.{IsFile}
use Rattle.tk_append.specs.Log.{AreGroups, blocks_of}
use Rattle.tk_append.specs.Restored.{groups_text}
use Rattle.tk_append.proofs.Layouts.{end_of-least}
use Rattle.tk_append.proofs.LogSteps.{fit_small}
use Rattle.tk_append.proofs.Reopened.{head_read, newest_laid}
use Rattle.tk_buckets.specs.Chain.{block_step, bucket_blocks}
use Rattle.tk_hash.specs.Chain.{chain_of}

changes_fit : (n : ℕ) (cs : List Change) → AllSmall cs → n < 2 ^ 64 → AllFitBody (group_bodies n cs)
changes_fit n [] small below = tt
changes_fit n (c ∷ cs) small below = (change_fits n c (is_nil cs) small.0 below, changes_fit n cs small.1 below)

fit_append : (xs ys : List Body) → AllFitBody xs → AllFitBody ys → AllFitBody (xs ++ ys)
fit_append [] ys front rest = rest
fit_append (x ∷ xs) ys front rest = (front.0, fit_append xs ys front.1 rest)

least_next : (least next : ℕ) (gs : List Group) → AreGroups least next gs → least ≤ next
least_next least next [] legal = legal
least_next least next (g ∷ gs) legal = omega (arith, legal.0, least_next (g.number + 1) next gs legal.4)

-- the blocks of groups fit
pub groups_fit : (least : ℕ) (gs : List Group) → AreGroups least (2 ^ 64) gs → AllFitBody (bodies_of gs)
groups_fit least [] legal = tt
groups_fit least (g ∷ gs) legal =
    let below : g.number < 2 ^ 64 = omega (arith, least_next (g.number + 1) (2 ^ 64) gs legal.4) in
    fit_append (group_bodies g.number g.changes) (bodies_of gs) (changes_fit g.number g.changes (fit_small g.changes legal.2) below) (groups_fit (g.number + 1) gs legal.4)

-- the blocks of a file, behind its heads
pub file_parts : (h : StaticHead) (f : List ℕ) (groups : List Group) → IsFile h f groups → (drop (base_of h.p) f ≡ groups_text h groups) × (length f ≡ end_of (base_of h.p) (bodies_of groups))
file_parts h f groups is =
    let front = static_text h ++ closing_text is.closing in
    let heads = heads_text h.p (blocks_of h groups) in
    let rest = groups_text h groups in
    let long : length (front ++ heads) ≡ base_of h.p =
    omega (arith, length-append front heads, length-append (static_text h) (closing_text is.closing), length-static_text h, length-closing_text is.closing, length-heads_text h.p (blocks_of h groups)) in
    let parted : f ≡ (front ++ heads) ++ rest = is.text ∙ sym (append_assoc front heads rest) in (
      ap (λ (l : List ℕ). drop (base_of h.p) l) parted ∙ drop_at (front ++ heads) rest (base_of h.p) long,
      omega (arith, ap length parted, length-append (front ++ heads) rest, long, length-texts (base_of h.p) (bodies_of groups) (links_of h.p [] (blocks_of h groups))),
    )
