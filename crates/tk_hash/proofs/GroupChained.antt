-- The blocks of a group in the chains of a file, one more.
use Rattle.std.proofs.Common.{◌≡◌, ℕ, zero, suc, ◌+◌, ◌-◌, ◌*◌, ◌<◌, ◌≤◌, ◌^◌, Bool, cond, List, [], ◌∷◌, ◌++◌, length, get_or, take, drop, replicate, true, false, Some, refl, sym, ◌∙◌, ap, subst, inl, inr, arith, length-append, get_or-set_same, get_or-set_other}
use Rattle.std.proofs.lemmas.Grind.{common_steps}
use Rattle.std.specs.Prelude.{Option, slice_index, ◌==◌, if◌then◌else◌}
use Rattle.std.specs.Option.{unwrap_or}
use Rattle.std.specs.Ordering.{nat_cmp}
use Rattle.std.specs.BTreeMap.{BTreeMap, get, is_at, Updates}
use Rattle.std.proofs.Math.ListN.{set}
use Rattle.std.proofs.lemmas.Bool.{eq-eqb, ne_eqb, cases_eq}
use Rattle.std.proofs.lemmas.List.{length-set, drop_more, take_more, take_all, take_at}
use Rattle.tk_model.specs.declared.record.Change.{Change}
use Rattle.tk_model.specs.declared.record.Change.TheVariants as changes
use Rattle.tk_model.specs.declared.record.Group.{Group}
use Rattle.tk_model.specs.Records.{AllFit, HasNoClear}
use Rattle.tk_block.specs.Text.{base_of, static_text, closing_text}
use Rattle.tk_block.specs.Number.{u64_in}
use Rattle.tk_block.specs.Blocks.{body_of, is_nil, group_bodies, extent_of, key_of}
use Rattle.tk_block.specs.Layout.{placed, Placed, laid, links_of, end_of, newest, bodies_of, bucket_in, heads_text}
use Rattle.tk_block.specs.declared.block.Body.{Body}
use Rattle.tk_block.specs.declared.head.StaticHead.{StaticHead}
use Rattle.tk_block.proofs.Grammar.{length-closing_text, length-static_text}
use Rattle.tk_block.proofs.Lengths.{length-texts, length-heads_text}
use Rattle.tk_append.specs.Chains.{HeadsAre, HasKey}
use Rattle.tk_append.specs.Log.{blocks_of}
use Rattle.tk_append.specs.FileText.{IsFile}
use Rattle.tk_append.specs.Restored.{groups_text}
use Rattle.tk_hash.proofs.PlanSteps as steps
use Rattle.tk_hash.proofs.PlanLoop.{Ahead, ahead_more}
use Rattle.tk_append.proofs.Reopened.{head_read, newest_laid}
use Rattle.tk_hash.specs.declared.plan.NewHead.{NewHead}
use Rattle.tk_hash.specs.declared.plan.NewHeads.{NewHeads}
use Rattle.tk_hash.specs.declared.plan.NewHeads.TheVariants.{Cleared}
use Rattle.tk_hash.specs.Plan.{with_new, with_heads, AllBelow, placed_in, IsNewest}

-- one new head more, the last
pub placed_more : (ns : List NewHead) (n : NewHead) (b found : ℕ) → placed_in (ns ++ n ∷ []) b found ≡ cond (n.bucket == b) n.place (placed_in ns b found)
placed_more [] n b found = refl
placed_more (m ∷ ns) n b found = placed_more ns n b (if m.bucket == b then m.place else found)

pub with_more : (ns : List NewHead) (n : NewHead) (heads : List ℕ) → with_new (ns ++ n ∷ []) heads ≡ set (with_new ns heads) n.bucket n.place
with_more [] n heads = refl
with_more (m ∷ ns) n heads = with_more ns n (set heads m.bucket m.place)

pub below_last : (number : ℕ) (ns : List NewHead) (n : NewHead) → AllBelow number ns → n.bucket < number → AllBelow number (ns ++ n ∷ [])
below_last number [] n all below = (below, tt)
below_last number (m ∷ ns) n all below = (all.0, below_last number ns n all.1 below)

-- the newest of a map with one more
pub newest_more : (old new : BTreeMap ℕ ℕ) (ns : List NewHead) (n : NewHead) → IsNewest old ns → Updates nat_cmp old new n.bucket (Some n.place) → IsNewest new (ns ++ n ∷ [])
newest_more old new ns n are updates b found = elim (cases_eq n.bucket b) [
  | inl e ↦
      ap (λ (k : ℕ). unwrap_or (get nat_cmp new k) found) (sym e) ∙ ap (λ (o : Option ℕ). unwrap_or o found) updates.1
      ∙ sym (placed_more ns n b found ∙ ap (λ (v : Bool). cond v n.place (placed_in ns b found)) (eq-eqb _ _ e))
  | inr ne ↦
      let apart : is_at (nat_cmp n.bucket) b ≡ false = grind (arith, common_steps) in
      ap (λ (o : Option ℕ). unwrap_or o found) (updates.2 b apart) ∙ are b found
      ∙ sym (placed_more ns n b found ∙ ap (λ (v : Bool). cond v n.place (placed_in ns b found)) (ne_eqb _ _ ne))
]

-- all but the last, and the last
pub but_last : (ns : List NewHead) (d : NewHead) → 0 < length ns → ns ≡ take (length ns - 1) ns ++ get_or ns (length ns - 1) d ∷ []
but_last ns d some =
    sym (take_all (length ns - 1 + 1) ns (omega (arith, some))) ∙ take_more ns (length ns - 1) d (omega (arith, some))

pub back_to : (ns : List NewHead) (n : NewHead) → take (length (ns ++ n ∷ []) - 1) (ns ++ n ∷ []) ≡ ns
back_to ns n = take_at ns (n ∷ []) (length (ns ++ n ∷ []) - 1) (omega (arith, length-append ns (n ∷ [])))

-- the head of a bucket behind new heads
pub head_behind : (ns : List NewHead) (heads : List ℕ) (b : ℕ) → b < length heads → get_or (with_new ns heads) b 0 ≡ placed_in ns b (get_or heads b 0)
head_behind [] heads b below = refl
head_behind (n ∷ ns) heads b below =
    head_behind ns (set heads n.bucket n.place) b (omega (arith, below, length-set heads n.bucket n.place))
    ∙ ap (λ (k : ℕ). placed_in ns b k) (elim (cases_eq n.bucket b) [
      | inl e ↦
          ap (λ (k : ℕ). get_or (set heads k n.place) b 0) e ∙ get_or-set_same heads b n.place 0 below ∙ sym (ap (λ (v : Bool). cond v n.place (get_or heads b 0)) (eq-eqb _ _ e))
      | inr ne ↦
          get_or-set_other heads n.bucket b n.place 0 (λ e. ne (sym e)) ∙ sym (ap (λ (v : Bool). cond v n.place (get_or heads b 0)) (ne_eqb _ _ ne))
    ])

pub length-with_new : (ns : List NewHead) (heads : List ℕ) → length (with_new ns heads) ≡ length heads
length-with_new [] heads = refl
length-with_new (n ∷ ns) heads = length-with_new ns (set heads n.bucket n.place) ∙ length-set heads n.bucket n.place

-- a change that is no clear has its key
pub has_its_key : (c : Change) (rest : List Change) (number : ℕ) (last : Bool) → HasNoClear (c ∷ rest) → HasKey (key_of c) (body_of number c last)
has_its_key (changes.Put pair) rest number last none = steps.has_put pair.key (changes.Put pair) pair number last refl refl
has_its_key (changes.Drop key) rest number last none = steps.has_drop key (changes.Drop key) key number last refl refl
has_its_key changes.Clear rest number last none = absurd none

pub no_clear_rest : (c : Change) (rest : List Change) → HasNoClear (c ∷ rest) → HasNoClear rest
no_clear_rest (changes.Put pair) rest none = none
no_clear_rest (changes.Drop key) rest none = none
no_clear_rest changes.Clear rest none = absurd none

-- one change more
pub chained_more : (p : ℕ) (ns : List NewHead) (heads links : List ℕ) (place e : ℕ) (key : List ℕ) (c : Change) (rest cs : List Change) (end number : ℕ) (before : List Placed)
    → key ≡ key_of c → HasNoClear (c ∷ rest) → bucket_in p key < 2 ^ p → e ≡ extent_of (body_of number c (is_nil rest)) → length heads ≡ 2 ^ p
    → Ahead p (with_new ns heads) links place (c ∷ rest) cs end number before
    → Ahead p (with_new (ns ++ record { bucket = bucket_in p key; place = place } ∷ []) heads) (links ++ placed_in ns (bucket_in p key) (slice_index heads (bucket_in p key)) ∷ []) (place + e) rest cs end number before
chained_more p ns heads links place e key c rest cs end number before same none below long whole a =
    let b = bucket_in p key in
    let n : NewHead = record { bucket = b; place = place } in
    let body : Body = body_of number c (is_nil rest) in
    let its : HasKey key body = subst (λ (k : List ℕ). HasKey k body) (sym same) (has_its_key c rest number (is_nil rest) none) in
    let linked : placed_in ns b (slice_index heads b) ≡ get_or (with_new ns heads) b 0 = sym (head_behind ns heads b (omega (arith, below, whole))) in
    ahead_more p (with_new ns heads) (with_new (ns ++ n ∷ []) heads) links place e _ c rest cs end number before long
    (λ l h. subst (λ (m : List ℕ). HeadsAre p m (l ++ placed place body ∷ [])) (sym (with_more ns n heads)) (steps.heads_more p b place key body (with_new ns heads) l its refl below h))
    (λ l h. linked ∙ steps.link_is p b key body (with_new ns heads) l its refl below h)
    a

-- the change at hand, and the rest
pub here : (cs : List Change) (i : ℕ) (c : Change) → i < length cs → c ≡ get_or cs i c → drop i cs ≡ c ∷ drop (i + 1) cs
here cs i c within is = drop_more cs i c within ∙ ap (λ (x : Change). x ∷ drop (i + 1) cs) (sym is)

-- where the rest ends
pub rest_ends : (place e end i : ℕ) (c : Change) (cs : List Change) (number : ℕ) → drop i cs ≡ c ∷ drop (i + 1) cs → e ≡ extent_of (body_of number c (is_nil (drop (i + 1) cs)))
    → end_of place (group_bodies number (drop i cs)) ≡ end_of end (group_bodies number cs) → end_of (place + e) (group_bodies number (drop (i + 1) cs)) ≡ end_of end (group_bodies number cs)
rest_ends place e end i c cs number is long ends =
    ap (λ (n : ℕ). end_of (place + n) (group_bodies number (drop (i + 1) cs))) long ∙ sym (ap (λ (l : List Change). end_of place (group_bodies number l)) is) ∙ ends

-- a clear leaves no heads
pub cleared_heads : (p end number : ℕ) (heads : List ℕ) (before : List Placed) (new : NewHeads) (cs : List Change) → new ≡ Cleared → cs ≡ changes.Clear ∷ [] → HeadsAre p heads before
    → HeadsAre p (with_heads new heads) (before ++ laid end (group_bodies number cs))
cleared_heads p end number heads before new cs all clear are =
    subst (λ (n : NewHeads). HeadsAre p (with_heads n heads) (before ++ laid end (group_bodies number cs))) (sym all)
    (subst (λ (l : List Change). HeadsAre p (replicate (length heads) 0) (before ++ laid end (group_bodies number l))) (sym clear)
    (steps.cleared p end (body_of number changes.Clear true) (replicate (length heads) 0) before refl (ap (λ (n : ℕ). replicate n 0) are.whole)))

fit_alone : (c : Change) (rest : List Change) → AllFit (c ∷ rest) → AllFit (c ∷ [])
fit_alone (changes.Put p) rest fit = (fit.0, fit.1, tt)
fit_alone (changes.Drop k) rest fit = (fit.0, tt)
fit_alone changes.Clear rest fit = tt

pub fit_here : (c : Change) (rest all : List Change) → all ≡ c ∷ rest → AllFit all → AllFit (c ∷ [])
fit_here c rest all is fit = fit_alone c rest (subst AllFit is fit)
