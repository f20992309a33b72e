-- An image that is untorn by a fair past is restored to a front of the groups.
use Rattle.std.proofs.Common.{◌≡◌, inl, inr, ℕ, zero, suc, ◌+◌, ◌-◌, ◌≤◌, cond, List, [], ◌∷◌, ◌++◌, length, take, drop, refl, sym, ◌∙◌, ap, subst, arith, append_assoc}
use Rattle.std.specs.Prelude.{Option, Some, None}
use Rattle.std.proofs.lemmas.List.{drop_all, drop-drop, take-append-drop, length-append, length-drop}
use Rattle.tk_model.specs.declared.record.Group.{Group}
use Rattle.tk_model.specs.declared.record.ShardOf.{ShardOf}
use Rattle.tk_block.specs.declared.block.Body.{Body}
use Rattle.tk_block.specs.declared.head.StaticHead.{StaticHead}
use Rattle.tk_block.specs.Text.{head_at, static_at, base_of}
use Rattle.tk_block.specs.Blocks.{body_at, block_text, extent_for, extent_of, room_of, group_bodies}
use Rattle.tk_block.specs.Grammar.{FitsBody}
use Rattle.tk_block.specs.Layout.{placed, Placed, laid, end_of, texts, links_of, bodies_of, first_or_none}
use Rattle.tk_block.proofs.Grammar.{statics}
use Rattle.tk_block.proofs.BlockReads.{block_head, block_body, block_rest}
use Rattle.tk_block.proofs.Lengths.{length-texts}
use Rattle.tk_block.proofs.Layouts.{end_of-append, bodies_of-append}
use Rattle.tk_append.specs.Log.{blocks_of}
use Rattle.tk_append.specs.Opening.{Walk, begin, opened_by}
use Rattle.tk_append.specs.Restored.{read_block, read_on, read_blocks, complete_groups, groups_in, groups_by, restored_groups, groups_text}
use Rattle.tk_append.proofs.Layouts.{end_of-least}
use Rattle.tk_append.proofs.Reopened.{Fit, count_upto}
use Rattle.tk_disk.specs.Past.{Write, Past}
use Rattle.tk_append.specs.Untorn.{WritesHead, WritesBody, AnyWrite, AllWrites, IsKnownHead, IsKnownBody, UntornFrom}
use Rattle.tk_append.specs.FairPast.{IsGroupWrite, IsFairWrite, IsFairPast, FairRestores}
use Rattle.tk_append.proofs.Restoring.{walk_over, over_blocks, Fronted, stop, front_on, front_groups, all_groups, groups_read, groups_fit, groups_front, groups_back, same_number, same_body, no_head_there, no_body_there, updating, alone}

abbrev FitAll : List Body → Type 0
FitAll [] = Unit {0}
FitAll (b ∷ bs) = FitsBody b × FitAll bs

fit_all : (next : ℕ) (h : StaticHead) (shard : ShardOf) (least : ℕ) (open_group : Option Placed) (place : ℕ) (bs : List Body) → Fit next h shard least open_group place bs → FitAll bs
fit_all next h shard least open_group place [] fit = tt
fit_all next h shard least open_group place (b ∷ bs) fit =
    (fit.0, fit_all next h shard (cond b.last (b.number + 1) least) (opened_by open_group (placed place b)) (place + extent_of b) bs fit.4)

fit_later : (xs ys : List Body) → FitAll (xs ++ ys) → FitAll ys
fit_later [] ys fit = fit
fit_later (x ∷ xs) ys fit = fit_later xs ys fit.1

fit_first : (xs ys : List Body) → FitAll (xs ++ ys) → FitAll xs
fit_first [] ys fit = tt
fit_first (x ∷ xs) ys fit = (fit.0, fit_first xs ys fit.1)

-- what stands next
abbrev IsNextHead : List Body → ℕ → Type 0
IsNextHead [] e = ⊥
IsNextHead (b ∷ bs) e = e ≡ extent_of b

abbrev IsNextBody : List Body → Body → Type 0
IsNextBody [] d = Unit {0}
IsNextBody (b ∷ bs) d = d ≡ b

no_some : {A : Type 0} (o : Option A) (x : A) → o ≡ None → o ≡ Some x → ⊥
no_some o x none some = cc (none, some)

cons_head : (a b : Body) (xs ys : List Body) → a ∷ xs ≡ b ∷ ys → a ≡ b
cons_head a b xs ys is = cc is

cons_tail : (a b : Body) (xs ys : List Body) → a ∷ xs ≡ b ∷ ys → xs ≡ ys
cons_tail a b xs ys is = cc is

extent_least : (room : ℕ) → 48 ≤ extent_for room
extent_least room = omega arith

nothing_head : (k q e : ℕ) (l : List ℕ) → length l ≤ k → head_at (drop k l) q ≡ Some e → ⊥
nothing_head k q e l short found = no_some (head_at (drop k l) q) e (ap (λ (m : List ℕ). head_at m q) (drop_all k l short) ∙ no_head_there q) found

nothing_body : (k q : ℕ) (d : Body) (l : List ℕ) → length l ≤ k → body_at (drop k l) q ≡ Some d → ⊥
nothing_body k q d l short found = no_some (body_at (drop k l) q) d (ap (λ (m : List ℕ). body_at m q) (drop_all k l short) ∙ no_body_there q) found

-- behind a block
behind : (b : Body) (at link k : ℕ) (more : List ℕ) → at + extent_of b ≤ k → drop (k - at) (block_text b at link ++ more) ≡ drop (k - (at + extent_of b)) more
behind b at link k more far =
    let text = block_text b at link ++ more in
    ap (λ (n : ℕ). drop n text) (omega (arith, far)) ∙ sym (drop-drop (k - (at + extent_of b)) (extent_of b) text) ∙ ap (λ (l : List ℕ). drop (k - (at + extent_of b)) l) (block_rest b at link more)

seg_head : (at : ℕ) (s z : List Body) (links : List ℕ) (pre bs : List Body) (e : ℕ) → s ++ z ≡ pre ++ bs → FitAll s
    → head_at (drop (end_of at pre - at) (texts (laid at s) links)) (end_of at pre) ≡ Some e → IsNextHead bs e
seg_head at [] z links pre bs e same fit found = absurd (nothing_head (end_of at pre - at) (end_of at pre) e [] (omega arith) found)
seg_head at (b ∷ s) z links [] bs e same fit found =
    let link = first_or_none links in
    let more = texts (laid (at + extent_of b) s) (drop 1 links) in
    let text : List ℕ = block_text b at link ++ more in
    let none : at - at ≡ 0 = omega arith in
    subst (λ (l : List Body). IsNextHead l e) same
    (same_number e (extent_of b) (sym found ∙ ap (λ (n : ℕ). head_at (drop n text) at) none ∙ block_head b at link more fit.0))
seg_head at (b ∷ s) z links (a ∷ pre) bs e same fit found =
    let link = first_or_none links in
    let more = texts (laid (at + extent_of b) s) (drop 1 links) in
    let text : List ℕ = block_text b at link ++ more in
    let here = subst (λ (x : Body). head_at (drop (end_of (at + extent_of x) pre - at) text) (end_of (at + extent_of x) pre) ≡ Some e) (sym (cons_head b a (s ++ z) (pre ++ bs) same)) found in
    let q = end_of (at + extent_of b) pre in
    seg_head (at + extent_of b) s z (drop 1 links) pre bs e (cons_tail b a (s ++ z) (pre ++ bs) same) fit.1
    (ap (λ (l : List ℕ). head_at l q) (sym (behind b at link q more (end_of-least (at + extent_of b) pre))) ∙ here)

seg_body : (at : ℕ) (s z : List Body) (links : List ℕ) (pre bs : List Body) (d : Body) → s ++ z ≡ pre ++ bs → FitAll s
    → body_at (drop (end_of at pre + 24 - at) (texts (laid at s) links)) (end_of at pre) ≡ Some d → IsNextBody bs d
seg_body at [] z links pre bs d same fit found = absurd (nothing_body (end_of at pre + 24 - at) (end_of at pre) d [] (omega arith) found)
seg_body at (b ∷ s) z links [] bs d same fit found =
    let link = first_or_none links in
    let more = texts (laid (at + extent_of b) s) (drop 1 links) in
    let text : List ℕ = block_text b at link ++ more in
    let same_place : at + 24 - at ≡ 24 = omega arith in
    subst (λ (l : List Body). IsNextBody l d) same
    (same_body d b (sym found ∙ ap (λ (n : ℕ). body_at (drop n text) at) same_place ∙ block_body b at link more fit.0))
seg_body at (b ∷ s) z links (a ∷ pre) bs d same fit found =
    let link = first_or_none links in
    let more = texts (laid (at + extent_of b) s) (drop 1 links) in
    let text : List ℕ = block_text b at link ++ more in
    let here = subst (λ (x : Body). body_at (drop (end_of (at + extent_of x) pre + 24 - at) text) (end_of (at + extent_of x) pre) ≡ Some d) (sym (cons_head b a (s ++ z) (pre ++ bs) same)) found in
    let q = end_of (at + extent_of b) pre in
    seg_body (at + extent_of b) s z (drop 1 links) pre bs d (cons_tail b a (s ++ z) (pre ++ bs) same) fit.1
    (ap (λ (l : List ℕ). body_at l q) (sym (behind b at link (q + 24) more (omega (arith, end_of-least (at + extent_of b) pre)))) ∙ here)

-- of two fronts of one list, where the first ends before the first block behind the second
record Split (a x pre bs : List Body) : Type 0 where
  mid : List Body
  is : pre ≡ a ++ mid
  rest : x ≡ mid ++ bs

split : (base : ℕ) (a x pre bs : List Body) → a ++ x ≡ pre ++ bs → end_of base a ≤ end_of base pre + 24 → Split a x pre bs
split base [] x pre bs same le = record { mid = pre; is = refl; rest = same }
split base (b ∷ a) x [] bs same le = absurd (omega (arith, le, end_of-least (base + extent_of b) a, extent_least (room_of b)))
split base (b ∷ a) x (c ∷ pre) bs same le =
    let one = cons_head b c (a ++ x) (pre ++ bs) same in
    let s = split (base + extent_of b) a x pre bs (cons_tail b c (a ++ x) (pre ++ bs) same) (subst (λ (y : Body). end_of (base + extent_of b) a ≤ end_of (base + extent_of y) pre + 24) (sym one) le) in
    record { mid = s.mid; is = ap (λ (y : Body). y ∷ pre) (sym one) ∙ ap (λ (l : List Body). b ∷ l) s.is; rest = s.rest }

module _ (h : StaticHead) (groups : List Group) (fit : FitAll (bodies_of groups)) (pre bs : List Body) (same : bodies_of groups ≡ pre ++ bs) where
  abbrev spot : ℕ
  spot = end_of (base_of h.p) pre

  record Part (w : Write) (g : IsGroupWrite h groups w) : Type 0 where
    mid : List Body
    at : spot ≡ end_of w.at mid
    rest : group_bodies g.group.number g.group.changes ++ bodies_of g.rest ≡ mid ++ bs
    fits : FitAll (group_bodies g.group.number g.group.changes)

  part : (w : Write) (g : IsGroupWrite h groups w) → w.at ≤ spot + 24 → Part w g
  part w g le =
      let a = bodies_of g.front in
      let own = group_bodies g.group.number g.group.changes in
      let all : bodies_of groups ≡ a ++ (own ++ bodies_of g.rest) = ap bodies_of g.is ∙ bodies_of-append g.front (g.group ∷ g.rest) in
      let s = split (base_of h.p) a (own ++ bodies_of g.rest) pre bs (sym all ∙ same) (omega (arith, le, g.at)) in
      record {
        mid = s.mid;
        at = ap (λ (l : List Body). end_of (base_of h.p) l) s.is ∙ end_of-append (base_of h.p) a s.mid ∙ ap (λ (k : ℕ). end_of k s.mid) (sym g.at);
        rest = s.rest;
        fits = fit_first own (bodies_of g.rest) (fit_later a (own ++ bodies_of g.rest) (subst FitAll all fit));
      }

  write_head : (w : Write) (e : ℕ) → IsFairWrite h groups w → WritesHead spot e w → IsNextHead bs e
  write_head w e (inl front) has = absurd (nothing_head (spot - w.at) spot e w.bytes (omega (arith, front, has.0, end_of-least (base_of h.p) pre)) has.1)
  write_head w e (inr g) has =
      let p = part w g (omega (arith, has.0)) in
      let found = subst (λ (l : List ℕ). head_at (drop (spot - w.at) l) spot ≡ Some e) g.text has.1 in
      seg_head w.at (group_bodies g.group.number g.group.changes) (bodies_of g.rest) g.links p.mid bs e p.rest p.fits
      (subst (λ (k : ℕ). head_at (drop (k - w.at) (texts (laid w.at (group_bodies g.group.number g.group.changes)) g.links)) k ≡ Some e) p.at found)

  write_body : (w : Write) (d : Body) → IsFairWrite h groups w → WritesBody spot d w → IsNextBody bs d
  write_body w d (inl front) has = absurd (nothing_body (spot + 24 - w.at) spot d w.bytes (omega (arith, front, has.0, end_of-least (base_of h.p) pre)) has.1)
  write_body w d (inr g) has =
      let p = part w g (omega (arith, has.0)) in
      let found = subst (λ (l : List ℕ). body_at (drop (spot + 24 - w.at) l) spot ≡ Some d) g.text has.1 in
      seg_body w.at (group_bodies g.group.number g.group.changes) (bodies_of g.rest) g.links p.mid bs d p.rest p.fits
      (subst (λ (k : ℕ). body_at (drop (k + 24 - w.at) (texts (laid w.at (group_bodies g.group.number g.group.changes)) g.links)) k ≡ Some d) p.at found)

  any_head : (ws : List Write) (e : ℕ) → AllWrites (IsFairWrite h groups) ws → AnyWrite (WritesHead spot e) ws → IsNextHead bs e
  any_head [] e fair any = absurd any
  any_head (w ∷ ws) e fair (inl one) = write_head w e fair.0 one
  any_head (w ∷ ws) e fair (inr more) = any_head ws e fair.1 more

  any_body : (ws : List Write) (d : Body) → AllWrites (IsFairWrite h groups) ws → AnyWrite (WritesBody spot d) ws → IsNextBody bs d
  any_body [] d fair any = absurd any
  any_body (w ∷ ws) d fair (inl one) = write_body w d fair.0 one
  any_body (w ∷ ws) d fair (inr more) = any_body ws d fair.1 more

  module _ (p : Past) (fair : IsFairPast h groups p) where
    abbrev gs : List Group
    gs = take fair.count groups

    text : drop (base_of h.p) p.fixed ≡ groups_text h gs
    text = fair.stood.blocks

    all : bodies_of gs ++ bodies_of (drop fair.count groups) ≡ pre ++ bs
    all = sym (bodies_of-append gs (drop fair.count groups)) ∙ ap bodies_of (take-append-drop fair.count groups) ∙ same

    fits : FitAll (bodies_of gs)
    fits = fit_first (bodies_of gs) (bodies_of (drop fair.count groups)) (subst FitAll (same ∙ sym all) fit)

    past_base : (k : ℕ) → base_of h.p ≤ k → drop k p.fixed ≡ drop (k - base_of h.p) (groups_text h gs)
    past_base k le =
        ap (λ (n : ℕ). drop n p.fixed) (omega (arith, le)) ∙ sym (drop-drop (k - base_of h.p) (base_of h.p) p.fixed) ∙ ap (λ (l : List ℕ). drop (k - base_of h.p) l) text

    known_head : (e : ℕ) → IsKnownHead h p spot e → IsNextHead bs e
    known_head e (inl stood) =
        seg_head (base_of h.p) (bodies_of gs) (bodies_of (drop fair.count groups)) (links_of h.p [] (blocks_of h gs)) pre bs e all fits
        (ap (λ (l : List ℕ). head_at l spot) (sym (past_base spot (end_of-least (base_of h.p) pre))) ∙ stood.1)
    known_head e (inr any) = any_head p.writes e fair.writes any

    known_body : (d : Body) → IsKnownBody h p spot d → IsNextBody bs d
    known_body d (inl stood) =
        seg_body (base_of h.p) (bodies_of gs) (bodies_of (drop fair.count groups)) (links_of h.p [] (blocks_of h gs)) pre bs d all fits
        (ap (λ (l : List ℕ). body_at l spot) (sym (past_base (spot + 24) (omega (arith, end_of-least (base_of h.p) pre)))) ∙ stood.1)
    known_body d (inr any) = any_body p.writes d fair.writes any

-- of a head or a body that is known, only these
abbrev OnlyThese : StaticHead → Past → (q : ℕ) → List Body → Type 0
OnlyThese h p q [] = (e : ℕ) → IsKnownHead h p q e → ⊥
OnlyThese h p q (b ∷ bs) = ((e : ℕ) → IsKnownHead h p q e → e ≡ extent_of b) × ((d : Body) → IsKnownBody h p q d → d ≡ b) × OnlyThese h p (q + extent_of b) bs

only_these : (h : StaticHead) (groups : List Group) (p : Past) (pre bs : List Body) → FitAll (bodies_of groups) → IsFairPast h groups p → bodies_of groups ≡ pre ++ bs → OnlyThese h p (end_of (base_of h.p) pre) bs
only_these h groups p pre [] fit fair same = λ e known. known_head h groups fit pre [] same p fair e known
only_these h groups p pre (b ∷ bs) fit fair same = (
  λ e known. known_head h groups fit pre (b ∷ bs) same p fair e known,
  λ d known. known_body h groups fit pre (b ∷ bs) same p fair d known,
  subst (λ (k : ℕ). OnlyThese h p k bs) (end_of-append (base_of h.p) pre (b ∷ [])) (only_these h groups p (pre ++ b ∷ []) bs fit fair (same ∙ sym (append_assoc pre (b ∷ []) bs))),
)

at_end : (o : Option ℕ) (n : ℕ) (h : StaticHead) (p : Past) (w : Walk) (place : ℕ) (c : List ℕ) → head_at (drop place c) place ≡ o → ((e : ℕ) → IsKnownHead h p place e → ⊥) → UntornFrom (suc n) h p place c
    → Fronted w [] (read_block w place o (body_at (drop 24 (drop place c)) place) (λ v k. read_on n v (place + k) (drop k (drop place c))))
at_end None n h p w place c is only u = stop w []
at_end (Some e) n h p w place c is only u = absurd (only e (u.0 e is).0)

at_block : (o : Option ℕ) (n : ℕ) (h : StaticHead) (p : Past) (w : Walk) (place : ℕ) (b : Body) (bs : List Body) (c : List ℕ) → head_at (drop place c) place ≡ o
    → ((e : ℕ) → IsKnownHead h p place e → e ≡ extent_of b) → ((d : Body) → IsKnownBody h p place d → d ≡ b) → UntornFrom (suc n) h p place c
    → ((e : ℕ) → head_at (drop place c) place ≡ Some e → (v : Walk) → Fronted v (laid (place + extent_of b) bs) (read_on n v (place + extent_of b) (drop (place + extent_of b) c)))
    → Fronted w (placed place b ∷ laid (place + extent_of b) bs) (read_block w place o (body_at (drop 24 (drop place c)) place) (λ v k. read_on n v (place + k) (drop k (drop place c))))
at_block None n h p w place b bs c is heads bodies u go = stop w _
at_block (Some e) n h p w place b bs c is heads bodies u go =
    front_on (Some e) (body_at (drop 24 (drop place c)) place) n w place b (laid (place + extent_of b) bs) c is refl
    (record { head = λ k found. heads k (u.0 k found).0; says = λ d found. bodies d (u.1 d found) }) (go e is)

read_front_by : (n : ℕ) (h : StaticHead) (p : Past) (w : Walk) (place : ℕ) (bs : List Body) (c : List ℕ) → OnlyThese h p place bs → UntornFrom n h p place c → Fronted w (laid place bs) (read_on n w place (drop place c))
read_front_by zero h p w place bs c only u = stop w _
read_front_by (suc n) h p w place [] c only u = at_end (head_at (drop place c) place) n h p w place c refl only u
read_front_by (suc n) h p w place (b ∷ bs) c only u =
    at_block (head_at (drop place c) place) n h p w place b bs c refl only.0 only.1 u
    (λ e is v. read_front_by n h p v (place + extent_of b) bs c only.2 (subst (λ (k : ℕ). UntornFrom n h p (place + k) c) (only.0 e (u.0 e is).0) (u.0 e is).1))

-- blocks whose text stands are passed
passed : (m n : ℕ) (h : StaticHead) (p : Past) (place : ℕ) (bs : List Body) (links rest c : List ℕ) → n ≡ length bs + m → FitAll bs → drop place c ≡ texts (laid place bs) links ++ rest → UntornFrom n h p place c → UntornFrom m h p (end_of place bs) c
passed m n h p place [] links rest c fuel fit is u = subst (λ (k : ℕ). UntornFrom k h p place c) (omega (arith, fuel)) u
passed m zero h p place (b ∷ bs) links rest c fuel fit is u = absurd (omega (arith, fuel))
passed m (suc n) h p place (b ∷ bs) links rest c fuel fit is u =
    let link = first_or_none links in
    let more = texts (laid (place + extent_of b) bs) (drop 1 links) in
    let bytes : drop place c ≡ block_text b place link ++ (more ++ rest) = is ∙ append_assoc (block_text b place link) more rest in
    let later : drop (place + extent_of b) c ≡ more ++ rest = sym (drop-drop (extent_of b) place c) ∙ ap (λ (l : List ℕ). drop (extent_of b) l) bytes ∙ block_rest b place link (more ++ rest) in
    passed m n h p (place + extent_of b) bs (drop 1 links) rest c (omega (arith, fuel)) fit.1 later
    (u.0 (extent_of b) (ap (λ (l : List ℕ). head_at l place) bytes ∙ block_head b place link (more ++ rest) fit.0)).1

pub fair_restores : FairRestores
unfolding restored_groups groups_in read_blocks
fair_restores h groups more next p c static small legal upto kept fair untorn =
    let base = base_of h.p in
    let text = groups_text h groups in
    let end = end_of base (bodies_of groups) in
    let links = links_of h.p [] (blocks_of h groups) in
    let w = walk_over begin (blocks_of h groups) in
    let fuel = length c - length (bodies_of groups) in
    let found : static_at c ≡ Some h = ap static_at (sym (take-append-drop 32 c) ∙ ap (λ (l : List ℕ). l ++ drop 32 c) kept.header) ∙ statics.again h (drop 32 c) (static, small) in
    let tail : drop base c ≡ text ++ drop (length text) (drop base c) = sym (take-append-drop (length text) (drop base c)) ∙ ap (λ (l : List ℕ). l ++ drop (length text) (drop base c)) kept.blocks in
    let rest : drop (length text) (drop base c) ≡ drop end c = drop-drop (length text) base c ∙ ap (λ (k : ℕ). drop k c) (length-texts base (bodies_of groups) links) in
    let first = groups_front 0 next groups more legal in
    let last = groups_back 0 next groups more legal in
    let few : length (bodies_of groups) ≤ length c = omega (arith, ap length tail, length-append text (drop (length text) (drop base c)), length-drop base c, length-texts base (bodies_of groups) links, count_upto base (bodies_of groups)) in
    let fit : FitAll (bodies_of (groups ++ more)) = fit_all next updating alone 0 None base (bodies_of (groups ++ more)) (groups_fit next base (groups ++ more) legal upto) in
    let split_fit : FitAll (bodies_of groups ++ bodies_of more) = subst FitAll (bodies_of-append groups more) fit in
    let only : OnlyThese h p end (bodies_of more) = only_these h (groups ++ more) p (bodies_of groups) (bodies_of more) fit fair (bodies_of-append groups more) in
    let u : UntornFrom fuel h p end c = passed fuel (length c) h p base (bodies_of groups) links (drop (length text) (drop base c)) c (omega (arith, few)) (fit_first (bodies_of groups) (bodies_of more) split_fit) tail untorn.blocks in
    let front = read_front_by fuel h p w end (bodies_of more) c only u in
    let found_groups = front_groups last.0 next end front.count more last.1 in (
      found_groups.count,
      found_groups.upto,
      ap (groups_by c) found
          ∙ ap (λ (v : Walk). complete_groups [] v.blocks) (groups_read h groups next c _ first upto tail ∙ ap (λ (l : List ℕ). read_on fuel w end l) rest)
          ∙ ap (λ (l : List Placed). complete_groups [] l) (front.blocks ∙ ap (λ (l : List Placed). l ++ take front.count (laid end (bodies_of more))) (over_blocks begin (blocks_of h groups)))
          ∙ all_groups 0 next base groups (take front.count (laid end (bodies_of more))) first
          ∙ ap (λ (l : List Group). groups ++ l) found_groups.is,
    )
