-- A block that is taken out of its chain.
use Rattle.std.proofs.Common.{◌≡◌, ◌≢◌, ◌⊎◌, inl, inr, ℕ, ◌+◌, ◌<◌, ◌≤◌, ◌^◌, Bool, true, false, cond, eqb, List, [], ◌∷◌, length, sym, ◌∙◌, ap, subst, arith}
use Rattle.std.specs.Prelude.{◌==◌, ◌||◌}
use Rattle.std.specs.Int.{w64, to_be_bytes}
use Rattle.std.specs.List.{list_any}
use Rattle.std.proofs.lemmas.Bool.{eq-eqb, ne_eqb, cases_eq}
use Rattle.tk_disk.specs.Crash.{Torn}
use Rattle.tk_disk.specs.Disk.{put_at}
use Rattle.tk_block.specs.Number.{u64_in}
use Rattle.tk_block.specs.declared.head.StaticHead.{StaticHead}
use Rattle.tk_buckets.specs.Chain.{IsWhole, IsBeside, AllBeside, IsApart, AreApart, IsLinked, IsChain, extent_in, link_in, head_cell, has_block, cell_to, without}
use Rattle.tk_buckets.proofs.Writes.{number_kept, put_torn, number_put}
use Rattle.tk_buckets.proofs.Links.{whole_long, Spares, AllSpared, all_kept, all_spared, extent_kept, whole_kept, apart_kept, linked_kept, chain_kept, front_is_beside, head_before, heads_apart}

-- what holds of a cell and of each link holds of the cell that leads to a block
abbrev AllLinks : (ℕ → Type 0) → List ℕ → Type 0
AllLinks P [] = Unit {0}
AllLinks P (q ∷ qs) = P (q + 16) × AllLinks P qs

of_cell : (b : Bool) (P : ℕ → Type 0) (cell other : ℕ) → P cell → P other → P (cond b cell other)
of_cell true P cell other here there = here
of_cell false P cell other here there = there

of_any : (P : ℕ → Type 0) (cell place : ℕ) (qs : List ℕ) → P cell → AllLinks P qs → P (cell_to cell place qs)
of_any P cell place [] here links = here
of_any P cell place (q ∷ qs) here links = of_cell (eqb q place) P cell (cell_to (q + 16) place qs) here (of_any P (q + 16) place qs links.0 links.1)

module _ (f : List ℕ) (q at n : ℕ) (from : q ≤ at) (to : at + n ≤ q + extent_in f q) where
  inside_step : (r : ℕ) → IsBeside f q (extent_in f q) r → IsBeside f at n r
  inside_step r (inl before) = inl (omega (arith, before, to))
  inside_step r (inr past) = inr (omega (arith, past, from))

  -- bytes inside a block are beside those that are apart from it
  pub inside_beside : (qs : List ℕ) → IsApart f q qs → AllBeside f at n qs
  inside_beside [] apart = tt
  inside_beside (r ∷ rs) apart = (inside_step r apart.0, inside_beside rs apart.1)

module _ (h : StaticHead) (f g : List ℕ) (place : ℕ) where
  link_past : (q r : ℕ) → 48 ≤ extent_in f r → IsBeside f q (extent_in f q) r → IsBeside f (r + 16) 8 q
  link_past q r long (inl before) = inr (omega (arith, before))
  link_past q r long (inr past) = inl (omega (arith, past, long))

  -- a link of a block that is apart is no part of this one
  pub links_past : (q first : ℕ) (qs : List ℕ) → IsLinked h f first qs → IsApart f q qs → AllLinks (λ x. Spares f g x 8 q) qs
  links_past q first [] linked apart = tt
  links_past q first (r ∷ rs) linked apart = (inl (inl (link_past q r (whole_long h f r linked.1) apart.0)), links_past q (link_in f r) rs linked.3 apart.1)

  links_beside : (q : ℕ) (qs : List ℕ) → IsWhole h f q → IsApart f q qs → AllBeside f (q + 16) 8 qs
  links_beside q qs whole apart = inside_beside f q (q + 16) 8 (omega arith) (omega (arith, whole_long h f q whole)) qs apart

  -- the cell that leads to the block is beside each block, or is its link
  spares_all : (cell first : ℕ) (qs : List ℕ) → AllBeside f cell 8 qs → IsLinked h f first qs → AllSpared f g (cell_to cell place qs) 8 qs
  spares_all cell first [] beside linked = tt
  spares_all cell first (q ∷ qs) beside linked = elim (cases_eq q place) [
    | inl e ↦
        subst (λ (b : Bool). AllSpared f g (cond b cell (cell_to (q + 16) place qs)) 8 (q ∷ qs)) (sym (eq-eqb q place e))
        (all_spared f g cell 8 (q ∷ qs) (all_kept f g cell 8 (q ∷ qs) beside))
    | inr ne ↦
        subst (λ (b : Bool). AllSpared f g (cond b cell (cell_to (q + 16) place qs)) 8 (q ∷ qs)) (sym (ne_eqb q place ne)) (
          of_any (λ x. Spares f g x 8 q) (q + 16) place qs (inr (record { from = omega arith; to = omega arith })) (links_past q (link_in f q) qs linked.3 linked.2),
          spares_all (q + 16) (link_in f q) qs (links_beside q qs linked.1 linked.2) linked.3,
        )
  ]

cell_apart : (cell q e : ℕ) → 48 ≤ e → (cell + 8 ≤ q) ⊎ (q + e ≤ cell) → (cell + 8 ≤ q + 16) ⊎ (q + 16 + 8 ≤ cell)
cell_apart cell q e long (inl before) = inl (omega (arith, before))
cell_apart cell q e long (inr past) = inr (omega (arith, past, long))

cells_apart : (h : StaticHead) (f : List ℕ) (cell first : ℕ) (qs : List ℕ) → AllBeside f cell 8 qs → IsLinked h f first qs → AllLinks (λ x. (cell + 8 ≤ x) ⊎ (x + 8 ≤ cell)) qs
cells_apart h f cell first [] beside linked = tt
cells_apart h f cell first (q ∷ qs) beside linked = (cell_apart cell q (extent_in f q) (whole_long h f q linked.1) beside.0, cells_apart h f cell (link_in f q) qs beside.1 linked.3)

-- a block that is not the first is among the others
pub some_behind : (place q : ℕ) (qs : List ℕ) → q ≢ place → has_block place (q ∷ qs) ≡ true → has_block place qs ≡ true
some_behind place q qs ne has = subst (λ (b : Bool). (b || list_any (λ (q : ℕ). q == place) qs) ≡ true) (ne_eqb q place ne) has

apart_choice : (g : List ℕ) (b : Bool) (q r : ℕ) (rs rest : List ℕ) → IsApart g q (r ∷ rs) → IsApart g q rest → IsApart g q (cond b rs (r ∷ rest))
apart_choice g true q r rs rest apart some = apart.1
apart_choice g false q r rs rest apart some = (apart.0, some)

apart_without : (g : List ℕ) (place q : ℕ) (qs : List ℕ) → IsApart g q qs → IsApart g q (without place qs)
apart_without g place q [] apart = tt
apart_without g place q (r ∷ rs) apart = apart_choice g (eqb r place) q r rs (without place rs) apart (apart_without g place q rs apart.1)

module _ (h : StaticHead) (f : List ℕ) (place at : ℕ) (fits : at + 8 ≤ length f) where
  abbrev after : List ℕ
  after = put_at at (to_be_bytes w64 (link_in f place)) f

  torn : Torn at 8 f after
  torn = put_torn at (to_be_bytes w64 (link_in f place)) f (omega (arith, fits))

  -- the chain from a cell on, where the cell that leads to the block has its link
  pub unlinked : link_in f place < 2 ^ 64 → (cell : ℕ) (qs : List ℕ) → at ≡ cell_to cell place qs → cell + 8 ≤ length f → AllBeside f cell 8 qs → IsLinked h f (u64_in f cell) qs → has_block place qs ≡ true
      → IsLinked h after (u64_in after cell) (without place qs)
  unlinked small cell [] is within beside linked has = absurd (cc (has))
  unlinked small cell (q ∷ qs) is within beside linked has = elim (cases_eq q place) [
    | inl e ↦
        let here : at ≡ cell = is ∙ ap (λ (b : Bool). cond b cell (cell_to (q + 16) place qs)) (eq-eqb q place e) in
        let link : u64_in after cell ≡ link_in f q =
        ap (λ (n : ℕ). u64_in after n) (sym here) ∙ number_put at (link_in f place) f (omega (arith, fits)) small ∙ ap (λ (n : ℕ). link_in f n) (sym e) in
        subst (λ (b : Bool). IsLinked h after (u64_in after cell) (cond b qs (q ∷ without place qs))) (sym (eq-eqb q place e))
        (subst (λ (n : ℕ). IsLinked h after n qs) (sym link)
        (linked_kept h at 8 f after torn (link_in f q) qs linked.3 (all_kept f after at 8 qs (subst (λ (n : ℕ). AllBeside f n 8 qs) (sym here) beside.1))))
    | inr ne ↦
        let there : at ≡ cell_to (q + 16) place qs = is ∙ ap (λ (b : Bool). cond b cell (cell_to (q + 16) place qs)) (ne_eqb q place ne) in
        let spares : AllSpared f after at 8 (q ∷ qs) = subst (λ (n : ℕ). AllSpared f after n 8 (q ∷ qs)) (sym is) (spares_all h f after place cell (u64_in f cell) (q ∷ qs) beside linked) in
        let apart : (cell + 8 ≤ at) ⊎ (at + 8 ≤ cell) =
        subst (λ (n : ℕ). (cell + 8 ≤ n) ⊎ (n + 8 ≤ cell)) (sym there)
        (of_any (λ x. (cell + 8 ≤ x) ⊎ (x + 8 ≤ cell)) (q + 16) place qs (cell_apart cell q (extent_in f q) (whole_long h f q linked.1) beside.0) (cells_apart h f cell (link_in f q) qs beside.1 linked.3)) in
        subst (λ (b : Bool). IsLinked h after (u64_in after cell) (cond b qs (q ∷ without place qs))) (sym (ne_eqb q place ne)) (
          number_kept at 8 f after torn cell (inl within) apart ∙ linked.0,
          whole_kept h at 8 f after torn q linked.1 spares.0,
          apart_without after place q qs (apart_kept h at 8 f after torn q (link_in f q) qs (extent_kept h at 8 f after torn q linked.1 spares.0) linked.3 spares.1 linked.2),
          unlinked small (q + 16) qs there (omega (arith, whole_long h f q linked.1, linked.1.within)) (links_beside h f after place q qs linked.1 linked.2) linked.3 (some_behind place q qs ne has),
        )
  ]

-- the bucket's chain without the block
pub left_out : (h : StaticHead) (f : List ℕ) (bucket place at : ℕ) (places : List ℕ) → bucket < 2 ^ h.p → (fits : at + 8 ≤ length f) → link_in f place < 2 ^ 64
    → at ≡ cell_to (head_cell bucket) place places → IsChain h f bucket places → has_block place places ≡ true
    → IsChain h (put_at at (to_be_bytes w64 (link_in f place)) f) bucket (without place places)
left_out h f bucket place at places below fits small is chain has =
    let cell = head_cell bucket in
    let front = head_before h bucket below in
    record {
      heads = omega (arith, chain.heads, (torn h f place at fits).no_shorter);
      linked = unlinked h f place at fits small cell places is (omega (arith, front, chain.heads)) (front_is_beside h f cell 8 (u64_in f cell) places front chain.linked) chain.linked has;
    }

-- a cell that is no part of another bucket's chain
record IsOther (f : List ℕ) (other cell : ℕ) (rest : List ℕ) : Type 0 where
  pub head : (head_cell other + 8 ≤ cell) ⊎ (cell + 8 ≤ head_cell other)
  pub blocks : AllBeside f cell 8 rest

links_other : (h : StaticHead) (f : List ℕ) (other first : ℕ) (qs rest : List ℕ) → other < 2 ^ h.p → IsLinked h f first qs → AreApart f qs rest → AllLinks (λ x. IsOther f other x rest) qs
links_other h f other first [] rest below linked apart = tt
links_other h f other first (q ∷ qs) rest below linked apart = (
  record {
    head = inl (omega (arith, head_before h other below, linked.1.behind));
    blocks = inside_beside f q (q + 16) 8 (omega arith) (omega (arith, whole_long h f q linked.1)) rest apart.0;
  },
  links_other h f other (link_in f q) qs rest below linked.3 apart.1,
)

-- another bucket's chain, of which no block is in common with this one
pub other_left : (h : StaticHead) (f : List ℕ) (bucket other place at : ℕ) (bytes places rest : List ℕ) → bucket < 2 ^ h.p → other < 2 ^ h.p → other ≢ bucket → at ≤ length f → length bytes ≡ 8
    → at ≡ cell_to (head_cell bucket) place places → IsChain h f bucket places → IsChain h f other rest → AreApart f places rest → IsChain h (put_at at bytes f) other rest
other_left h f bucket other place at bytes places rest below within ne fits eight is chain kept apart =
    let cell = head_cell bucket in
    let g = put_at at bytes f in
    let torn : Torn at 8 f g = subst (λ (n : ℕ). Torn at n f g) eight (put_torn at bytes f fits) in
    let there : IsOther f other at rest =
    subst (λ (n : ℕ). IsOther f other n rest) (sym is)
    (of_any (λ x. IsOther f other x rest) cell place places
    (record { head = heads_apart bucket other ne; blocks = front_is_beside h f cell 8 (u64_in f (head_cell other)) rest (head_before h bucket below) kept.linked })
    (links_other h f other (u64_in f cell) places rest within chain.linked apart)) in
    chain_kept h at 8 f g torn other rest (inl (omega (arith, head_before h other within, kept.heads))) there.head kept (all_kept f g at 8 rest there.blocks)

links_within : (h : StaticHead) (f : List ℕ) (first : ℕ) (qs : List ℕ) → IsLinked h f first qs → AllLinks (λ x. x + 8 ≤ length f) qs
links_within h f first [] linked = tt
links_within h f first (q ∷ qs) linked = (omega (arith, whole_long h f q linked.1, linked.1.within), links_within h f (link_in f q) qs linked.3)

pub cell_within : (h : StaticHead) (f : List ℕ) (cell place first : ℕ) (qs : List ℕ) → cell + 8 ≤ length f → IsLinked h f first qs → cell_to cell place qs + 8 ≤ length f
cell_within h f cell place first qs fits linked = of_any (λ x. x + 8 ≤ length f) cell place qs fits (links_within h f first qs linked)

-- a block of the chain stands whole
pub has_whole : (h : StaticHead) (f : List ℕ) (place first : ℕ) (qs : List ℕ) → IsLinked h f first qs → has_block place qs ≡ true → IsWhole h f place
has_whole h f place first [] linked has = absurd (cc (has))
has_whole h f place first (q ∷ qs) linked has = elim (cases_eq q place) [
  | inl e ↦ subst (λ (n : ℕ). IsWhole h f n) e linked.1
  | inr ne ↦ has_whole h f place (link_in f q) qs linked.3 (some_behind place q qs ne has)
]
