-- Chains under writes into blocks, and behind the end.
use Rattle.std.proofs.Common.{◌≡◌, ◌≢◌, ◌⊎◌, inl, inr, ℕ, ◌+◌, ◌<◌, ◌≤◌, ◌^◌, Bool, true, false, eqb, cond, List, [], ◌∷◌, length, refl, sym, ◌∙◌, ap, subst, arith}
use Rattle.std.specs.Prelude.{◌==◌, ◌||◌}
use Rattle.std.specs.List.{list_any}
use Rattle.std.proofs.lemmas.Bool.{eq-eqb, ne_eqb, cases_eq}
use Rattle.tk_disk.specs.Crash.{Torn}
use Rattle.tk_block.specs.Number.{u64_in}
use Rattle.tk_block.specs.Text.{base_of}
use Rattle.tk_block.specs.declared.head.StaticHead.{StaticHead}
use Rattle.tk_buckets.specs.Chain.{IsBeside, AllBeside, IsApart, AreApart, IsLinked, IsChain, extent_in, link_in, head_cell, has_block, cell_to}
use Rattle.tk_buckets.specs.Frame.{AreInTurn, AllAmong, NoneAmong, HasBody, WritesLeaveChains}
use Rattle.tk_buckets.proofs.Links.{AllKept, IsInside, all_kept, whole_with, chain_kept, head_before}
use Rattle.tk_buckets.proofs.Unlinks.{inside_beside, some_behind, has_whole}

-- bytes beside all of these blocks are beside each
beside_at : (f : List ℕ) (at n place : ℕ) (qs : List ℕ) → AllBeside f at n qs → has_block place qs ≡ true → IsBeside f at n place
beside_at f at n place [] beside among = absurd (cc (among))
beside_at f at n place (q ∷ qs) beside among = elim (cases_eq q place) [
  | inl e ↦ subst (λ (k : ℕ). IsBeside f at n k) e beside.0
  | inr ne ↦ beside_at f at n place qs beside.1 (some_behind place q qs ne among)
]

module _ (h : StaticHead) (f g : List ℕ) (at n : ℕ) (torn : Torn at n f g) where
  stays_behind : (bucket : ℕ) (places : List ℕ) → bucket < 2 ^ h.p → base_of h.p ≤ at → IsChain h f bucket places → AllKept f g at n places → IsChain h g bucket places
  stays_behind bucket places below past chain kept =
      chain_kept h at n f g torn bucket places (inl (omega (arith, head_before h bucket below, chain.heads))) (inl (omega (arith, head_before h bucket below, past))) chain kept

  all_ended : (first : ℕ) (qs : List ℕ) → length f ≤ at → IsLinked h f first qs → AllBeside f at n qs
  all_ended first [] past linked = tt
  all_ended first (q ∷ qs) past linked = (inr (omega (arith, past, linked.1.within)), all_ended (link_in f q) qs past linked.3)

  module _ (place : ℕ) (from : place + 24 ≤ at) (to : at + n ≤ place + extent_in f place) (has : HasBody g place (extent_in f place)) where
    own : IsInside f g at place
    own = record { body = has.body; behind = from; says = has.says; room = has.room }

    out_of : (q : ℕ) → IsBeside f q (extent_in f q) place → IsBeside f at n q
    out_of q (inl before) = inr (omega (arith, before, from))
    out_of q (inr past) = inl (omega (arith, past, to))

    -- the block is overwritten behind its link, and the others are beside it
    inside_kept : (first : ℕ) (qs : List ℕ) → IsLinked h f first qs → has_block place qs ≡ true → AllKept f g at n qs
    inside_kept first [] linked among = absurd (cc (among))
    inside_kept first (q ∷ qs) linked among = elim (cases_eq q place) [
      | inl e ↦ (
        inr (subst (λ (k : ℕ). IsInside f g at k) (sym e) own),
        all_kept f g at n qs (inside_beside f q at n (omega (arith, e, from)) (subst (λ (k : ℕ). at + n ≤ k + extent_in f k) (sym e) to) qs linked.2),
      )
      | inr ne ↦
          let more = some_behind place q qs ne among in
          (inl (out_of q (beside_at f q (extent_in f q) place qs linked.2 more)), inside_kept (link_in f q) qs linked.3 more)
    ]

    stays_inside : (bucket : ℕ) (places : List ℕ) → bucket < 2 ^ h.p → IsChain h f bucket places → has_block place places ≡ true → base_of h.p ≤ place → IsChain h g bucket places
    stays_inside bucket places below chain among behind =
        stays_behind bucket places below (omega (arith, behind, from)) chain (inside_kept (u64_in f (head_cell bucket)) places chain.linked among)

-- ---- blocks that follow one another

not_both : (a b : Bool) → (a || b) ≡ false → (a ≡ false) × (b ≡ false)
not_both true b is = absurd (cc (is))
not_both false b is = (refl, is)

not_same : (a b : ℕ) → eqb a b ≡ false → a ≢ b
not_same a b is = λ e. absurd (cc (is, eq-eqb a b e))

least : (f : List ℕ) (at place : ℕ) (qs : List ℕ) → AreInTurn f at qs → has_block place qs ≡ true → at ≤ place
least f at place [] turn among = absurd (cc (among))
least f at place (q ∷ qs) turn among = elim (cases_eq q place) [
  | inl e ↦ omega (arith, e, turn.0)
  | inr ne ↦ omega (arith, turn.0, least f (q + extent_in f q) place qs turn.1 (some_behind place q qs ne among))
]

in_turn_apart : (f : List ℕ) (at p r : ℕ) (all : List ℕ) → AreInTurn f at all → has_block p all ≡ true → has_block r all ≡ true → r ≢ p → IsBeside f p (extent_in f p) r
in_turn_apart f at p r [] turn first second ne = absurd (cc (first))
in_turn_apart f at p r (q ∷ qs) turn first second ne = elim (cases_eq q p) [
  | inl e ↦ inl (subst (λ (k : ℕ). k + extent_in f k ≤ r) e (least f (q + extent_in f q) r qs turn.1 (some_behind r q qs (λ is. ne (sym is ∙ e)) second)))
  | inr other ↦ elim (cases_eq q r) [
    | inl e ↦ inr (subst (λ (k : ℕ). k + extent_in f k ≤ p) e (least f (q + extent_in f q) p qs turn.1 (some_behind p q qs other first)))
    | inr neither ↦ in_turn_apart f (q + extent_in f q) p r qs turn.1 (some_behind p q qs other first) (some_behind r q qs neither second) ne
  ]
]

one_apart : (f : List ℕ) (at p : ℕ) (all rest : List ℕ) → AreInTurn f at all → has_block p all ≡ true → AllAmong rest all → has_block p rest ≡ false → IsApart f p rest
one_apart f at p all [] turn first among none = tt
one_apart f at p all (r ∷ rs) turn first among none =
    let no = not_both (eqb r p) (list_any (λ (q : ℕ). q == p) rs) none in
    (in_turn_apart f at p r all turn first among.0 (not_same r p no.0), one_apart f at p all rs turn first among.1 no.1)

all_apart : (f : List ℕ) (at : ℕ) (all places rest : List ℕ) → AreInTurn f at all → AllAmong places all → AllAmong rest all → NoneAmong places rest → AreApart f places rest
all_apart f at all [] rest turn first second none = tt
all_apart f at all (p ∷ ps) rest turn first second none = (one_apart f at p all rest turn first.0 second none.0, all_apart f at all ps rest turn first.1 second none.1)

-- ---- the cell that leads to a block

or_right : (a b : Bool) → b ≡ true → (a || b) ≡ true
or_right true b is = refl
or_right false b is = is

or_left : (a b : Bool) → a ≡ true → (a || b) ≡ true
or_left true b is = refl
or_left false b is = absurd (cc (is))

cell_among : (cell place : ℕ) (qs : List ℕ) → (cell_to cell place qs ≡ cell) ⊎ ((q : ℕ) × (has_block q qs ≡ true) × (cell_to cell place qs ≡ q + 16))
cell_among cell place [] = inl refl
cell_among cell place (q ∷ qs) = elim (cases_eq q place) [
  | inl e ↦ inl (ap (λ (b : Bool). cond b cell (cell_to (q + 16) place qs)) (eq-eqb q place e))
  | inr ne ↦
      let on : cell_to cell place (q ∷ qs) ≡ cell_to (q + 16) place qs = ap (λ (b : Bool). cond b cell (cell_to (q + 16) place qs)) (ne_eqb q place ne) in
      elim (cell_among (q + 16) place qs) [
        | inl here ↦ inr (q, or_left (eqb q q) (has_block q qs) (eq-eqb q q refl), on ∙ here)
        | inr there ↦ inr (there.0, or_right (eqb q there.0) (has_block there.0 qs) there.1, on ∙ there.2)
      ]
]

-- what a write leaves of chains
pub writes_leave_chains : (h : StaticHead) → WritesLeaveChains h
writes_leave_chains h = record {
  block = λ f g at n place whole from torn has. whole_with h at n f g torn place has.body whole (inl from) has.says has.room;
  inside = λ f g at n bucket place places below chain among from to torn has.
      stays_inside h f g at n torn place from to has bucket places below chain among (has_whole h f place (u64_in f (head_cell bucket)) places chain.linked among).behind;
  elsewhere = λ f g at n bucket place places below chain behind apart from to torn.
      stays_behind h f g at n torn bucket places below (omega (arith, behind, from)) chain (all_kept f g at n places (inside_beside f place at n from to places apart));
  behind = λ f g at n bucket places below chain past torn.
      stays_behind h f g at n torn bucket places below (omega (arith, chain.heads, past)) chain (all_kept f g at n places (all_ended h f g at n torn (u64_in f (head_cell bucket)) places past chain.linked));
  apart = all_apart;
  cell = cell_among;
}
