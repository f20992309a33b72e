-- The newest blocks of buckets, with one block more.
use Rattle.std.proofs.Common.{◌≡◌, ℕ, ◌<◌, ◌^◌, Bool, cond, true, false, List, [], ◌∷◌, ◌++◌, length, get_or, refl, sym, ◌∙◌, ap, subst, inl, inr, arith, get_or-set_same, get_or-set_other}
use Rattle.std.specs.Prelude.{◌&&◌, ◌||◌, ◌==◌, if◌then◌else◌}
use Rattle.std.proofs.Math.ListN.{set, replicate}
use Rattle.std.proofs.lemmas.Bool.{eq-eqb, ne_eqb, cases_eq}
use Rattle.std.proofs.lemmas.List.{length-replicate, get_or-replicate, length-set}
use Rattle.tk_block.specs.declared.block.Body.{Body}
use Rattle.tk_block.specs.Layout.{placed, Placed, newest, renewed, link_of, bucket_in}
use Rattle.tk_block.proofs.Layouts.{newest-append}
use Rattle.tk_model.specs.declared.record.Pair.{Pair}
use Rattle.tk_model.specs.declared.record.Change.{Change}
use Rattle.tk_model.specs.declared.record.Change.TheVariants.{Put, Drop}
use Rattle.tk_block.specs.Blocks.{body_of}
use Rattle.tk_append.specs.Chains.{HeadsAre, HasKey}

pick_place : (clear kind same : Bool) (place found : ℕ) → clear ≡ false → kind ≡ true → (if clear then 0 else if kind && same then place else found) ≡ cond same place found
pick_place true kind same place found c k = absurd (cc)
pick_place false false same place found c k = absurd (cc)
pick_place false true true place found c k = refl
pick_place false true false place found c k = refl

renewed_is : (p bucket found place : ℕ) (key : List ℕ) (b : Body) → HasKey key b → renewed p bucket found (placed place b) ≡ cond (bucket_in p key == bucket) place found
renewed_is p bucket found place key b has =
    pick_place (b.kind == 4) ((b.kind == 1) || (b.kind == 2)) (bucket_in p b.key == bucket) place found has.no_clear has.kind
    ∙ ap (λ (k : List ℕ). cond (bucket_in p k == bucket) place found) has.key_is

newest_set : (p bucket slot place : ℕ) (key : List ℕ) (b : Body) (heads : List ℕ) (before : List Placed) → HasKey key b → slot ≡ bucket_in p key → slot < length heads
    → get_or heads bucket 0 ≡ newest p bucket 0 before → get_or (set heads slot place) bucket 0 ≡ renewed p bucket (newest p bucket 0 before) (placed place b)
newest_set p bucket slot place key b heads before has is below was = elim (cases_eq (bucket_in p key) bucket) [
  | inl e ↦
      ap (λ (k : ℕ). get_or (set heads slot place) k 0) (sym e ∙ sym is) ∙ get_or-set_same heads slot place 0 below
      ∙ sym (renewed_is p bucket (newest p bucket 0 before) place key b has ∙ ap (λ (v : Bool). cond v place (newest p bucket 0 before)) (eq-eqb _ _ e))
  | inr ne ↦
      get_or-set_other heads slot bucket place 0 (λ h. ne (sym (h ∙ is))) ∙ was
      ∙ sym (renewed_is p bucket (newest p bucket 0 before) place key b has ∙ ap (λ (v : Bool). cond v place (newest p bucket 0 before)) (ne_eqb _ _ ne))
]

pub heads_more : (p slot place : ℕ) (key : List ℕ) (b : Body) (heads : List ℕ) (before : List Placed) → HasKey key b → slot ≡ bucket_in p key → slot < 2 ^ p
    → HeadsAre p heads before → HeadsAre p (set heads slot place) (before ++ placed place b ∷ [])
heads_more p slot place key b heads before has is below are = record {
  whole = length-set heads slot place ∙ are.whole;
  newest_each = λ k within.
      newest_set p k slot place key b heads before has is (omega (arith, below, are.whole)) (are.newest_each k within)
      ∙ sym (newest-append p k 0 before (placed place b ∷ []));
}

no_clear_link : (clear : Bool) (n : ℕ) → clear ≡ false → (if clear then 0 else n) ≡ n
no_clear_link true n e = absurd (cc)
no_clear_link false n e = refl

pub link_is : (p slot : ℕ) (key : List ℕ) (b : Body) (heads : List ℕ) (before : List Placed) → HasKey key b → slot ≡ bucket_in p key → slot < 2 ^ p
    → HeadsAre p heads before → get_or heads slot 0 ≡ link_of p before b
link_is p slot key b heads before has is below are =
    are.newest_each slot below ∙ ap (λ (k : ℕ). newest p k 0 before) is ∙ ap (λ (k : List ℕ). newest p (bucket_in p k) 0 before) (sym has.key_is)
    ∙ sym (no_clear_link (b.kind == 4) (newest p (bucket_in p b.key) 0 before) has.no_clear)

cleared_newest : (kind : ℕ) (clear : Bool) (rest : ℕ) → clear ≡ true → (if clear then 0 else rest) ≡ 0
cleared_newest kind true rest e = refl
cleared_newest kind false rest e = absurd (cc)

pub cleared : (p place : ℕ) (b : Body) (heads : List ℕ) (before : List Placed) → b.kind ≡ 4 → heads ≡ replicate (2 ^ p) 0 → HeadsAre p heads (before ++ placed place b ∷ [])
cleared p place b heads before kind is = subst (λ (l : List ℕ). HeadsAre p l (before ++ placed place b ∷ [])) (sym is) (record {
  whole = length-replicate (2 ^ p) 0;
  newest_each = λ k below.
      get_or-replicate (2 ^ p) k 0 0 below
      ∙ sym (cleared_newest b.kind (b.kind == 4) _ (eq-eqb _ _ kind))
      ∙ sym (newest-append p k 0 before (placed place b ∷ []));
})

pub has_put : (key : List ℕ) (c : Change) (pair : Pair) (number : ℕ) (last : Bool) → c ≡ Put pair → key ≡ pair.key → HasKey key (body_of number c last)
has_put key c pair number last is same = subst (λ (x : Change). HasKey key (body_of number x last)) (sym is) (record { kind = refl; no_clear = refl; key_is = sym same })

pub has_drop : (key : List ℕ) (c : Change) (k : List ℕ) (number : ℕ) (last : Bool) → c ≡ Drop k → key ≡ k → HasKey key (body_of number c last)
has_drop key c k number last is same = subst (λ (x : Change). HasKey key (body_of number x last)) (sym is) (record { kind = refl; no_clear = refl; key_is = sym same })
