-- The heads behind one block more.
use Rattle.std.proofs.Common.{◌≡◌, ℕ, ◌<◌, ◌≤◌, ◌^◌, Bool, true, false, cond, eqb, List, [], ◌∷◌, ◌++◌, length, get_or, refl, sym, ◌∙◌, ap, subst, inl, inr, arith, get_or-set_same, get_or-set_other}
use Rattle.std.specs.Prelude.{◌==◌, ◌||◌, nat_lt}
use Rattle.std.proofs.Math.ListN.{set, replicate}
use Rattle.std.proofs.lemmas.Bool.{eq-eqb, ne_eqb, cases_eq}
use Rattle.std.proofs.lemmas.Bool.Decides.{nat_tests}
use Rattle.std.proofs.lemmas.List.{length-replicate, get_or-replicate, length-set}
use Rattle.tk_block.specs.declared.block.Body.{Body}
use Rattle.tk_block.specs.Layout.{placed, Placed, newest, renewed, is_in, bucket_in}
use Rattle.tk_block.proofs.Layouts.{newest-append}
use Rattle.tk_append.specs.Walked.{NewestIn, IsOfKind, live_head}

lives : (cleared head : ℕ) → cleared < head → live_head cleared head ≡ head
lives cleared head behind = let t : nat_lt cleared head ≡ true = grind (arith, nat_tests) in rw t refl

lived : (cleared head : ℕ) → head ≤ cleared → live_head cleared head ≡ 0
lived cleared head behind = let t : nat_lt cleared head ≡ false = grind (arith, nat_tests) in rw t refl

pub heads_begin : (p place : ℕ) (heads : List ℕ) → heads ≡ replicate (2 ^ p) 0 → 0 < place → NewestIn p place heads 0 []
heads_begin p place heads is some = subst (λ (l : List ℕ). NewestIn p place l 0 []) (sym is) (record {
  whole = length-replicate (2 ^ p) 0;
  newest_each = λ b below. ap (live_head 0) (get_or-replicate {A = ℕ} (2 ^ p) b 0 0 below);
  below = λ b below. omega (arith, get_or-replicate {A = ℕ} (2 ^ p) b 0 0 below);
  behind = some;
})

-- a clear empties all buckets
pub heads_clear : (p place next cleared : ℕ) (heads : List ℕ) (blocks : List Placed) (b : Body) → NewestIn p place heads cleared blocks → (b.kind == 4) ≡ true → place < next
    → NewestIn p next heads place (blocks ++ placed place b ∷ [])
heads_clear p place next cleared heads blocks b so_far is further =
    let x : Placed = placed place b in
    record {
      whole = so_far.whole;
      newest_each = λ k within.
          lived place (get_or heads k 0) (omega (arith, so_far.below k within))
          ∙ sym (newest-append p k 0 blocks (x ∷ []) ∙ ap (λ (v : Bool). cond v 0 (cond (is_in p k b) place (newest p k 0 blocks))) is);
      below = λ k within. omega (arith, so_far.below k within);
      behind = further;
    }

kind_in : (p k : ℕ) (b : Body) → IsOfKind b → (b.kind == 4) ≡ false → is_in p k b ≡ (bucket_in p b.key == k)
kind_in p k b of_kind is =
    let one_or_two : ((b.kind == 1) || (b.kind == 2)) ≡ true = grind (arith, of_kind, is) in
    rw one_or_two refl

renewed_at : (p k found place : ℕ) (b : Body) → IsOfKind b → (b.kind == 4) ≡ false → renewed p k found (placed place b) ≡ cond (eqb (bucket_in p b.key) k) place found
renewed_at p k found place b of_kind is =
    ap (λ (v : Bool). cond v 0 (cond (is_in p k b) place found)) is ∙ ap (λ (v : Bool). cond v place found) (kind_in p k b of_kind is)

newest_put : (p place cleared slot k : ℕ) (heads : List ℕ) (blocks : List Placed) (b : Body) → slot ≡ bucket_in p b.key → slot < length heads → cleared < place
    → live_head cleared (get_or heads k 0) ≡ newest p k 0 blocks → live_head cleared (get_or (set heads slot place) k 0) ≡ cond (eqb (bucket_in p b.key) k) place (newest p k 0 blocks)
newest_put p place cleared slot k heads blocks b here below behind was = elim (cases_eq (bucket_in p b.key) k) [
  | inl e ↦
      ap (λ (i : ℕ). live_head cleared (get_or (set heads slot place) i 0)) (sym e ∙ sym here) ∙ ap (live_head cleared) (get_or-set_same heads slot place 0 below) ∙ lives cleared place behind
      ∙ sym (ap (λ (v : Bool). cond v place (newest p k 0 blocks)) (eq-eqb _ _ e))
  | inr ne ↦
      ap (live_head cleared) (get_or-set_other heads slot k place 0 (λ h. ne (sym (h ∙ here)))) ∙ was
      ∙ sym (ap (λ (v : Bool). cond v place (newest p k 0 blocks)) (ne_eqb _ _ ne))
]

below_put : (slot k place next : ℕ) (heads : List ℕ) → slot < length heads → get_or heads k 0 < place → place < next → get_or (set heads slot place) k 0 < next
below_put slot k place next heads within below further = elim (cases_eq slot k) [
  | inl e ↦ omega (arith, ap (λ (i : ℕ). get_or (set heads slot place) i 0) (sym e) ∙ get_or-set_same heads slot place 0 within)
  | inr ne ↦ omega (arith, get_or-set_other heads slot k place 0 (λ h. ne (sym h)))
]

-- a set or a remove is the newest of its bucket
pub heads_put : (p place next cleared slot : ℕ) (heads : List ℕ) (blocks : List Placed) (b : Body) → NewestIn p place heads cleared blocks → IsOfKind b → (b.kind == 4) ≡ false → slot ≡ bucket_in p b.key → slot < 2 ^ p
    → place < next → NewestIn p next (set heads slot place) cleared (blocks ++ placed place b ∷ [])
heads_put p place next cleared slot heads blocks b so_far of_kind is here below further =
    let x : Placed = placed place b in
    let within : slot < length heads = omega (arith, so_far.whole) in
    record {
      whole = length-set heads slot place ∙ so_far.whole;
      newest_each = λ k inside.
          newest_put p place cleared slot k heads blocks b here within so_far.behind (so_far.newest_each k inside)
          ∙ sym (newest-append p k 0 blocks (x ∷ []) ∙ renewed_at p k (newest p k 0 blocks) place b of_kind is);
      below = λ k inside. below_put slot k place next heads within (so_far.below k inside) further;
      behind = omega (arith, so_far.behind);
    }
