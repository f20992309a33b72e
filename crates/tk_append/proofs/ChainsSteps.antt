-- The chains of the blocks so far, and one block more.
use Rattle.std.proofs.Common.{◌≡◌, ℕ, suc, ◌+◌, ◌<◌, ◌^◌, Bool, cond, List, [], ◌∷◌, ◌++◌, length, get_or, take, drop, refl, sym, ◌∙◌, ap, subst, inl, inr, arith, get_or-set_same, get_or-set_other}
use Rattle.std.specs.Prelude.{◌||◌}
use Rattle.std.proofs.Math.ListN.{set, replicate}
use Rattle.std.proofs.lemmas.Bool.{eq-eqb, ne_eqb, cases_eq}
use Rattle.std.proofs.lemmas.List.{length-replicate, get_or-replicate, length-set}
use Rattle.tk_model.specs.declared.record.Pair.{Pair}
use Rattle.tk_model.specs.declared.record.Change.TheVariants.{Put}
use Rattle.tk_block.specs.declared.block.Body.{Body}
use Rattle.tk_block.specs.Blocks.{extent_of, extent_for, body_of, is_nil}
use Rattle.tk_block.specs.Layout.{placed, Placed, laid, end_of, newest, renewed, links_of, bucket_in}
use Rattle.tk_append.specs.Fresh.{fresh_bodies}
use Rattle.tk_append.specs.Chains.{HeadsAre}
use Rattle.tk_append.proofs.Layouts.{bodies-more, laid-more}
use Rattle.tk_block.proofs.Layouts.{newest-append, end_of-append, links_of-append}

-- heads, links and end of the first i blocks
pub record Chained (p base : ℕ) (bodies : List Body) (i : ℕ) (heads links : List ℕ) (place : ℕ) : Type 0 where
  pub heads_are : HeadsAre p heads (laid base (take i bodies))
  pub links_are : links ≡ links_of p [] (laid base (take i bodies))
  pub place_is : place ≡ end_of base (take i bodies)

pub begun : (p base : ℕ) (bodies : List Body) (heads links : List ℕ) → heads ≡ replicate (2 ^ p) 0 → links ≡ [] → Chained p base bodies 0 heads links base
begun p base bodies heads links is none =
    subst (λ (l : List ℕ). Chained p base bodies 0 l links base) (sym is) (
    record {
      heads_are = record { whole = length-replicate (2 ^ p) 0; newest_each = λ b below. get_or-replicate (2 ^ p) b 0 0 below };
      links_are = none;
      place_is = refl;
    })

-- the newest block of a bucket, after a set
newest_set : (p b slot place number : ℕ) (pair : Pair) (last : Bool) (heads : List ℕ) (before : List Placed) → slot ≡ bucket_in p pair.key → slot < length heads
    → get_or heads b 0 ≡ newest p b 0 before → get_or (set heads slot place) b 0 ≡ renewed p b (newest p b 0 before) (placed place (body_of number (Put pair) last))
newest_set p b slot place number pair last heads before is below was = elim (cases_eq (bucket_in p pair.key) b) [
  | inl e ↦
      ap (λ (k : ℕ). get_or (set heads slot place) k 0) (sym e ∙ sym is) ∙ get_or-set_same heads slot place 0 below
      ∙ sym (ap (λ (v : Bool). cond v place (newest p b 0 before)) (eq-eqb _ _ e))
  | inr ne ↦
      get_or-set_other heads slot b place 0 (λ h. ne (sym (h ∙ is))) ∙ was
      ∙ sym (ap (λ (v : Bool). cond v place (newest p b 0 before)) (ne_eqb _ _ ne))
]

module _ (p base number : ℕ) (each : Bool) (pairs : List Pair) (i : ℕ) (pair : Pair) (within : i < length pairs) (is : pair ≡ get_or pairs i pair) where
  pub chain_step : (heads links : List ℕ) (place slot extent : ℕ) → slot ≡ bucket_in p pair.key → slot < 2 ^ p → extent ≡ extent_for (44 + length pair.key + length pair.value)
      → Chained p base (fresh_bodies number each pairs) i heads links place
      → Chained p base (fresh_bodies number each pairs) (i + 1) (set heads slot place) (links ++ get_or heads slot 0 ∷ []) (place + extent)
  chain_step heads links place slot extent here below long so_far =
      let front : List Body = take i (fresh_bodies number each pairs) in
      let last : Bool = each || is_nil (drop (suc i) pairs) in
      let before : List Placed = laid base front in
      let body : Body = body_of number (Put pair) last in
      record {
        heads_are = record {
          whole = length-set heads slot place ∙ so_far.heads_are.whole;
          newest_each = λ b within_p.
              newest_set p b slot place number pair last heads before here (omega (arith, below, so_far.heads_are.whole)) (so_far.heads_are.newest_each b within_p)
              ∙ ap (λ (n : ℕ). renewed p b (newest p b 0 before) (placed n body)) so_far.place_is
              ∙ sym (newest-append p b 0 before (placed (end_of base front) body ∷ []))
              ∙ sym (ap (λ (l : List Placed). newest p b 0 l) (laid-more base number each pairs i pair within is));
        };
        links_are =
            ap (λ (n : ℕ). links ++ n ∷ []) (so_far.heads_are.newest_each slot below ∙ ap (λ (k : ℕ). newest p k 0 before) here)
            ∙ ap (λ (l : List ℕ). l ++ newest p (bucket_in p pair.key) 0 before ∷ []) so_far.links_are
            ∙ sym (links_of-append p [] before (placed (end_of base front) body ∷ []))
            ∙ sym (ap (λ (l : List Placed). links_of p [] l) (laid-more base number each pairs i pair within is));
        place_is =
            ap (λ (n : ℕ). place + n) long ∙ ap (λ (n : ℕ). n + extent_of body) so_far.place_is
            ∙ sym (end_of-append base front (body ∷ [])) ∙ sym (ap (λ (l : List Body). end_of base l) (bodies-more number each pairs i pair within is));
      }
