-- New heads with each bucket once.
use Rattle.std.proofs.Common.{◌≡◌, ℕ, ◌<◌, ◌≤◌, ◌^◌, Bool, cond, true, false, Option, List, [], ◌∷◌, length, get_or, refl, sym, ◌∙◌, ap, inl, inr, ⊎_elim, arith}
use Rattle.std.specs.Prelude.{◌⊎◌, map}
use Rattle.std.specs.Option.{unwrap_or}
use Rattle.std.specs.Ordering.{nat_cmp, eq_by_cmp}
use Rattle.std.specs.BTreeMap.{BTreeMap, is_at, IsOrdered}
use Rattle.std.specs.Cmp.{eq_by_cmp_equiv}
use Rattle.std.specs.List.{IsDistinct}
use Rattle.std.specs.Map.{lookup, keys_of}
use Rattle.std.proofs.lemmas.Bool.{eq-eqb, ne_eqb, cases_eq, cases_order}
use Rattle.std.proofs.lemmas.Cmp.{nat_cmp_total}
use Rattle.std.proofs.lemmas.Grind.{common_steps}
use Rattle.std.proofs.lemmas.Map.{lookup-none}
use Rattle.std.proofs.lemmas.Map.Entries.{lookup_head, lookup_tail, none_past_head}
use Rattle.std.proofs.lemmas.Map.Keys.{IsDistinct-from_sorted}
use Rattle.tk_block.specs.Layout.{Placed}
use Rattle.tk_append.specs.Chains.{HeadsAre}
use Rattle.tk_hash.specs.declared.plan.NewHead.{NewHead}
use Rattle.tk_hash.specs.Plan.{with_new, AllBelow, placed_in, IsNewest}
use Rattle.tk_hash.proofs.GroupChained.{head_behind, length-with_new}

abbrev pub head_in : ℕ × ℕ → NewHead
head_in e = record { bucket = e.0; place = e.1 }

at_itself : (a b : ℕ) → a ≡ b → is_at (nat_cmp b) a ≡ true
at_itself a b is = grind (arith, common_steps)

at_another : (a b : ℕ) → (a ≡ b → ⊥) → is_at (nat_cmp b) a ≡ false
at_another a b ne = grind (arith, common_steps)

entries_placed : (es : List (ℕ × ℕ)) (b found : ℕ) → IsDistinct (eq_by_cmp nat_cmp) (keys_of es) → placed_in (map head_in es) b found ≡ unwrap_or (lookup (is_at (nat_cmp b)) es) found
unfolding IsDistinct
entries_placed [] b found distinct = refl
entries_placed (e ∷ es) b found distinct = elim (cases_eq e.0 b) [
  | inl is ↦
      ap (λ (v : Bool). placed_in (map head_in es) b (cond v e.1 found)) (eq-eqb _ _ is) ∙ entries_placed es b e.1 distinct.1
      ∙ ap (λ (o : Option ℕ). unwrap_or o e.1) (lookup-none (is_at (nat_cmp b)) es (none_past_head (eq_by_cmp_equiv nat_cmp_total) b e es distinct (at_itself e.0 b is)))
      ∙ sym (ap (λ (o : Option ℕ). unwrap_or o found) (lookup_head (is_at (nat_cmp b)) e es (at_itself e.0 b is)))
  | inr ne ↦
      ap (λ (v : Bool). placed_in (map head_in es) b (cond v e.1 found)) (ne_eqb _ _ ne) ∙ entries_placed es b found distinct.1
      ∙ sym (ap (λ (o : Option ℕ). unwrap_or o found) (lookup_tail (is_at (nat_cmp b)) e es (at_another e.0 b ne)))
]

-- the entries of the newest blocks are new heads with the same newest
pub once_placed : (newest : BTreeMap ℕ ℕ) (old new : List NewHead) → IsOrdered nat_cmp newest → IsNewest newest old → new ≡ map head_in newest.entries → (b found : ℕ) → placed_in new b found ≡ placed_in old b found
once_placed newest old new ordered are is b found =
    ap (λ (l : List NewHead). placed_in l b found) is ∙ entries_placed newest.entries b found (IsDistinct-from_sorted nat_cmp _ ordered) ∙ are b found

-- heads behind new heads with the same newest
pub heads_same : (p : ℕ) (old new : List NewHead) (heads : List ℕ) (blocks : List Placed) → ((b found : ℕ) → placed_in new b found ≡ placed_in old b found) → length heads ≡ 2 ^ p
    → HeadsAre p (with_new old heads) blocks → HeadsAre p (with_new new heads) blocks
heads_same p old new heads blocks same long are = record {
  whole = length-with_new new heads ∙ long;
  newest_each = λ b below.
      head_behind new heads b (omega (arith, long, below)) ∙ same b (get_or heads b 0) ∙ sym (head_behind old heads b (omega (arith, long, below))) ∙ are.newest_each b below;
}

none_placed : (number : ℕ) (ns : List NewHead) (b found : ℕ) → AllBelow number ns → number ≤ b → placed_in ns b found ≡ found
none_placed number [] b found all past = refl
none_placed number (n ∷ ns) b found all past =
    ap (λ (v : Bool). placed_in ns b (cond v n.place found)) (ne_eqb n.bucket b (λ e. omega (arith, e, all.0, past))) ∙ none_placed number ns b found all.1 past

split : (a b : ℕ) → (a < b) ⊎ (b ≤ a)
split a b = ⊎_elim (λ e. inr (omega (arith, e))) (λ two. ⊎_elim (λ less. inl less) (λ more. inr (omega (arith, more))) two) (cases_order a b)

all_below : (number : ℕ) (ns : List NewHead) → ((b found : ℕ) → number ≤ b → placed_in ns b found ≡ found) → AllBelow number ns
all_below number [] none = tt
all_below number (n ∷ ns) none = elim (split n.bucket number) [
  | inl below ↦ (below, all_below number ns (λ b found past. sym (ap (λ (v : Bool). placed_in ns b (cond v n.place found)) (ne_eqb n.bucket b (λ e. omega (arith, e, below, past)))) ∙ none b found past))
  | inr past ↦
      let here : (found : ℕ) → placed_in ns n.bucket n.place ≡ found = λ found.
      sym (ap (λ (v : Bool). placed_in ns n.bucket (cond v n.place found)) (eq-eqb n.bucket n.bucket refl)) ∙ none n.bucket found past in
      absurd (omega (arith, here 0, here 1))
]

pub below_same : (number : ℕ) (old new : List NewHead) → ((b found : ℕ) → placed_in new b found ≡ placed_in old b found) → AllBelow number old → AllBelow number new
below_same number old new same all = all_below number new (λ b found past. same b found ∙ none_placed number old b found all past)
