-- What changes take in a file, by what is left of them.
use Rattle.std.proofs.Common.{◌≡◌, ℕ, ◌+◌, Bool, List, [], ◌∷◌, refl, sym, ◌∙◌, ap, subst, arith}
use Rattle.std.specs.Prelude.{sum_by}
use Rattle.std.proofs.lemmas.List.Sums.{sum_by-cons}
use Rattle.tk_model.specs.declared.record.Change.{Change}
use Rattle.tk_model.specs.declared.record.Change.TheVariants as changes
use Rattle.tk_model.specs.Records.{AllFit}
use Rattle.tk_store.specs.Store.{extent_of, extent_for}
use Rattle.tk_block.specs.Blocks.{body_of, is_nil, group_bodies, extent_of as body_extent}
use Rattle.tk_block.specs.Layout.{end_of}

-- the extent of a change is that of its block
pub same_extent : (number : ℕ) (c : Change) (last : Bool) → body_extent (body_of number c last) ≡ extent_of 1 c
same_extent number (changes.Put p) last = ap extent_for (omega arith)
same_extent number (changes.Drop k) last = ap extent_for (omega arith)
same_extent number changes.Clear last = refl

fit_tail : (c : Change) (rest : List Change) → AllFit (c ∷ rest) → AllFit rest
fit_tail (changes.Put pair) rest fit = fit.2
fit_tail (changes.Drop key) rest fit = fit.1
fit_tail changes.Clear rest fit = fit

pub fit_rest : (c : Change) (rest all : List Change) → all ≡ c ∷ rest → AllFit all → AllFit rest
fit_rest c rest all is fit = fit_tail c rest (subst AllFit is fit)

add_same : (a x y s : ℕ) → x ≡ y → a + x + s ≡ a + (y + s)
add_same a x y s e = omega (arith, e)

-- a group ends behind the sum of its extents
pub ends_sum : (number end : ℕ) (cs : List Change) → end_of end (group_bodies number cs) ≡ end + sum_by (extent_of 1) cs
ends_sum number end [] = omega arith
ends_sum number end (c ∷ cs) =
    ends_sum number (end + body_extent (body_of number c (is_nil cs))) cs
    ∙ add_same end (body_extent (body_of number c (is_nil cs))) (extent_of 1 c) (sum_by (extent_of 1) cs) (same_extent number c (is_nil cs))
    ∙ ap (λ (n : ℕ). end + n) (sym (sum_by-cons (extent_of 1) c cs))

sums : (need e more s total x : ℕ) → more ≡ need + e → e ≡ x → need + (x + s) ≡ total → more + s ≡ total
sums need e more s total x a b c = omega (arith, a, b, c)

-- one change more is summed
pub sum_more : (need e more : ℕ) (c : Change) (rest left all : List Change) → left ≡ c ∷ rest → more ≡ need + e → e ≡ extent_of 1 c
    → need + sum_by (extent_of 1) left ≡ sum_by (extent_of 1) all → more + sum_by (extent_of 1) rest ≡ sum_by (extent_of 1) all
sum_more need e more c rest left all is sum long so_far =
    sums need e more (sum_by (extent_of 1) rest) (sum_by (extent_of 1) all) (extent_of 1 c) sum long
    (ap (λ (n : ℕ). need + n) (sym (sum_by-cons (extent_of 1) c rest)) ∙ ap (λ (l : List Change). need + sum_by (extent_of 1) l) (sym is) ∙ so_far)
