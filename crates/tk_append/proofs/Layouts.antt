-- Blocks one after another, their links and their text.
use Rattle.std.proofs.Common.{◌≡◌, ℕ, zero, suc, ◌+◌, ◌<◌, ◌≤◌, Bool, true, false, eqb, List, [], ◌∷◌, ◌++◌, length, get_or, take, drop, refl, sym, ◌∙◌, ap, inl, inr, add-one, arith, append_assoc, length-append}
use Rattle.std.proofs.lemmas.List.{length-take, take_all, drop_all}
use Rattle.std.proofs.lemmas.Bool.{eq-eqb, ne_eqb, cases_eq}
use Rattle.std.proofs.lemmas.List.{append-nil}
use Rattle.tk_model.specs.declared.record.Pair.{Pair}
use Rattle.tk_model.specs.declared.record.Change.TheVariants.{Put}
use Rattle.tk_block.specs.declared.block.Body.{Body}
use Rattle.tk_block.specs.Blocks.{IsSmall, extent_of, body_of, is_nil, block_text}
use Rattle.tk_block.specs.Layout.{placed, Placed, laid, end_of, texts, first_or_none}
use Rattle.tk_append.specs.Fresh.{fresh_bodies, AllPairsSmall}
use Rattle.std.specs.Prelude.{◌||◌}
use Rattle.std.proofs.Math.Seq.{drop-nil}
use Rattle.tk_block.proofs.Layouts.{laid-append, end_of-append, length-laid, texts-append}
use Rattle.tk_block.proofs.Lengths.{length-block_text}

-- one block more of fresh records
pub fresh-take : (number : ℕ) (each : Bool) (pairs : List Pair) (i : ℕ) (d : Pair) → i < length pairs
    → take (suc i) (fresh_bodies number each pairs) ≡ take i (fresh_bodies number each pairs) ++ body_of number (Put (get_or pairs i d)) (each || is_nil (drop (suc i) pairs)) ∷ []
fresh-take number each [] i d within = absurd (omega arith)
fresh-take number each (p ∷ ps) zero d within = refl
fresh-take number each (p ∷ ps) (suc i) d within = ap (λ (l : List Body). body_of number (Put p) (each || is_nil ps) ∷ l) (fresh-take number each ps i d (omega arith))

pub bodies-more : (number : ℕ) (each : Bool) (pairs : List Pair) (i : ℕ) (pair : Pair) → i < length pairs → pair ≡ get_or pairs i pair
    → take (i + 1) (fresh_bodies number each pairs) ≡ take i (fresh_bodies number each pairs) ++ body_of number (Put pair) (each || is_nil (drop (suc i) pairs)) ∷ []
bodies-more number each pairs i pair within is =
    ap (λ (k : ℕ). take k (fresh_bodies number each pairs)) (add-one i) ∙ fresh-take number each pairs i pair within
    ∙ ap (λ (q : Pair). take i (fresh_bodies number each pairs) ++ body_of number (Put q) (each || is_nil (drop (suc i) pairs)) ∷ []) (sym is)

pub length-fresh_bodies : (number : ℕ) (each : Bool) (pairs : List Pair) → length (fresh_bodies number each pairs) ≡ length pairs
length-fresh_bodies number each [] = refl
length-fresh_bodies number each (p ∷ ps) = ap suc (length-fresh_bodies number each ps)

pub small_at : (pairs : List Pair) (i : ℕ) (d : Pair) → AllPairsSmall pairs → i < length pairs → IsSmall (get_or pairs i d).key (get_or pairs i d).value
small_at [] i d small within = absurd (omega arith)
small_at (p ∷ ps) zero d small within = small.0
small_at (p ∷ ps) (suc i) d small within = small_at ps i d small.1 (omega arith)

-- an end is no less than that of a front
pub end_of-take : (place i : ℕ) (bodies : List Body) → end_of place (take i bodies) ≤ end_of place bodies
end_of-take place zero [] = omega arith
end_of-take place zero (b ∷ bs) = omega (arith, end_of-take (place + extent_of b) zero bs)
end_of-take place (suc i) [] = omega arith
end_of-take place (suc i) (b ∷ bs) = end_of-take (place + extent_of b) i bs

is_nil-drop : (pairs : List Pair) (k : ℕ) → k < length pairs → is_nil (drop k pairs) ≡ false
is_nil-drop [] k within = absurd (omega arith)
is_nil-drop (p ∷ ps) zero within = refl
is_nil-drop (p ∷ ps) (suc k) within = is_nil-drop ps k (omega arith)

-- the flag of the block at i
pub flag_at : (pairs : List Pair) (i : ℕ) → i < length pairs → is_nil (drop (suc i) pairs) ≡ eqb (i + 1) (length pairs)
flag_at pairs i within = elim (cases_eq (i + 1) (length pairs)) [
  | inl e ↦ ap is_nil (drop_all (suc i) pairs (omega (arith, e))) ∙ sym (eq-eqb _ _ e)
  | inr ne ↦ is_nil-drop pairs (suc i) (omega (arith, ne)) ∙ sym (ne_eqb _ _ ne)
]

-- a text with a block more
pub length-grown : (new old : List ℕ) (b : Body) (place link : ℕ) → new ≡ old ++ block_text b place link → length new ≡ length old + extent_of b
length-grown new old b place link is = omega (arith, ap length is, length-append old (block_text b place link), length-block_text b place link)

-- the end behind one record more
pub end_of-more : (place number : ℕ) (each : Bool) (pairs : List Pair) (i : ℕ) (pair : Pair) (last : Bool) → i < length pairs → pair ≡ get_or pairs i pair
    → end_of place (take (i + 1) (fresh_bodies number each pairs)) ≡ end_of place (take i (fresh_bodies number each pairs)) + extent_of (body_of number (Put pair) last)
end_of-more place number each pairs i pair last within is =
    ap (λ (l : List Body). end_of place l) (bodies-more number each pairs i pair within is)
    ∙ end_of-append place (take i (fresh_bodies number each pairs)) (body_of number (Put pair) (each || is_nil (drop (suc i) pairs)) ∷ [])

-- the blocks with one record more
pub laid-more : (base number : ℕ) (each : Bool) (pairs : List Pair) (i : ℕ) (pair : Pair) → i < length pairs → pair ≡ get_or pairs i pair
    → laid base (take (i + 1) (fresh_bodies number each pairs))
    ≡ laid base (take i (fresh_bodies number each pairs)) ++ placed (end_of base (take i (fresh_bodies number each pairs))) (body_of number (Put pair) (each || is_nil (drop (suc i) pairs))) ∷ []
laid-more base number each pairs i pair within is =
    ap (λ (l : List Body). laid base l) (bodies-more number each pairs i pair within is)
    ∙ laid-append base (take i (fresh_bodies number each pairs)) (body_of number (Put pair) (each || is_nil (drop (suc i) pairs)) ∷ [])

first-drop : (links : List ℕ) (i : ℕ) → first_or_none (drop i links) ≡ get_or links i 0
first-drop [] i = ap first_or_none (drop-nil i)
first-drop (x ∷ xs) zero = refl
first-drop (x ∷ xs) (suc i) = first-drop xs i

-- the text with one record more
pub texts-more : (base number : ℕ) (each : Bool) (pairs : List Pair) (links : List ℕ) (i : ℕ) (pair : Pair) (last : Bool) (place link : ℕ) (text : List ℕ)
    → i < length pairs → pair ≡ get_or pairs i pair → last ≡ (each || eqb (i + 1) (length pairs)) → place ≡ end_of base (take i (fresh_bodies number each pairs)) → link ≡ get_or links i 0
    → (text ++ texts (laid base (take i (fresh_bodies number each pairs))) links) ++ block_text (body_of number (Put pair) last) place link
    ≡ text ++ texts (laid base (take (i + 1) (fresh_bodies number each pairs))) links
texts-more base number each pairs links i pair last place link text within is flagged stands linked =
    let before : List Placed = laid base (take i (fresh_bodies number each pairs)) in
    let count : length before ≡ i = length-laid base (take i (fresh_bodies number each pairs)) ∙ omega (arith, length-take i (fresh_bodies number each pairs), length-fresh_bodies number each pairs) in
    let tail : block_text (body_of number (Put pair) last) place link
    ≡ texts (placed (end_of base (take i (fresh_bodies number each pairs))) (body_of number (Put pair) (each || is_nil (drop (suc i) pairs))) ∷ []) (drop (length before) links) =
    ap (λ (b : Bool). block_text (body_of number (Put pair) b) place link) (flagged ∙ ap (λ (b : Bool). each || b) (sym (flag_at pairs i within)))
    ∙ ap (λ (n : ℕ). block_text (body_of number (Put pair) (each || is_nil (drop (suc i) pairs))) n link) stands
    ∙ ap (λ (n : ℕ). block_text (body_of number (Put pair) (each || is_nil (drop (suc i) pairs))) (end_of base (take i (fresh_bodies number each pairs))) n)
    (linked ∙ sym (first-drop links i) ∙ ap (λ (k : ℕ). first_or_none (drop k links)) (sym count))
    ∙ sym (append-nil _) in
    append_assoc text (texts before links) (block_text (body_of number (Put pair) last) place link)
    ∙ ap (λ (l : List ℕ). text ++ (texts before links ++ l)) tail
    ∙ ap (λ (l : List ℕ). text ++ l) (sym (texts-append before _ links))
    ∙ ap (λ (l : List Placed). text ++ texts l links) (sym (laid-more base number each pairs i pair within is))

-- all records
pub taken_all : (number : ℕ) (each : Bool) (pairs : List Pair) (i : ℕ) → length pairs ≤ i → take i (fresh_bodies number each pairs) ≡ fresh_bodies number each pairs
taken_all number each pairs i past = take_all i (fresh_bodies number each pairs) (omega (arith, length-fresh_bodies number each pairs))

-- where blocks end does not hang on their number and flags
pub end_of-each : (place number n : ℕ) (each other : Bool) (pairs : List Pair) → end_of place (fresh_bodies number each pairs) ≡ end_of place (fresh_bodies n other pairs)
end_of-each place number n each other [] = refl
end_of-each place number n each other (p ∷ ps) = end_of-each (place + extent_of (body_of number (Put p) true)) number n each other ps

-- no end is before the base
pub end_of-least : (place : ℕ) (bodies : List Body) → place ≤ end_of place bodies
end_of-least place [] = omega arith
end_of-least place (b ∷ bs) = omega (arith, end_of-least (place + extent_of b) bs)
