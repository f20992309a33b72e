-- The text of a group, a change at a time.
use Rattle.std.proofs.Common.{◌≡◌, ℕ, zero, suc, ◌+◌, ◌≤◌, List, [], ◌∷◌, ◌++◌, length, take, drop, nat_eq, Some, refl, ◌∙◌, ap, append_assoc, arith}
use Rattle.std.specs.Prelude.{slice_get}
use Rattle.std.specs.Io.{StartsWith}
use Rattle.std.proofs.lemmas.List.{drop_more, take-append-le, length-take}
use Rattle.std.proofs.lemmas.Option.{get_or_from_slice_get, slice_get_within}
use Rattle.tk_model.specs.declared.record.Change.{Change}
use Rattle.tk_block.specs.declared.block.Body.{Body}
use Rattle.tk_block.specs.Blocks.{body_of, is_nil, group_bodies, extent_of}
use Rattle.tk_block.specs.Layout.{laid, end_of}
use Rattle.tk_block.specs.Renumber.{unchecked_text, unchecked_texts}

-- blocks end behind where they begin
pub end_behind : (place : ℕ) (bs : List Body) → place ≤ end_of place bs
end_behind place [] = omega arith
end_behind place (b ∷ bs) = omega (arith, end_behind (place + extent_of b) bs)

pub is_nil-drop : {A : Type 0} (i : ℕ) (xs : List A) → i ≤ length xs → is_nil (drop i xs) ≡ nat_eq i (length xs)
is_nil-drop zero [] fits = refl
is_nil-drop zero (x ∷ xs) fits = grind arith
is_nil-drop (suc i) [] fits = absurd (omega arith)
is_nil-drop (suc i) (x ∷ xs) fits = is_nil-drop i xs (omega arith) ∙ grind arith

-- an item, and what is left behind it
pub item_here : {A : Type 0} (xs : List A) (i : ℕ) (x : A) → slice_get xs i ≡ Some x → drop i xs ≡ x ∷ drop (i + 1) xs
item_here xs i x is = drop_more xs i x (slice_get_within xs i x is) ∙ ap (λ y. y ∷ drop (i + 1) xs) (get_or_from_slice_get xs i x x is)

-- the first change of what is left is written
pub one_written : (number at : ℕ) (c : Change) (cs : List Change) (link : ℕ) (links out : List ℕ) → (out ++ unchecked_text (body_of number c (is_nil cs)) at link) ++ unchecked_texts (laid (at + extent_of (body_of number c (is_nil cs))) (group_bodies number cs)) links ≡ out ++ unchecked_texts (laid at (group_bodies number (c ∷ cs))) (link ∷ links)
one_written number at c cs link links out = append_assoc out (unchecked_text (body_of number c (is_nil cs)) at link) _

-- a block is written, and the text of the changes that are left goes on behind it
pub goes_on : (number at e : ℕ) (b : Body) (c : Change) (cs rest : List Change) (link : ℕ) (links left out new : List ℕ) → cs ≡ c ∷ rest → links ≡ link ∷ left → b ≡ body_of number c (is_nil rest) → e ≡ extent_of b → new ≡ out ++ unchecked_text b at link → new ++ unchecked_texts (laid (at + e) (group_bodies number rest)) left ≡ out ++ unchecked_texts (laid at (group_bodies number cs)) links
goes_on number at e b c cs rest link links left out new p q r s t = rw (p, q, s, t, r) (one_written number at c rest link left out)

pub end_goes_on : (number at e : ℕ) (b : Body) (c : Change) (cs rest : List Change) → cs ≡ c ∷ rest → b ≡ body_of number c (is_nil rest) → e ≡ extent_of b → end_of (at + e) (group_bodies number rest) ≡ end_of at (group_bodies number cs)
end_goes_on number at e b c cs rest p r s = rw (p, s, r) refl

-- what stood at the front stands there when more is written behind
pub starts_more : (first out text new : List ℕ) → StartsWith out first → new ≡ out ++ text → StartsWith new first
starts_more first out text new kept is =
    ap (λ l. take (length first) l) is ∙ take-append-le (length first) out text (omega (arith, ap length kept, length-take {A = ℕ} (length first) out)) ∙ kept
