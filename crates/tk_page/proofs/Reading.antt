-- Items that are read one after another.
use Rattle.std.proofs.Common.{◌≡◌, ◌≢◌, ℕ, suc, List, [], ◌∷◌, ◌++◌, length, drop, Option, Some, None, true, false, refl, sym, ap, ◌∙◌, append_assoc, arith}
use Rattle.std.specs.Prelude.{◌==◌}
use Rattle.std.proofs.lemmas.Bool.Decides.{nat_tests}
use Rattle.std.proofs.lemmas.List.{append-nil, drop_at}
use Rattle.std.specs.Option.{option_map}
use Rattle.tk_model.specs.declared.record.Pair.{Pair}
use Rattle.tk_model.specs.RecordText.{record_text, record_size, BeginsWith}
use Rattle.tk_model.proofs.RecordTexts.{length-record}
use Rattle.tk_page.specs.Page.{items_in, followed_by}

no_zero : (n : ℕ) → true ≡ (suc n == 0) → ⊥
no_zero n e = grind (arith, nat_tests)

pub empty_so : (text : List ℕ) → true ≡ (length text == 0) → text ≡ []
empty_so [] e = refl
empty_so (b ∷ bs) e = absurd (no_zero (length bs) e)

pub some_so : (text : List ℕ) → false ≡ (length text == 0) → text ≢ []
some_so text e is = let t : true ≡ (length text == 0) = ap (λ (l : List ℕ). length l == 0) (sym is) in cc

-- these items, and those that follow
abbrev pub with_front : {A : Type 0} → List A → Option (List A) → Option (List A)
with_front xs o = option_map (λ ys. xs ++ ys) o

front_more : {A : Type 0} (xs : List A) (x : A) (o : Option (List A)) → with_front xs (option_map (λ ys. x ∷ ys) o) ≡ with_front (xs ++ x ∷ []) o
front_more xs x None = refl
front_more xs x (Some ys) = ap Some (sym (append_assoc xs (x ∷ []) ys))

pub front_none : {A : Type 0} (o : Option (List A)) → with_front [] o ≡ o
front_none None = refl
front_none (Some ys) = refl

module _ {A : Type 0} (at : List ℕ → Option A) (size : A → ℕ) where
  -- an item more
  pub read_more : (xs : List A) (x : A) (n m : ℕ) (text rest : List ℕ) → n ≡ suc m → at text ≡ Some x → rest ≡ drop (size x) text → with_front (xs ++ x ∷ []) (items_in at size m rest) ≡ with_front xs (items_in at size n text)
  unfolding items_in
  read_more xs x n m text rest count found is =
      ap (λ r. with_front (xs ++ x ∷ []) (items_in at size m r)) is
      ∙ sym (front_more xs x (items_in at size m (drop (size x) text)))
      ∙ ap (λ o. with_front xs (followed_by o (λ y. items_in at size m (drop (size y) text)))) (sym found)
      ∙ ap (λ k. with_front xs (items_in at size k text)) (sym count)

  -- bytes that begin with no item
  pub read_none : (xs : List A) (n m : ℕ) (text : List ℕ) → n ≡ suc m → at text ≡ None → None ≡ with_front xs (items_in at size n text)
  unfolding items_in
  read_none xs n m text count none =
      ap (λ o. with_front xs (followed_by o (λ y. items_in at size m (drop (size y) text)))) (sym none)
      ∙ ap (λ k. with_front xs (items_in at size k text)) (sym count)

  -- all items are read, and no byte is left
  pub read_all : (xs : List A) (n : ℕ) (text : List ℕ) → n ≡ 0 → text ≡ [] → Some xs ≡ with_front xs (items_in at size n text)
  unfolding items_in
  read_all xs n text count none = ap Some (sym (append-nil xs)) ∙ ap (λ t. with_front xs (items_in at size 0 t)) (sym none) ∙ ap (λ k. with_front xs (items_in at size k text)) (sym count)

  pub read_past : (xs : List A) (n : ℕ) (text : List ℕ) → n ≡ 0 → text ≢ [] → None ≡ with_front xs (items_in at size n text)
  unfolding items_in
  read_past xs n [] count some = absurd (some refl)
  read_past xs n (b ∷ text) count some = ap (λ k. with_front xs (items_in at size k (b ∷ text))) (sym count)

-- what follows a record at the front is what is behind it
pub rest_behind : (text : List ℕ) (p : Pair) (rest : List ℕ) → BeginsWith text p rest → rest ≡ drop (record_size p) text
rest_behind text p rest begins = sym (ap (λ t. drop (record_size p) t) begins.spelled ∙ drop_at (record_text p) rest (record_size p) (length-record p))
