-- Facts on lists that both texts need.
use Rattle.std.proofs.Common.{◌≡◌, ℕ, ◌<◌, ◌+◌, List, [], ◌∷◌, ◌++◌, length, get_or, take, drop, sym, ap, ◌∙◌, append_assoc}
use Rattle.std.proofs.lemmas.List.{append-nil, take-append-drop, drop_more}
use Rattle.tk_model.specs.RecordText.{Extends}

pub Extends_same : (a : List ℕ) → Extends a a
Extends_same a = ([], sym (append-nil a))

pub Extends_by : (a b more : List ℕ) → b ≡ a ++ more → Extends a b
Extends_by a b more e = (more, e)

pub Extends_then : (a b c : List ℕ) → Extends a b → Extends b c → Extends a c
Extends_then a b c (m, e) (n, f) = (m ++ n, f ∙ ap (λ (l : List ℕ). l ++ n) e ∙ append_assoc a m n)

-- a list is what stands before a place, the element there, and what stands behind it
pub split_at : (xs : List ℕ) (at : ℕ) (x : ℕ) → at < length xs → get_or xs at 0 ≡ x → xs ≡ take at xs ++ x ∷ drop (at + 1) xs
split_at xs at x lt is =
    sym (take-append-drop at xs)
    ∙ ap (λ (l : List ℕ). take at xs ++ l) (drop_more xs at 0 lt)
    ∙ ap (λ (y : ℕ). take at xs ++ y ∷ drop (at + 1) xs) is
