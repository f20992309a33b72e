-- Places by their names.
use Rattle.std.proofs.Common.{◌≡◌, ◌≢◌, ℕ, zero, suc, ◌+◌, ◌<◌, Bool, true, false, cond, List, [], ◌∷◌, ◌++◌, length, get_or, take, Option, None, Some, refl, sym, ◌∙◌, ap, subst, arith}
use Rattle.std.specs.Prelude.{string_bytes}
use Rattle.std.proofs.Math.ListN.{set}
use Rattle.std.specs.Str.{bytes_eq}
use Rattle.std.proofs.lemmas.Slice.Eq.{bytes_eq-Decides}
use Rattle.tk_disk.specs.Folder.{SameBut}
use Rattle.tk_disk.specs.declared.places.Place.{Place}
use Rattle.tk_disk.specs.Places.{held_at, IsNamed, IsAbsent}

yes : (a b : List ℕ) → a ≡ b → bytes_eq a b ≡ true
yes a b e = (bytes_eq-Decides a b).1 e

no_case : (a b : List ℕ) (r : Bool) → bytes_eq a b ≡ r → a ≢ b → r ≡ false
no_case a b true is ne = absurd (ne ((bytes_eq-Decides a b).0 is))
no_case a b false is ne = refl

no : (a b : List ℕ) → a ≢ b → bytes_eq a b ≡ false
no a b ne = no_case a b (bytes_eq a b) refl ne

pub differs : (a b : List ℕ) → false ≡ bytes_eq a b → a ≢ b
differs a b is e = absurd (cc (is, yes a b e))

module _ {T : Type 0} where
  here : (p : Place T) (ps : List (Place T)) (name : List ℕ) → string_bytes p.name ≡ name → held_at (p ∷ ps) name ≡ Some p.held
  here p ps name is = ap (λ (b : Bool). cond b (Some p.held) (held_at ps name)) (yes _ _ is)

  there : (p : Place T) (ps : List (Place T)) (name : List ℕ) → string_bytes p.name ≢ name → held_at (p ∷ ps) name ≡ held_at ps name
  there p ps name ne = ap (λ (b : Bool). cond b (Some p.held) (held_at ps name)) (no _ _ ne)

  behind : (p : Place T) (ps qs : List (Place T)) (m : List ℕ) → held_at ps m ≡ held_at qs m → held_at (p ∷ ps) m ≡ held_at (p ∷ qs) m
  behind p ps qs m e = ap (λ (o : Option T). cond (bytes_eq (string_bytes p.name) m) (Some p.held) o) e

  pub named-held : (ps : List (Place T)) (i : ℕ) (name : List ℕ) (d : Place T) → IsNamed ps i name → held_at ps name ≡ Some (get_or ps i d).held
  named-held [] i name d h = absurd h
  named-held (p ∷ ps) zero name d h = here p ps name h
  named-held (p ∷ ps) (suc i) name d h = there p ps name h.0 ∙ named-held ps i name d h.1

  pub same_name : (ps : List (Place T)) (i : ℕ) (name : List ℕ) (d : Place T) → IsNamed ps i name → string_bytes (get_or ps i d).name ≡ name
  same_name [] i name d h = absurd h
  same_name (p ∷ ps) zero name d h = h
  same_name (p ∷ ps) (suc i) name d h = same_name ps i name d h.1

  pub set-held : (ps : List (Place T)) (i : ℕ) (name : List ℕ) (q : Place T) → IsNamed ps i name → string_bytes q.name ≡ name → held_at (set ps i q) name ≡ Some q.held
  set-held [] i name q h same = absurd h
  set-held (p ∷ ps) zero name q h same = here q ps name same
  set-held (p ∷ ps) (suc i) name q h same = there p (set ps i q) name h.0 ∙ set-held ps i name q h.1 same

  pub set-others : (ps : List (Place T)) (i : ℕ) (name : List ℕ) (q : Place T) → IsNamed ps i name → string_bytes q.name ≡ name → SameBut name (held_at ps) (held_at (set ps i q))
  set-others [] i name q h same m ne = absurd h
  set-others (p ∷ ps) zero name q h same m ne = there q ps m (λ is. ne (sym is ∙ same)) ∙ sym (there p ps m (λ is. ne (sym is ∙ h)))
  set-others (p ∷ ps) (suc i) name q h same m ne = behind p (set ps i q) ps m (set-others ps i name q h.1 same m ne)

  pub append-held : (ps : List (Place T)) (q : Place T) (name : List ℕ) → IsAbsent ps name → string_bytes q.name ≡ name → held_at (ps ++ q ∷ []) name ≡ Some q.held
  append-held [] q name none same = here q [] name same
  append-held (p ∷ ps) q name none same = there p (ps ++ q ∷ []) name none.0 ∙ append-held ps q name none.1 same

  pub append-others : (ps : List (Place T)) (q : Place T) (name : List ℕ) → string_bytes q.name ≡ name → SameBut name (held_at ps) (held_at (ps ++ q ∷ []))
  append-others [] q name same m ne = there q [] m (λ is. ne (sym is ∙ same))
  append-others (p ∷ ps) q name same m ne = behind p (ps ++ q ∷ []) ps m (append-others ps q name same m ne)

  pub absent-held : (ps : List (Place T)) (name : List ℕ) → IsAbsent ps name → held_at ps name ≡ None
  absent-held [] name none = refl
  absent-held (p ∷ ps) name none = there p ps name none.0 ∙ absent-held ps name none.1

  pub named-here : (ps : List (Place T)) (i : ℕ) (name : List ℕ) (d : Place T) → i < length ps → IsAbsent (take i ps) name → string_bytes (get_or ps i d).name ≡ name → IsNamed ps i name
  named-here [] i name d within none is = absurd (omega arith)
  named-here (p ∷ ps) zero name d within none is = is
  named-here (p ∷ ps) (suc i) name d within none is = (none.0, named-here ps i name d (omega arith) none.1 is)

  absent-suc : (ps : List (Place T)) (i : ℕ) (name : List ℕ) (d : Place T) → i < length ps → IsAbsent (take i ps) name → string_bytes (get_or ps i d).name ≢ name → IsAbsent (take (suc i) ps) name
  absent-suc [] i name d within none ne = absurd (omega arith)
  absent-suc (p ∷ ps) zero name d within none ne = (ne, tt)
  absent-suc (p ∷ ps) (suc i) name d within none ne = (none.0, absent-suc ps i name d (omega arith) none.1 ne)

  pub absent-next : (ps : List (Place T)) (i : ℕ) (name : List ℕ) (d : Place T) → i < length ps → IsAbsent (take i ps) name → string_bytes (get_or ps i d).name ≢ name → IsAbsent (take (i + 1) ps) name
  absent-next ps i name d within none ne = let next : suc i ≡ i + 1 = omega arith in subst (λ (k : ℕ). IsAbsent (take k ps) name) next (absent-suc ps i name d within none ne)

  -- a place that was found and read
  pub found-held : (ps qs : List (Place T)) (i : ℕ) (name : List ℕ) (p : Place T) → qs ≡ ps → IsNamed qs i name → p ≡ get_or ps i p → held_at ps name ≡ Some p.held
  found-held ps qs i name p same named is =
      named-held ps i name p (subst (λ (l : List (Place T)). IsNamed l i name) same named) ∙ ap (λ (q : Place T). Some q.held) (sym is)
