-- Facts on lists of stores.
use Rattle.std.proofs.Common.{◌≡◌, ◌≢◌, ℕ, zero, suc, ◌+◌, ◌≤◌, ◌<◌, List, [], ◌∷◌, ◌++◌, length, length-append, remove, get_or, Option, Some, None, refl, sym, ap, ◌∙◌, arith}
use mathlib.Core.Option.{some, some-injective, some-ne-none}
use lib.ListN.{get_elem?}
use Rattle.std.proofs.lemmas.List.{append-nil}
use Rattle.tk_locks.specs.declared.home.Home.{Home}
use Rattle.tk_locks.specs.Homes.{homes_of, at_home, bare}

moved_on : {A : Type 0} (into : List A) (x : A) (rest : List A) → (into ++ x ∷ []) ++ rest ≡ into ++ x ∷ rest
moved_on [] x rest = refl
moved_on (y ∷ ys) x rest = ap (λ zs. y ∷ zs) (moved_on ys x rest)

module _ {T : Type 0} where
  pub bare_homes : (xs : List T) → bare (homes_of xs) ≡ xs
  bare_homes [] = refl
  bare_homes (x ∷ xs) = ap (λ ys. x ∷ ys) (bare_homes xs)

  pub length_homes : (xs : List T) → length (homes_of xs) ≡ length xs
  length_homes [] = refl
  length_homes (x ∷ xs) = ap suc (length_homes xs)

  -- the first store goes into a slot
  pub lodges : (into : List (Option (Home T))) (xs : List T) (x : T) → 0 < length xs → x ≡ get_or xs 0 x → (into ++ Some (record { store = x; broken = None }) ∷ []) ++ homes_of (remove xs 0) ≡ into ++ homes_of xs
  lodges into [] x h e = absurd (omega arith)
  lodges into (y ∷ ys) x h e = moved_on into (Some (record { store = x; broken = None })) (homes_of ys) ∙ ap (λ z. into ++ Some (record { store = z; broken = None }) ∷ homes_of ys) e

  pub lodged_all : (into : List (Option (Home T))) (xs : List T) (all : List (Option (Home T))) → length xs ≡ 0 → into ++ homes_of xs ≡ all → into ≡ all
  lodged_all into [] all z e = sym (append-nil into) ∙ e
  lodged_all into (x ∷ xs) all z e = absurd (omega arith)

  -- the first slot gives its store
  pub unlodges : (into : List T) (hs : List (Option (Home T))) (x : Option (Home T)) → 0 < length hs → x ≡ get_or hs 0 x → (into ++ bare (x ∷ [])) ++ bare (remove hs 0) ≡ into ++ bare hs
  unlodges into [] x h e = absurd (omega arith)
  unlodges into (y ∷ ys) x h e = ap (λ z. (into ++ bare (z ∷ [])) ++ bare ys) e ∙ go y
    where
      go : (y : Option (Home T)) → (into ++ bare (y ∷ [])) ++ bare ys ≡ into ++ bare (y ∷ ys)
      go None = ap (λ z. z ++ bare ys) (append-nil into)
      go (Some h) = moved_on into h.store (bare ys)

  pub few_bare : (into : List T) (x : Option (Home T)) → length (into ++ bare (x ∷ [])) ≤ length into + 1
  few_bare into None = let h = length-append into [] in omega arith
  few_bare into (Some h) = let h = length-append into (h.store ∷ []) in omega arith

  pub unlodged_all : (into : List T) (hs : List (Option (Home T))) (all : List T) → length hs ≡ 0 → into ++ bare hs ≡ all → into ≡ all
  unlodged_all into [] all z e = sym (append-nil into) ∙ e
  unlodged_all into (x ∷ xs) all z e = absurd (omega arith)

  pub home_next : (xs : List (Option (Home T))) (x : Option (Home T)) → at_home (xs ++ x ∷ []) ≡ at_home xs ++ at_home (x ∷ [])
  home_next [] x = refl
  home_next (None ∷ xs) x = home_next xs x
  home_next (Some y ∷ xs) x = ap (λ ys. y ∷ ys) (home_next xs x)

  pub few_home : (xs : List (Option (Home T))) → length (at_home xs) ≤ length xs
  few_home [] = omega arith
  few_home (None ∷ xs) = let h = few_home xs in omega arith
  few_home (Some x ∷ xs) = let h = few_home xs in omega arith

  -- where each slot has its store, the stores stand at their numbers
  pub found_home : (xs : List (Option (Home T))) → ((i : ℕ) → i < length xs → (h : Home T) × (get_elem? xs i ≡ some (Some h))) → (i : ℕ) (h : Home T) → get_elem? xs i ≡ some (Some h) → get_elem? (at_home xs) i ≡ some h
  found_home [] all i h e = absurd (some-ne-none (Some h) (sym e))
  found_home (None ∷ xs) all i h e = let t = all 0 (omega arith) in absurd (cc (t.1))
  found_home (Some x ∷ xs) all zero h e = let same : Some x ≡ Some h = some-injective (Some x) (Some h) e in let q : x ≡ h = cc (same) in ap some q
  found_home (Some x ∷ xs) all (suc i) h e = found_home xs (λ q low. let t = all (suc q) (omega arith) in (t.0, t.1)) i h e

  pub all_home : (xs : List (Option (Home T))) → ((i : ℕ) → i < length xs → (h : Home T) × (get_elem? xs i ≡ some (Some h))) → length (at_home xs) ≡ length xs
  all_home [] all = refl
  all_home (None ∷ xs) all = let t = all 0 (omega arith) in absurd (cc (t.1))
  all_home (Some x ∷ xs) all = ap suc (all_home xs (λ q low. let t = all (suc q) (omega arith) in (t.0, t.1)))

  -- what lies in the slots whose locks are free, where w tells the lock of each
  abbrev free_slot : ℕ → Option (Home T) → Option (Home T)
  free_slot zero x = x
  free_slot (suc n) x = None

  abbrev pub gather : (ℕ → ℕ) → ℕ → List (Option (Home T)) → List (Option (Home T))
  gather w n [] = []
  gather w n (x ∷ xs) = free_slot (w n) x ∷ gather w (suc n) xs

  pub gather_long : (w : ℕ → ℕ) (n : ℕ) (xs : List (Option (Home T))) → length (gather w n xs) ≡ length xs
  gather_long w n [] = refl
  gather_long w n (x ∷ xs) = ap suc (gather_long w (suc n) xs)

  pub gather_free : (w : ℕ → ℕ) (n : ℕ) (xs : List (Option (Home T))) (i : ℕ) → w (n + i) ≡ 0 → get_elem? (gather w n xs) i ≡ get_elem? xs i
  gather_free w n [] i e = refl
  gather_free w n (x ∷ xs) zero e = let q : n ≡ n + 0 = omega arith in ap (λ (z : ℕ). some (free_slot z x)) (ap w q ∙ e)
  gather_free w n (x ∷ xs) (suc i) e = let q : suc n + i ≡ n + suc i = omega arith in gather_free w (suc n) xs i (ap w q ∙ e)

  only_free : (k : ℕ) (x : Option (Home T)) (h : Home T) → free_slot k x ≡ Some h → k ≡ 0
  only_free zero x h e = refl
  only_free (suc k) x h e = absurd (cc (e))

  pub gather_held : (w : ℕ → ℕ) (n : ℕ) (xs : List (Option (Home T))) (i : ℕ) (h : Home T) → get_elem? (gather w n xs) i ≡ some (Some h) → w (n + i) ≡ 0
  gather_held w n [] i h e = absurd (some-ne-none (Some h) (sym e))
  gather_held w n (x ∷ xs) zero h e = let q : n + 0 ≡ n = omega arith in ap w q ∙ only_free (w n) x h (some-injective (free_slot (w n) x) (Some h) e)
  gather_held w n (x ∷ xs) (suc i) h e = let q : n + suc i ≡ suc n + i = omega arith in ap w q ∙ gather_held w (suc n) xs i h e

  gather_next : (w : ℕ → ℕ) (n : ℕ) (xs : List (Option (Home T))) (x : Option (Home T)) → gather w n (xs ++ x ∷ []) ≡ gather w n xs ++ free_slot (w (n + length xs)) x ∷ []
  gather_next w n [] x = let q : n ≡ n + 0 = omega arith in ap (λ (z : ℕ). free_slot (w z) x ∷ []) q
  gather_next w n (y ∷ ys) x = let q : suc n + length ys ≡ n + suc (length ys) = omega arith in
      ap (λ zs. free_slot (w n) y ∷ zs) (gather_next w (suc n) ys x ∙ ap (λ (z : ℕ). gather w (suc n) ys ++ free_slot (w z) x ∷ []) q)

  one_next : (k : ℕ) (into new : List (Home T)) (x : Option (Home T)) → (k ≡ 0 → new ≡ into ++ at_home (x ∷ [])) → (k ≢ 0 → new ≡ into) → new ≡ into ++ at_home (free_slot k x ∷ [])
  one_next zero into new x free held = free refl
  one_next (suc k) into new x free held = held (λ e. omega arith) ∙ sym (append-nil into)

  -- one more slot, of which the lock is k
  pub gathers_next : (w : ℕ → ℕ) (xs : List (Option (Home T))) (x : Option (Home T)) (k : ℕ) (into new : List (Home T)) → k ≡ w (length xs) → into ≡ at_home (gather w 0 xs) → (k ≡ 0 → new ≡ into ++ at_home (x ∷ [])) → (k ≢ 0 → new ≡ into)
      → new ≡ at_home (gather w 0 (xs ++ x ∷ []))
  gathers_next w xs x k into new lock was free held = let q : length xs ≡ 0 + length xs = omega arith in
      one_next k into new x free held ∙ ap (λ (z : List (Home T)). z ++ at_home (free_slot k x ∷ [])) was
      ∙ ap (λ (z : ℕ). at_home (gather w 0 xs) ++ at_home (free_slot z x ∷ [])) (lock ∙ ap w q)
      ∙ sym (home_next (gather w 0 xs) (free_slot (w (0 + length xs)) x)) ∙ ap at_home (sym (gather_next w 0 xs x))

  -- the numbers of the slots that hold a store
  abbrev pub places_from : ℕ → List (Option (Home T)) → List ℕ
  places_from n [] = []
  places_from n (None ∷ hs) = places_from (suc n) hs
  places_from n (Some h ∷ hs) = n ∷ places_from (suc n) hs

  pub places_long : (n : ℕ) (xs : List (Option (Home T))) → length (places_from n xs) ≡ length (at_home xs)
  places_long n [] = refl
  places_long n (None ∷ xs) = places_long (suc n) xs
  places_long n (Some x ∷ xs) = ap suc (places_long (suc n) xs)

  pub placed_home : (xs : List (Option (Home T))) (n k i : ℕ) (h : Home T) → get_elem? (places_from n xs) k ≡ some i → get_elem? (at_home xs) k ≡ some h → (q : ℕ) × (i ≡ n + q) × (q < length xs) × (get_elem? xs q ≡ some (Some h))
  placed_home [] n k i h p e = absurd (some-ne-none i (sym p))
  placed_home (None ∷ xs) n k i h p e = let t = placed_home xs (suc n) k i h p e in (suc t.0, (let z = t.1 in omega arith), (let z = t.2 in omega arith), t.3)
  placed_home (Some x ∷ xs) n zero i h p e = let a = some-injective n i p in let b : x ≡ h = some-injective x h e in (0, omega arith, omega arith, ap (λ (z : Home T). some (Some z)) b)
  placed_home (Some x ∷ xs) n (suc k) i h p e = let t = placed_home xs (suc n) k i h p e in (suc t.0, (let z = t.1 in omega arith), (let z = t.2 in omega arith), t.3)

  from_there : (xs : List (Option (Home T))) (n k i : ℕ) → get_elem? (places_from n xs) k ≡ some i → n ≤ i
  from_there [] n k i p = absurd (some-ne-none i (sym p))
  from_there (None ∷ xs) n k i p = let z = from_there xs (suc n) k i p in omega arith
  from_there (Some x ∷ xs) n zero i p = let z = some-injective n i p in omega arith
  from_there (Some x ∷ xs) n (suc k) i p = let z = from_there xs (suc n) k i p in omega arith

  pub places_rise : (xs : List (Option (Home T))) (n a b i j : ℕ) → a < b → get_elem? (places_from n xs) a ≡ some i → get_elem? (places_from n xs) b ≡ some j → i < j
  places_rise [] n a b i j less p q = absurd (some-ne-none i (sym p))
  places_rise (None ∷ xs) n a b i j less p q = places_rise xs (suc n) a b i j less p q
  places_rise (Some x ∷ xs) n a zero i j less p q = absurd (omega arith)
  places_rise (Some x ∷ xs) n zero (suc b) i j less p q = let z = from_there xs (suc n) b j q in let y = some-injective n i p in omega arith
  places_rise (Some x ∷ xs) n (suc a) (suc b) i j less p q = places_rise xs (suc n) a b i j (omega arith) p q

  pub places_all : (xs : List (Option (Home T))) → ((i : ℕ) → i < length xs → (h : Home T) × (get_elem? xs i ≡ some (Some h))) → (n k : ℕ) → k < length xs → get_elem? (places_from n xs) k ≡ some (n + k)
  places_all [] all n k low = absurd (omega arith)
  places_all (None ∷ xs) all n k low = let t = all 0 (omega arith) in absurd (cc (t.1))
  places_all (Some x ∷ xs) all n zero low = let q : n ≡ n + 0 = omega arith in ap some q
  places_all (Some x ∷ xs) all n (suc k) low = let q : suc n + k ≡ n + suc k = omega arith in
      places_all xs (λ i l. let t = all (suc i) (omega arith) in (t.0, t.1)) (suc n) k (omega arith) ∙ ap some q
