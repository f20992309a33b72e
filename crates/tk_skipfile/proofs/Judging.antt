-- Links that are met, and judged where their target's place is known.
use Rattle.std.proofs.Common.{◌≡◌, ◌≢◌, ◌⊎◌, inl, inr, ℕ, zero, suc, ◌+◌, ◌*◌, ◌/◌, ◌%◌, ◌^◌, ◌<◌, ◌≤◌, List, [], ◌∷◌, ◌++◌, length, get_or, refl, sym, ap, subst, ◌∙◌, arith, Bool, true, false}
use Rattle.std.specs.Prelude.{Option, Some, None, IfSome, slice_get, if◌then◌else◌, ◌==◌}
use Rattle.std.proofs.Math.ListN.{set}
use Rattle.std.proofs.Math.Nat.{div-add-mod, lt_of_mul-lt-mul_left}
use Rattle.std.proofs.lemmas.Bool.{cases_lt, eqb-true}
use Rattle.std.proofs.lemmas.List.{get_or_append_left, get_or_push, length_push}
use Rattle.tk_skipfile.specs.SkipText.{height_from}
use Rattle.tk_skipfile.specs.Opening.{row, IsWrong, LinkFails, AnyFails}
use Rattle.tk_block.specs.Number.{u64_in}
use Rattle.tk_skipfile.specs.Walking.{Lowest, expected_of, IsOfSome, Follows, lower_of, Meets, MeetsAll, words_in}
use Rattle.tk_skipfile.specs.declared.links.Expected.{Expected}
use Rattle.tk_skipfile.specs.declared.links.Links.{Links}
use Rattle.tk_skipfile.proofs.Powers.{four_some}

-- ---- multiples

mul_more : (a q r : ℕ) → q < r → a * q + a ≤ a * r
mul_more a q zero h = absurd (omega arith)
mul_more a zero (suc r) h = omega arith
mul_more a (suc q) (suc r) h = let m = mul_more a q r (omega arith) in omega arith

-- a multiple of a is at least a behind the one before
pub apart : (a i n : ℕ) → i % a ≡ 0 → n % a ≡ 0 → i < n → i + a ≤ n
apart a i n di dn less =
    let ei = div-add-mod i a in
    let en = div-add-mod n a in
    let q : i / a < n / a = lt_of_mul-lt-mul_left a (omega (arith, ei, en, di, dn, less)) in
    omega (arith, mul_more a (i / a) (n / a) q, ei, en, di, dn)

by_test : (level i rest : ℕ) (b : Bool) → (i % 4 ^ level == 0) ≡ b → ((j : ℕ) → j < rest → i % 4 ^ (level + 1 + j) ≡ 0) → (j : ℕ) → j < (if b then suc rest else 0) → i % 4 ^ (level + j) ≡ 0
by_test level i rest false is more j h = absurd (omega arith)
by_test level i rest true is more zero h = ap (λ (k : ℕ). i % 4 ^ k) (let e : level + 0 ≡ level = omega arith in e) ∙ eqb-true _ _ is
by_test level i rest true is more (suc j) h = ap (λ (k : ℕ). i % 4 ^ k) (let e : level + suc j ≡ level + 1 + j = omega arith in e) ∙ more j (omega arith)

-- a record has links of the levels whose step divides its index
pub height_divides : (n level i j : ℕ) → j < height_from n level i → i % 4 ^ (level + j) ≡ 0
height_divides zero level i j h = absurd (omega arith)
height_divides (suc n) level i j h = by_test level i (height_from n (level + 1) i) (i % 4 ^ level == 0) refl (λ k less. height_divides n (level + 1) i k less) j h

-- ---- rows of links

pub row_there : (rows : List (List ℕ)) (i j : ℕ) → j < length (row rows i) → i < length rows
row_there [] i j h = absurd (omega arith)
row_there (r ∷ rs) zero j h = omega arith
row_there (r ∷ rs) (suc i) j h = omega (arith, row_there rs i j h)

-- a link more in the last row
entry_kept : (rows : List (List ℕ)) (ls : List ℕ) (link i j : ℕ) → j < length (row (rows ++ ls ∷ []) i)
    → (j < length (row (rows ++ (ls ++ link ∷ []) ∷ []) i)) × (get_or (row (rows ++ (ls ++ link ∷ []) ∷ []) i) j 0 ≡ get_or (row (rows ++ ls ∷ []) i) j 0)
entry_kept [] ls link zero j h = (omega (arith, length_push ls link), get_or_append_left ls (link ∷ []) 0 j h)
entry_kept [] ls link (suc i) j h = absurd (omega arith)
entry_kept (r ∷ rs) ls link zero j h = (h, refl)
entry_kept (r ∷ rs) ls link (suc i) j h = entry_kept rs ls link i j h

entry_cases : (rows : List (List ℕ)) (ls : List ℕ) (link i j : ℕ) → j < length (row (rows ++ (ls ++ link ∷ []) ∷ []) i)
    → ((i ≡ length rows) × (j ≡ length ls)) ⊎ (j < length (row (rows ++ ls ∷ []) i))
entry_cases [] ls link zero j h = elim (cases_lt j (length ls)) [
  | inl old ↦ inr old
  | inr new ↦ inl (refl, omega (arith, length_push ls link))
]
entry_cases [] ls link (suc i) j h = absurd (omega arith)
entry_cases (r ∷ rs) ls link zero j h = inr h
entry_cases (r ∷ rs) ls link (suc i) j h = elim (entry_cases rs ls link i j h) [
  | inl is ↦ inl (omega (arith, is.0), is.1)
  | inr old ↦ inr old
]

entry_new : (rows : List (List ℕ)) (ls : List ℕ) (link : ℕ)
    → (length ls < length (row (rows ++ (ls ++ link ∷ []) ∷ []) (length rows))) × (get_or (row (rows ++ (ls ++ link ∷ []) ∷ []) (length rows)) (length ls) 0 ≡ link)
entry_new [] ls link = (omega (arith, length_push ls link), get_or_push ls link 0 (length ls) refl)
entry_new (r ∷ rs) ls link = entry_new rs ls link

row_none : (rows : List (List ℕ)) (i : ℕ) → row (rows ++ [] ∷ []) i ≡ row rows i
row_none [] zero = refl
row_none [] (suc i) = refl
row_none (r ∷ rs) zero = refl
row_none (r ∷ rs) (suc i) = row_none rs i

row_at_end : (rows : List (List ℕ)) (r : List ℕ) → row (rows ++ r ∷ []) (length rows) ≡ r
row_at_end [] r = refl
row_at_end (x ∷ xs) r = row_at_end xs r

-- ---- the lowest fault

pub lowest_same : (F G : ℕ → Type 0) (places : List ℕ) (fault : Option ℕ) → ((i : ℕ) → F i → G i) → ((i : ℕ) → G i → F i) → Lowest F places fault → Lowest G places fault
lowest_same F G places None to from l = record { some = tt; least = λ i h. l.least i (from i h) }
lowest_same F G places (Some p) to from l = record { some = (l.some.0, to l.some.0 l.some.1, l.some.2); least = λ i h. l.least i (from i h) }

pub lowest_more : (F G : ℕ → Type 0) (places : List ℕ) (fault : Option ℕ) (q i : ℕ) → Lowest F places fault → ((k : ℕ) → F k → G k) → ((k : ℕ) → G k → F k ⊎ (k ≡ i)) → G i → q ≡ get_or places i 0
    → Lowest G places (Some (lower_of fault q))
lowest_more F G places None q i l to from here is = record {
  some = (i, here, is);
  least = λ k h. elim (from k h) [
    | inl old ↦ absurd (l.least k old)
    | inr new ↦ omega (arith, is, ap (λ (n : ℕ). get_or places n 0) new)
  ];
}
lowest_more F G places (Some p) q i l to from here is = record {
  some = elim (cases_lt q p) [
    | inl less ↦ (i, here, omega (arith, less, is))
    | inr more ↦ (l.some.0, to l.some.0 l.some.1, omega (arith, more, l.some.2))
  ];
  least = λ k h. elim (from k h) [
    | inl old ↦ omega (arith, l.least k old)
    | inr new ↦ omega (arith, is, ap (λ (n : ℕ). get_or places n 0) new)
  ];
}

-- ---- a link is met

get_same : {X : Type 0} (xs : List X) (i : ℕ) (y : X) → i < length xs → slice_get (set xs i y) i ≡ Some y
get_same [] i y h = absurd (omega arith)
get_same (x ∷ xs) zero y h = refl
get_same (x ∷ xs) (suc i) y h = get_same xs i y (omega arith)

get_other : {X : Type 0} (xs : List X) (i j : ℕ) (y : X) → (j ≡ i → ⊥) → slice_get (set xs i y) j ≡ slice_get xs j
get_other [] i j y h = refl
get_other (x ∷ xs) zero zero y h = absurd (h refl)
get_other (x ∷ xs) zero (suc j) y h = refl
get_other (x ∷ xs) (suc i) zero y h = refl
get_other (x ∷ xs) (suc i) (suc j) y h = get_other xs i j y (λ e. h (ap suc e))

length_set : {X : Type 0} (xs : List X) (i : ℕ) (y : X) → length (set xs i y) ≡ length xs
length_set [] i y = refl
length_set (x ∷ xs) zero y = refl
length_set (x ∷ xs) (suc i) y = ap suc (length_set xs i y)

wrong_same : (count : ℕ) (places : List ℕ) (target a b : ℕ) → a ≡ b → IsWrong count places target a → IsWrong count places target b
wrong_same count places target a b is w = subst (IsWrong count places target) is w

module _ (rows : List (List ℕ)) (places ls : List ℕ) (l : Links) (level index owner link : ℕ)
    (f : Follows (rows ++ ls ∷ []) places l) (m : Meets rows places ls level index owner) (room : level < length l.expected.items) where
  abbrev pub before : List (List ℕ)
  before = rows ++ ls ∷ []

  abbrev pub behind : List (List ℕ)
  behind = rows ++ (ls ++ link ∷ []) ∷ []

  abbrev pub met_expected : Expected
  met_expected = record { target = index + 4 ^ (1 + level); owner = owner; link = link }

  here_is : (i j : ℕ) → i ≡ length rows → j ≡ length ls → (i ≡ index) × (j ≡ level)
  here_is i j a b = (a ∙ m.before, b ∙ m.so_far)

  new_there : level < length (row behind index)
  new_there = subst (λ (n : ℕ). level < length (row behind n)) m.before (subst (λ (n : ℕ). n < length (row behind (length rows))) m.so_far (entry_new rows ls link).0)

  new_link : get_or (row behind index) level 0 ≡ link
  new_link = subst (λ (n : ℕ). get_or (row behind n) level 0 ≡ link) m.before (subst (λ (n : ℕ). get_or (row behind (length rows)) n 0 ≡ link) m.so_far (entry_new rows ls link).1)

  met_is : expected_of behind places index level ≡ met_expected
  met_is = ap (λ (o : ℕ). record { target = index + 4 ^ (1 + level); owner = o; link = get_or (row behind index) level 0 }) m.here
      ∙ ap (λ (k : ℕ). record { target = index + 4 ^ (1 + level); owner = owner; link = k }) new_link

  expected_kept : (i j : ℕ) → j < length (row before i) → expected_of behind places i j ≡ expected_of before places i j
  expected_kept i j h = ap (λ (k : ℕ). record { target = i + 4 ^ (1 + j); owner = get_or places i 0; link = k }) (entry_kept rows ls link i j h).1

  fails_kept : (i : ℕ) → AnyFails l.count before places i → AnyFails l.count behind places i
  fails_kept i (j, fails) =
      let k = entry_kept rows ls link i j fails.there in
      (j, record { there = k.0; wrong = wrong_same _ _ _ _ _ (sym k.1) fails.wrong })

  fails_from : (i : ℕ) → AnyFails l.count behind places i → AnyFails l.count before places i ⊎ ((i ≡ index) × IsWrong l.count places (index + 4 ^ (1 + level)) link)
  fails_from i (j, fails) = elim (entry_cases rows ls link i j fails.there) [
    | inl is ↦
        let e = here_is i j is.0 is.1 in
        let at : IsWrong l.count places (index + 4 ^ (1 + j)) (get_or (row behind index) j 0) = subst (λ (n : ℕ). IsWrong l.count places (n + 4 ^ (1 + j)) (get_or (row behind n) j 0)) e.0 fails.wrong in
        let there : IsWrong l.count places (index + 4 ^ (1 + level)) (get_or (row behind index) level 0) = subst (λ (n : ℕ). IsWrong l.count places (index + 4 ^ (1 + n)) (get_or (row behind index) n 0)) e.1 at in
        inr (e.0, wrong_same _ _ _ _ _ new_link there)
    | inr old ↦ inl (j, record { there = old; wrong = wrong_same _ _ _ _ _ (entry_kept rows ls link i j old).1 fails.wrong })
  ]

  -- a link that leads behind the known places is wrong only where there is no record
  wrong_end : IsWrong l.count places (index + 4 ^ (1 + level)) link → (l.count ≤ index + 4 ^ (1 + level)) × (link ≢ 0)
  wrong_end (inl known) = absurd (omega (arith, known.1, m.known, four_some (1 + level)))
  wrong_end (inr none) = none

  pub fault_kept : ((index + 4 ^ (1 + level) < l.count) ⊎ (link ≡ 0)) → Lowest (AnyFails l.count behind places) places l.fault
  fault_kept fine = lowest_same (AnyFails l.count before places) (AnyFails l.count behind places) places l.fault fails_kept
      (λ i fails. elim (fails_from i fails) [
        | inl old ↦ old
        | inr new ↦ elim fine [
          | inl less ↦ absurd (omega (arith, less, (wrong_end new.1).0))
          | inr is ↦ absurd ((wrong_end new.1).1 is)
        ]
      ]) f.lowest

  pub fault_lowered : l.count ≤ index + 4 ^ (1 + level) → link ≢ 0 → Lowest (AnyFails l.count behind places) places (Some (lower_of l.fault owner))
  fault_lowered none some = lowest_more (AnyFails l.count before places) (AnyFails l.count behind places) places l.fault owner index f.lowest fails_kept
      (λ i fails. elim (fails_from i fails) [
        | inl old ↦ inl old
        | inr new ↦ inr new.0
      ])
      (level, record { there = new_there; wrong = wrong_same _ _ _ _ _ (sym new_link) (inr (none, some)) })
      (sym m.here)

  -- one link more is expected
  pub met : (new : Links) → new.count ≡ l.count → new.expected.items ≡ set l.expected.items level met_expected → Lowest (AnyFails l.count behind places) places new.fault → Follows behind places new
  met new count is lowest = record {
    spaced = λ i j there. elim (entry_cases rows ls link i j there) [
      | inl same ↦
          let e = here_is i j same.0 same.1 in
          ap (λ (n : ℕ). n % 4 ^ (1 + j)) e.0 ∙ ap (λ (n : ℕ). index % 4 ^ (1 + n)) e.1 ∙ m.divides
      | inr old ↦ f.spaced i j old
    ];
    room = λ i j there. elim (entry_cases rows ls link i j there) [
      | inl same ↦ omega (arith, (here_is i j same.0 same.1).1, room, ap length is, length_set l.expected.items level met_expected)
      | inr old ↦ omega (arith, f.room i j old, ap length is, length_set l.expected.items level met_expected)
    ];
    sound = λ j. subst (λ (xs : List Expected). IfSome (slice_get xs j) (IsOfSome behind places j)) (sym is) (sound_at j);
    complete = λ i j there far. ap (λ (xs : List Expected). slice_get xs j) is ∙ complete_at i j there far;
    lowest = subst (λ (n : ℕ). Lowest (AnyFails n behind places) places new.fault) (sym count) lowest;
  }
    where
      of_some : (j : ℕ) (o : Option Expected) → IfSome o (IsOfSome before places j) → IfSome o (IsOfSome behind places j)
      of_some j None h = tt
      of_some j (Some e) (inl none) = inl none
      of_some j (Some e) (inr (i, there, same)) = inr (i, (entry_kept rows ls link i j there).0, same ∙ sym (expected_kept i j there))

      other_or_same : (j : ℕ) → (j ≡ level) ⊎ (j ≡ level → ⊥)
      other_or_same j = elim (cases_lt j level) [
        | inl less ↦ inr (λ e. omega (arith, less, e))
        | inr more ↦ elim (cases_lt level j) [
          | inl greater ↦ inr (λ e. omega (arith, greater, e))
          | inr equal ↦ inl (omega (arith, more, equal))
        ]
      ]

      sound_at : (j : ℕ) → IfSome (slice_get (set l.expected.items level met_expected) j) (IsOfSome behind places j)
      sound_at j = elim (other_or_same j) [
        | inl same ↦
            let at : slice_get (set l.expected.items level met_expected) j ≡ Some met_expected = ap (slice_get (set l.expected.items level met_expected)) same ∙ get_same l.expected.items level met_expected room in
            subst (λ (o : Option Expected). IfSome o (IsOfSome behind places j)) (sym at)
            (inr (index, subst (λ (n : ℕ). n < length (row behind index)) (sym same) new_there, subst (λ (n : ℕ). met_expected ≡ expected_of behind places index n) (sym same) (sym met_is)))
        | inr other ↦ subst (λ (o : Option Expected). IfSome o (IsOfSome behind places j)) (sym (get_other l.expected.items level j met_expected other)) (of_some j (slice_get l.expected.items j) (f.sound j))
      ]

      complete_at : (i j : ℕ) → j < length (row behind i) → length places ≤ i + 4 ^ (1 + j) → slice_get (set l.expected.items level met_expected) j ≡ Some (expected_of behind places i j)
      complete_at i j there far = elim (entry_cases rows ls link i j there) [
        | inl same ↦
            let e = here_is i j same.0 same.1 in
            subst (λ (n : ℕ). slice_get (set l.expected.items level met_expected) j ≡ Some (expected_of behind places n j)) (sym e.0)
            (subst (λ (n : ℕ). slice_get (set l.expected.items level met_expected) n ≡ Some (expected_of behind places index n)) (sym e.1)
            (get_same l.expected.items level met_expected room ∙ ap (λ (x : Expected). Some x) (sym met_is)))
        | inr old ↦
            let other : j ≡ level → ⊥ = λ same.
            let d : i % 4 ^ (1 + level) ≡ 0 = subst (λ (n : ℕ). i % 4 ^ (1 + n) ≡ 0) same (f.spaced i j old) in
            elim (cases_lt i index) [
              | inl less ↦ absurd (omega (arith, apart (4 ^ (1 + level)) i index d m.divides less, m.known, subst (λ (n : ℕ). length places ≤ i + 4 ^ (1 + n)) same far))
              | inr more ↦ last_short i j old same more
            ] in
            get_other l.expected.items level j met_expected other ∙ f.complete i j old far ∙ ap (λ (x : Expected). Some x) (sym (expected_kept i j old))
      ]
        where
          -- the last row has no link of this level yet
          last_short : (i j : ℕ) → j < length (row before i) → j ≡ level → index ≤ i → ⊥
          last_short i j old same more =
              let at : i ≡ length rows = (let t = row_there before i j old in omega (arith, t, length_push rows ls, m.before, more)) in
              omega (arith, ap (λ (n : ℕ). length (row before n)) at, ap length (row_at_end rows ls), old, same, m.so_far)

-- ---- a record with all its links

follows_rows : (rows other : List (List ℕ)) (places : List ℕ) (l : Links) → ((i : ℕ) → row other i ≡ row rows i) → Follows rows places l → Follows other places l
follows_rows rows other places l same f = record {
  spaced = λ i j there. f.spaced i j (subst (λ (r : List ℕ). j < length r) (same i) there);
  room = λ i j there. f.room i j (subst (λ (r : List ℕ). j < length r) (same i) there);
  sound = λ j. of_some j (slice_get l.expected.items j) (f.sound j);
  complete = λ i j there far. f.complete i j (subst (λ (r : List ℕ). j < length r) (same i) there) far ∙ ap (λ (e : Expected). Some e) (sym (expected_same i j));
  lowest = lowest_same (AnyFails l.count rows places) (AnyFails l.count other places) places l.fault (λ i. to i) (λ i. from i) f.lowest;
}
  where
    expected_same : (i j : ℕ) → expected_of other places i j ≡ expected_of rows places i j
    expected_same i j = ap (λ (r : List ℕ). record { target = i + 4 ^ (1 + j); owner = get_or places i 0; link = get_or r j 0 }) (same i)

    to : (i : ℕ) → AnyFails l.count rows places i → AnyFails l.count other places i
    to i (j, fails) = (j, record { there = subst (λ (r : List ℕ). j < length r) (sym (same i)) fails.there; wrong = subst (λ (r : List ℕ). IsWrong l.count places (i + 4 ^ (1 + j)) (get_or r j 0)) (sym (same i)) fails.wrong })

    from : (i : ℕ) → AnyFails l.count other places i → AnyFails l.count rows places i
    from i (j, fails) = (j, record { there = subst (λ (r : List ℕ). j < length r) (same i) fails.there; wrong = subst (λ (r : List ℕ). IsWrong l.count places (i + 4 ^ (1 + j)) (get_or r j 0)) (same i) fails.wrong })

    of_some : (j : ℕ) (o : Option Expected) → IfSome o (IsOfSome rows places j) → IfSome o (IsOfSome other places j)
    of_some j None h = tt
    of_some j (Some e) (inl none) = inl none
    of_some j (Some e) (inr (i, there, is)) = inr (i, subst (λ (r : List ℕ). j < length r) (sym (same i)) there, is ∙ sym (expected_same i j))

-- no link was met yet
pub none_met : (rows : List (List ℕ)) (places : List ℕ) (l : Links) → Follows rows places l → Follows (rows ++ [] ∷ []) places l
none_met rows places l f = follows_rows rows (rows ++ [] ∷ []) places l (row_none rows) f

pub length-words_in : (n at : ℕ) (bytes : List ℕ) → length (words_in n at bytes) ≡ n
length-words_in zero at bytes = refl
length-words_in (suc n) at bytes = ap suc (length-words_in n (at + 8) bytes)

words_after : (n at : ℕ) (bytes : List ℕ) → words_in (suc n) at bytes ≡ words_in n at bytes ++ u64_in bytes (at + 8 * n) ∷ []
words_after zero at bytes = ap (λ (k : ℕ). u64_in bytes k ∷ []) (let e : at ≡ at + 8 * 0 = omega arith in e)
words_after (suc n) at bytes =
    ap (λ (l : List ℕ). u64_in bytes at ∷ l)
    (words_after n (at + 8) bytes ∙ ap (λ (k : ℕ). words_in n (at + 8) bytes ++ u64_in bytes k ∷ []) (let e : at + 8 + 8 * n ≡ at + 8 * suc n = omega arith in e))

pub meets_next : (rows : List (List ℕ)) (places : List ℕ) (height level index owner : ℕ) (bytes : List ℕ) → MeetsAll rows places height index owner → level < height → Meets rows places (words_in level 0 bytes) level index owner
meets_next rows places height level index owner bytes m less =
    record { before = m.before; known = m.known; here = m.here; so_far = length-words_in level 0 bytes; divides = m.divides level less }

-- one link more was met
pub met_next : (rows : List (List ℕ)) (places : List ℕ) (level next link : ℕ) (bytes : List ℕ) (l : Links) → next ≡ level + 1 → link ≡ u64_in bytes (8 * level)
    → Follows (rows ++ (words_in level 0 bytes ++ link ∷ []) ∷ []) places l → Follows (rows ++ words_in next 0 bytes ∷ []) places l
met_next rows places level next link bytes l is word f =
    let more : words_in next 0 bytes ≡ words_in level 0 bytes ++ link ∷ [] =
    ap (λ (n : ℕ). words_in n 0 bytes) (let e : next ≡ suc level = omega arith in e) ∙ words_after level 0 bytes
    ∙ ap (λ (k : ℕ). words_in level 0 bytes ++ k ∷ []) (ap (u64_in bytes) (let e : 0 + 8 * level ≡ 8 * level = omega arith in e) ∙ sym word) in
    subst (λ (r : List ℕ). Follows (rows ++ r ∷ []) places l) (sym more) f

-- ---- a place is known

place_kept : (places : List ℕ) (place target : ℕ) → target < length places → get_or (places ++ place ∷ []) target 0 ≡ get_or places target 0
place_kept places place target less = get_or_append_left places (place ∷ []) 0 target less

wrong_kept : (count : ℕ) (places : List ℕ) (place target link : ℕ) → IsWrong count places target link → IsWrong count (places ++ place ∷ []) target link
wrong_kept count places place target link (inl w) =
    inl (w.0, omega (arith, w.1, length_push places place), λ is. w.2 (is ∙ place_kept places place target w.1))
wrong_kept count places place target link (inr w) = inr w

wrong_cases : (count : ℕ) (places : List ℕ) (place target link : ℕ) → IsWrong count (places ++ place ∷ []) target link → IsWrong count places target link ⊎ ((target ≡ length places) × (link ≢ place))
wrong_cases count places place target link (inr w) = inl (inr w)
wrong_cases count places place target link (inl w) = elim (cases_lt target (length places)) [
  | inl less ↦ inl (inl (w.0, less, λ is. w.2 (is ∙ sym (place_kept places place target less))))
  | inr more ↦
      let at : target ≡ length places = omega (arith, w.1, more, length_push places place) in
      inr (at, λ is. w.2 (is ∙ sym (get_or_push places place 0 target (sym at))))
]

-- a link to the new place, of one of so many levels, is wrong
abbrev pub JudgedTo : (count : ℕ) → (rows : List (List ℕ)) → (places : List ℕ) → (place levels : ℕ) → ℕ → Type 0
JudgedTo count rows places place levels i = AnyFails count rows places i ⊎ ((j : ℕ) × (j < levels) × LinkFails count rows (places ++ place ∷ []) i j)

-- so many levels were judged
abbrev pub Judged : (rows : List (List ℕ)) → (places : List ℕ) → (place levels : ℕ) → Links → Type 0
Judged rows places place levels l = Lowest (JudgedTo l.count rows places place levels) (places ++ place ∷ []) l.fault

lowest_places : (F : ℕ → Type 0) (places other : List ℕ) (fault : Option ℕ) → ((i : ℕ) → F i → get_or other i 0 ≡ get_or places i 0) → Lowest F places fault → Lowest F other fault
lowest_places F places other None same l = record { some = tt; least = λ i h. l.least i h }
lowest_places F places other (Some p) same l = record { some = (l.some.0, l.some.1, l.some.2 ∙ sym (same l.some.0 l.some.1)); least = λ i h. omega (arith, l.least i h, same i h) }

module _ (rows : List (List ℕ)) (places : List ℕ) (place : ℕ) (l : Links) (f : Follows rows places l) (whole : length rows ≡ length places) where
  any_there : (i : ℕ) → AnyFails l.count rows places i → i < length places
  any_there i (j, fails) = omega (arith, row_there rows i j fails.there, whole)

  pub judged_none : Judged rows places place 0 l
  judged_none = lowest_same (AnyFails l.count rows places) (JudgedTo l.count rows places place 0) (places ++ place ∷ []) l.fault (λ i fails. inl fails)
      (λ i fails. elim fails [
        | inl old ↦ old
        | inr new ↦ absurd (omega (arith, new.1))
      ])
      (lowest_places (AnyFails l.count rows places) places (places ++ place ∷ []) l.fault (λ i fails. place_kept places place i (any_there i fails)) f.lowest)

  -- what fails on one level more: what failed before, or a link to the new place
  judged_from : (level next i : ℕ) → next ≡ level + 1 → JudgedTo l.count rows places place next i
      → JudgedTo l.count rows places place level i ⊎ ((level < length (row rows i)) × (i + 4 ^ (1 + level) ≡ length places) × (get_or (row rows i) level 0 ≢ place))
  judged_from level next i is (inl old) = inl (inl old)
  judged_from level next i is (inr (j, less, fails)) = elim (cases_lt j level) [
    | inl low ↦ inl (inr (j, low, fails))
    | inr more ↦
        let same : j ≡ level = omega (arith, less, is, more) in
        let at : LinkFails l.count rows (places ++ place ∷ []) i level = subst (LinkFails l.count rows (places ++ place ∷ []) i) same fails in
        elim (wrong_cases l.count places place (i + 4 ^ (1 + level)) (get_or (row rows i) level 0) at.wrong) [
          | inl old ↦ inl (inl (level, record { there = at.there; wrong = old }))
          | inr new ↦ inr (at.there, new.0, new.1)
        ]
  ]

  judged_to : (level next i : ℕ) → next ≡ level + 1 → JudgedTo l.count rows places place level i → JudgedTo l.count rows places place next i
  judged_to level next i is (inl old) = inl old
  judged_to level next i is (inr (j, less, fails)) = inr (j, omega (arith, less, is), fails)

  some_is : (a b : Expected) → Some a ≡ Some b → a ≡ b
  some_is a b e = cc

  expected_here : (level i : ℕ) (e : Expected) → slice_get l.expected.items level ≡ Some e → level < length (row rows i) → i + 4 ^ (1 + level) ≡ length places → e ≡ expected_of rows places i level
  expected_here level i e got there far = some_is e _ (sym got ∙ f.complete i level there (omega (arith, far)))

  of_some : (level : ℕ) (e : Expected) → slice_get l.expected.items level ≡ Some e → IsOfSome rows places level e
  of_some level e got = subst (λ (o : Option Expected). IfSome o (IsOfSome rows places level)) got (f.sound level)

  -- the link that was expected there is right
  pub judged_right : (level next : ℕ) (e : Expected) (new : Links) → next ≡ level + 1 → slice_get l.expected.items level ≡ Some e → ((e.target ≡ length places) → (e.link ≡ place)) → new.count ≡ l.count
      → Judged rows places place level new → Judged rows places place next new
  judged_right level next e new is got right count judged =
      subst (λ (n : ℕ). Lowest (JudgedTo n rows places place next) (places ++ place ∷ []) new.fault) (sym count)
      (lowest_same (JudgedTo l.count rows places place level) (JudgedTo l.count rows places place next) (places ++ place ∷ []) new.fault (λ i. judged_to level next i is)
      (λ i fails. elim (judged_from level next i is fails) [
        | inl old ↦ old
        | inr new ↦
            let same = expected_here level i e got new.0 new.1 in
            absurd (new.2 (sym (ap (λ (x : Expected). x.link) same) ∙ right (ap (λ (x : Expected). x.target) same ∙ new.1)))
      ])
      (subst (λ (n : ℕ). Lowest (JudgedTo n rows places place level) (places ++ place ∷ []) new.fault) count judged))

  -- the link that was expected there is wrong
  pub judged_wrong : (level next : ℕ) (e : Expected) (old new : Links) → next ≡ level + 1 → slice_get l.expected.items level ≡ Some e → e.target ≡ length places → e.link ≢ place → 0 < length places → length places < l.count
      → old.count ≡ l.count → new.count ≡ l.count → new.fault ≡ Some (lower_of old.fault e.owner)
      → Judged rows places place level old → Judged rows places place next new
  judged_wrong level next e old new is got here other some few count_old count_new fault judged = by_some (of_some level e got)
    where
      by_some : IsOfSome rows places level e → Judged rows places place next new
      by_some (inl none) = absurd (omega (arith, none, here, some))
      by_some (inr (i, there, same)) =
          let target : i + 4 ^ (1 + level) ≡ length places = sym (ap (λ (x : Expected). x.target) same) ∙ here in
          let link : e.link ≡ get_or (row rows i) level 0 = ap (λ (x : Expected). x.link) same in
          let owner : e.owner ≡ get_or places i 0 = ap (λ (x : Expected). x.owner) same in
          let at : get_or (places ++ place ∷ []) (i + 4 ^ (1 + level)) 0 ≡ place = get_or_push places place 0 (i + 4 ^ (1 + level)) (sym target) in
          subst (λ (o : Option ℕ). Lowest (JudgedTo new.count rows places place next) (places ++ place ∷ []) o) (sym fault)
          (subst (λ (n : ℕ). Lowest (JudgedTo n rows places place next) (places ++ place ∷ []) (Some (lower_of old.fault e.owner))) (sym count_new)
          (lowest_more (JudgedTo l.count rows places place level) (JudgedTo l.count rows places place next) (places ++ place ∷ []) old.fault e.owner i
          (subst (λ (n : ℕ). Lowest (JudgedTo n rows places place level) (places ++ place ∷ []) old.fault) count_old judged)
          (λ k. judged_to level next k is)
          (λ k fails. elim (judged_from level next k is fails) [
            | inl low ↦ inl low
            | inr new ↦ inr (omega (arith, new.1, target))
          ])
          (inr (level, omega (arith, is), record { there = there; wrong = inl (omega (arith, target, few), omega (arith, target, length_push places place), λ e. other (link ∙ e ∙ at)) }))
          (owner ∙ sym (place_kept places place i (omega (arith, row_there rows i level there, whole))))))

  -- all levels were judged
  pub arrived : (new : Links) → new.count ≡ l.count → new.expected.items ≡ l.expected.items → Lowest (AnyFails l.count rows (places ++ place ∷ [])) (places ++ place ∷ []) new.fault → Follows rows (places ++ place ∷ []) new
  arrived new count same lowest = record {
    spaced = f.spaced;
    room = λ i j there. omega (arith, f.room i j there, ap length same);
    sound = λ j. subst (λ (xs : List Expected). IfSome (slice_get xs j) (IsOfSome rows (places ++ place ∷ []) j)) (sym same) (still j (slice_get l.expected.items j) (f.sound j));
    complete = λ i j there far. ap (λ (xs : List Expected). slice_get xs j) same ∙ f.complete i j there (omega (arith, far, length_push places place)) ∙ ap (λ (e : Expected). Some e) (sym (expected_kept i j there));
    lowest = subst (λ (n : ℕ). Lowest (AnyFails n rows (places ++ place ∷ [])) (places ++ place ∷ []) new.fault) (sym count) lowest;
  }
    where
      expected_kept : (i j : ℕ) → j < length (row rows i) → expected_of rows (places ++ place ∷ []) i j ≡ expected_of rows places i j
      expected_kept i j there = ap (λ (o : ℕ). record { target = i + 4 ^ (1 + j); owner = o; link = get_or (row rows i) j 0 }) (place_kept places place i (omega (arith, row_there rows i j there, whole)))

      still : (j : ℕ) (o : Option Expected) → IfSome o (IsOfSome rows places j) → IfSome o (IsOfSome rows (places ++ place ∷ []) j)
      still j None h = tt
      still j (Some e) (inl none) = inl none
      still j (Some e) (inr (i, there, is)) = inr (i, there, is ∙ sym (expected_kept i j there))

  pub all_judged : (levels : ℕ) (new : Links) → new.count ≡ l.count → new.expected.items ≡ l.expected.items → length l.expected.items ≤ levels → Judged rows places place levels new → Follows rows (places ++ place ∷ []) new
  all_judged levels new count same most judged = arrived new count same
      (lowest_same (JudgedTo l.count rows places place levels) (AnyFails l.count rows (places ++ place ∷ [])) (places ++ place ∷ []) new.fault
      (λ i fails. elim fails [
        | inl old ↦ (old.0, record { there = old.1.there; wrong = wrong_kept l.count places place _ _ old.1.wrong })
        | inr new ↦ (new.0, new.2)
      ])
      (λ i fails. inr (fails.0, omega (arith, f.room i fails.0 fails.1.there, most), fails.1))
      (subst (λ (n : ℕ). Lowest (JudgedTo n rows places place levels) (places ++ place ∷ []) new.fault) count judged))

  -- no link leads to the end
  pub none_judged : l.count ≤ length places → Follows rows (places ++ place ∷ []) l
  none_judged last = arrived l refl refl
      (lowest_same (AnyFails l.count rows places) (AnyFails l.count rows (places ++ place ∷ [])) (places ++ place ∷ []) l.fault
      (λ i fails. (fails.0, record { there = fails.1.there; wrong = wrong_kept l.count places place _ _ fails.1.wrong }))
      (λ i fails. elim (wrong_cases l.count places place _ _ fails.1.wrong) [
        | inl old ↦ (fails.0, record { there = fails.1.there; wrong = old })
        | inr new ↦ (fails.0, record { there = fails.1.there; wrong = at_end i fails.0 fails.1.wrong new.0 })
      ])
      (lowest_places (AnyFails l.count rows places) places (places ++ place ∷ []) l.fault (λ i fails. place_kept places place i (any_there i fails)) f.lowest))
    where
      at_end : (i j : ℕ) → IsWrong l.count (places ++ place ∷ []) (i + 4 ^ (1 + j)) (get_or (row rows i) j 0) → i + 4 ^ (1 + j) ≡ length places → IsWrong l.count places (i + 4 ^ (1 + j)) (get_or (row rows i) j 0)
      at_end i j (inl w) at = absurd (omega (arith, w.0, at, last))
      at_end i j (inr w) at = inr w
