-- A change and what undoes it.
use Rattle.std.proofs.Common.{◌≡◌, ◌⊎◌, inl, inr, ℕ, zero, suc, ◌+◌, ◌-◌, ◌<◌, ◌≤◌, get_or, arith, true, false, List, [], ◌∷◌, ◌++◌, length, take, Option, Some, None, refl, sym, ap, ◌∙◌}
use Rattle.std.proofs.lemmas.List.{length-take-le, take_all, take-take}
use Rattle.tk_model.specs.Orders.{same_bytes}
use Rattle.tk_model.specs.Records.{find, after_one, HasNoClear, Rising}
use Rattle.tk_model.specs.declared.record.Order.TheVariants.{Hash}
use Rattle.tk_model.specs.declared.record.Pair.{Pair}
use Rattle.tk_model.specs.declared.record.Change.{Change}
use Rattle.tk_model.specs.declared.record.Change.TheVariants as changes
use Rattle.tk_model.proofs.KeyOrders.{same_told}
use Rattle.tk_model.proofs.RecordLaws.{so_or_not, one_rising, find_put_same, find_put_other, find_without_same, find_without_other, same_records}
use Rattle.tk_mem.specs.Undo.{key_of, undo_of, undone}

take_more_at : (us : List Change) (i : ℕ) (u : Change) → i < length us → u ≡ get_or us i u → take (i + 1) us ≡ take i us ++ u ∷ []
take_more_at [] i u inside at = absurd (omega arith)
take_more_at (v ∷ us) zero u inside at = ap (λ (w : Change). w ∷ []) (sym at)
take_more_at (v ∷ us) (suc i) u inside at =
    let e : suc i + 1 ≡ suc (i + 1) = omega arith in
    let more : take (suc i + 1) (v ∷ us) ≡ v ∷ take (i + 1) us = ap (λ n. take n (v ∷ us)) e in
    let inner : i < length us = omega arith in
    more ∙ ap (λ (vs : List Change). v ∷ vs) (take_more_at us i u inner at)

-- a change reaches this key alone
pub record Reaches (key : List ℕ) (c : Change) : Type 0 where
  pub none_else : (k : List ℕ) (m : List Pair) → same_bytes k key ≡ false → find k (after_one Hash c m) ≡ find k m

reaches_put : (p : Pair) → Reaches p.key (changes.Put p)
reaches_put p = record { none_else = λ k m other. find_put_other Hash k p m other }

reaches_drop : (key : List ℕ) → Reaches key (changes.Drop key)
reaches_drop key = record { none_else = λ k m other. find_without_other k key m other }

reaches_undo : (key : List ℕ) (was : Option (List ℕ)) → Reaches key (undo_of key was)
reaches_undo key None = reaches_drop key
reaches_undo key (Some v) = reaches_put (record { key = key; value = v })

gives_back : (key : List ℕ) (was : Option (List ℕ)) (m : List Pair) → Rising Hash m → find key (after_one Hash (undo_of key was) m) ≡ was
gives_back key None m rising = find_without_same Hash key m rising
gives_back key (Some v) m rising = find_put_same Hash (record { key = key; value = v }) m

same_there : (k key : List ℕ) (m n : List Pair) → (same_bytes k key ≡ true) ⊎ (same_bytes k key ≡ false) → find key m ≡ find key n
    → (same_bytes k key ≡ false → find k m ≡ find k n) → find k m ≡ find k n
same_there k key m n (inl same) here other = ap (λ j. find j m) (same_told k key same) ∙ here ∙ ap (λ j. find j n) (sym (same_told k key same))
same_there k key m n (inr apart) here other = other apart

-- records that agree but at a key are the same when what it had is brought back
brought_back : (key : List ℕ) (m n : List Pair) → Rising Hash m → Rising Hash n → ((k : List ℕ) → same_bytes k key ≡ false → find k n ≡ find k m)
    → after_one Hash (undo_of key (find key m)) n ≡ m
brought_back key m n rising_m rising_n agree =
    let u = undo_of key (find key m) in
    same_records Hash (after_one Hash u n) m (one_rising Hash u n rising_n) rising_m
    (λ k. same_there k key (after_one Hash u n) m (so_or_not (same_bytes k key)) (gives_back key (find key m) n rising_n)
    (λ other. (reaches_undo key (find key m)).none_else k n other ∙ agree k other))

undoes : (key : List ℕ) (c : Change) (m : List Pair) → Reaches key c → Rising Hash m → after_one Hash (undo_of key (find key m)) (after_one Hash c m) ≡ m
undoes key c m reaches rising =
    brought_back key m (after_one Hash c m) rising (one_rising Hash c m rising) (λ k other. reaches.none_else k m other)

undone-push : (us : List Change) (u : Change) (m : List Pair) → undone (us ++ u ∷ []) m ≡ undone us (after_one Hash u m)
undone-push [] u m = refl
undone-push (v ∷ us) u m = ap (after_one Hash v) (undone-push us u m)

reaches_own : (c : Change) → HasNoClear (c ∷ []) → Reaches (key_of c) c
reaches_own (changes.Put p) none = reaches_put p
reaches_own (changes.Drop k) none = reaches_drop k
reaches_own changes.Clear none = absurd none

pub push_undoes : (us : List Change) (c : Change) (m : List Pair) → HasNoClear (c ∷ []) → Rising Hash m
    → undone (us ++ undo_of (key_of c) (find (key_of c) m) ∷ []) (after_one Hash c m) ≡ undone us m
push_undoes us c m none rising =
    undone-push us (undo_of (key_of c) (find (key_of c) m)) (after_one Hash c m) ∙ ap (undone us) (undoes (key_of c) c m (reaches_own c none) rising)

pub push_same : (us : List Change) (key : List ℕ) (m : List Pair) → Rising Hash m → undone (us ++ undo_of key (find key m) ∷ []) m ≡ undone us m
push_same us key m rising =
    undone-push us (undo_of key (find key m)) m ∙ ap (undone us) (brought_back key m m rising rising (λ k other. refl))

-- a change was made, and what undoes it was put behind the others
pub made_back : (us new : List Change) (c u : Change) (k : List ℕ) (m n : List Pair) → HasNoClear (c ∷ []) → Rising Hash m → k ≡ key_of c → u ≡ undo_of k (find k m)
    → new ≡ us ++ u ∷ [] → n ≡ after_one Hash c m → undone new n ≡ undone us m
made_back us new c u k m n none rising key is pushed made =
    ap (λ (vs : List Change). undone vs n) pushed ∙ ap (λ (v : Change). undone (us ++ v ∷ []) n) (is ∙ ap (λ (j : List ℕ). undo_of j (find j m)) key)
    ∙ ap (undone (us ++ undo_of (key_of c) (find (key_of c) m) ∷ [])) made ∙ push_undoes us c m none rising

-- it was not made
pub left_back : (us new : List Change) (u : Change) (k : List ℕ) (m n : List Pair) → Rising Hash m → u ≡ undo_of k (find k m)
    → new ≡ us ++ u ∷ [] → n ≡ m → undone new n ≡ undone us m
left_back us new u k m n rising is pushed same =
    ap (λ (vs : List Change). undone vs n) pushed ∙ ap (λ (v : Change). undone (us ++ v ∷ []) n) is
    ∙ ap (undone (us ++ undo_of k (find k m) ∷ [])) same ∙ push_same us k m rising

-- the last of the changes was undone, and goes
pub back_step : (us now left : List Change) (n : ℕ) (u : Change) (m after : List Pair) → 0 < n → n ≤ length us → now ≡ take n us → u ≡ get_or now (n - 1) u
    → left ≡ take (n - 1) now → after ≡ after_one Hash u m → (left ≡ take (n - 1) us) × (undone left after ≡ undone now m)
back_step us now left n u m after some within is at cut made =
    let long : length now ≡ n = ap length is ∙ length-take-le n us within in
    let inside : n - 1 < length now = omega (arith, long, some) in
    let less : n - 1 ≤ n = omega arith in
    let all : length now ≤ n - 1 + 1 = omega (arith, long, some) in
    let whole : now ≡ take (n - 1) now ++ u ∷ [] = sym (take_all (n - 1 + 1) now all) ∙ take_more_at now (n - 1) u inside at in (
      cut ∙ ap (λ (vs : List Change). take (n - 1) vs) is ∙ take-take (n - 1) n us less,
      ap (λ (vs : List Change). undone vs after) cut ∙ ap (undone (take (n - 1) now)) made ∙ sym (undone-push (take (n - 1) now) u m) ∙ ap (λ (vs : List Change). undone vs m) (sym whole),
    )
