-- What changes make of the keys of records.
use Rattle.std.proofs.Common.{◌≡◌, ℕ, suc, ◌+◌, Bool, true, false, cond, List, [], ◌∷◌, length, refl, sym, ap, subst, ◌∙◌, arith}
use Rattle.std.specs.Prelude.{Some, not}
use Rattle.std.specs.Option.{is_some}
use Rattle.std.specs.Str.{bytes_eq}
use Rattle.std.specs.Global.{Vec}
use Rattle.std.specs.HashSet.{HashSet, hash_set_len, contains_by, UpdatesBy}
use Rattle.std.specs.declared.cmp.Ordering.{Ordering}
use Rattle.std.specs.declared.cmp.Ordering.TheVariants.{Less, Equal, Greater}
use Rattle.std.specs.List.Sorted.{IsPermutation}
use Rattle.std.specs.Set.{KeepsOthers}
use Rattle.std.proofs.lemmas.List.Sorted.{list_any-IsPermutation}
use Rattle.std.proofs.lemmas.Slice.Eq.{bytes_eq-Decides}
use Rattle.tk_model.specs.Orders.{same_bytes, key_cmp}
use Rattle.tk_model.specs.Records.{find, put, put_by, without, Rising}
use Rattle.tk_model.specs.declared.record.Order.{Order}
use Rattle.tk_model.specs.declared.record.Order.TheVariants.{Hash}
use Rattle.tk_model.specs.declared.record.Pair.{Pair}
use Rattle.tk_model.proofs.KeyOrders.{keys_apart, same_told, same_itself}
use Rattle.tk_model.proofs.RecordLaws.{behind_earlier, apart_greater, found_head, found_deeper, none_behind, find_put_same, find_put_other, find_without_same, find_without_other, put_rising, without_rising}
use Rattle.tk_append.specs.Keys.{HasKeys}

-- ---- the set

not_true : (t : Bool) → (t ≡ true → ⊥) → t ≡ false
not_true false never = refl
not_true true never = absurd (never refl)

same_is : (a b : List ℕ) → bytes_eq a b ≡ true → a ≡ b
same_is a b is = (bytes_eq-Decides a b).0 is

abbrev has : {S : Type 0} → HashSet (Vec ℕ) S → List ℕ → Bool
has s k = contains_by (λ v. bytes_eq k v.items) s

abbrev Changes : {S : Type 0} → (key : List ℕ) (old new : HashSet (Vec ℕ) S) → Bool → Type 0
Changes key old new b = UpdatesBy (λ x y. bytes_eq x.items y.items) (λ v. bytes_eq key v.items) old new b

keeps_apart : {S : Type 0} (key k : List ℕ) (old new : HashSet (Vec ℕ) S) → KeepsOthers (λ x y. bytes_eq x.items y.items) (λ v. bytes_eq key v.items) old.keys new.keys → bytes_eq key k ≡ false → has new k ≡ has old k
unfolding KeepsOthers
keeps_apart key k old new keeps apart =
    keeps (λ v. bytes_eq k v.items)
    (λ x y is. ap (λ (l : List ℕ). bytes_eq l y.items) (same_is k x.items is))
    (λ v is. not_true (bytes_eq k v.items) (λ also.
    let same : key ≡ k = same_is key v.items is ∙ sym (same_is k v.items also) in
    let yes : bytes_eq key k ≡ true = (bytes_eq-Decides key k).1 same in cc))

changed_by : {S : Type 0} (t : Bool) (key k : List ℕ) (old new : HashSet (Vec ℕ) S) (b : Bool) → bytes_eq key k ≡ t → Changes key old new b → has new k ≡ cond t b (has old k)
changed_by true key k old new b is u = subst (λ (l : List ℕ). has new l ≡ b) (same_is key k is) u.1
changed_by false key k old new b is u = keeps_apart key k old new u.3 is

-- ---- the records

moved : (t : Bool) (n : ℕ) → suc (cond t n (suc n)) ≡ cond t (suc n) (suc (suc n))
moved true n = refl
moved false n = refl

moved_up : (t : Bool) (n : ℕ) → suc (cond t (suc n) n) ≡ cond t (suc (suc n)) (suc n)
moved_up true n = refl
moved_up false n = refl

put_length_by : (o : Order) (c : Ordering) (new p : Pair) (ps : List Pair) → key_cmp o new.key p.key ≡ c → Rising o (p ∷ ps) → length (put o new ps) ≡ cond (is_some (find new.key ps)) (length ps) (suc (length ps))
    → length (put_by c new p ps (put o new ps)) ≡ cond (is_some (find new.key (p ∷ ps))) (suc (length ps)) (suc (suc (length ps)))
put_length_by o Less new p ps e rising more = rw (none_behind o new.key (p ∷ ps) (e, behind_earlier o new.key p.key ps e rising.0)) refl
put_length_by o Equal new p ps e rising more = rw (found_head new.key p ps (subst (λ (k : List ℕ). same_bytes new.key k ≡ true) (keys_apart o new.key p.key e) (same_itself new.key))) refl
put_length_by o Greater new p ps e rising more = rw (found_deeper new.key p ps (apart_greater o new.key p.key e)) (ap suc more ∙ moved (is_some (find new.key ps)) (length ps))

put_length : (o : Order) (new : Pair) (m : List Pair) → Rising o m → length (put o new m) ≡ cond (is_some (find new.key m)) (length m) (suc (length m))
put_length o new [] rising = refl
put_length o new (p ∷ ps) rising = put_length_by o (key_cmp o new.key p.key) new p ps refl rising (put_length o new ps rising.1)

without_length_by : (t : Bool) (k : List ℕ) (p : Pair) (ps : List Pair) → same_bytes k p.key ≡ t → length ps ≡ cond (is_some (find k ps)) (suc (length (without k ps))) (length (without k ps))
    → suc (length ps) ≡ cond (is_some (cond t (Some p.value) (find k ps))) (suc (length (cond t ps (p ∷ without k ps)))) (length (cond t ps (p ∷ without k ps)))
without_length_by true k p ps is more = refl
without_length_by false k p ps is more = ap suc more ∙ moved_up (is_some (find k ps)) (length (without k ps))

without_length : (k : List ℕ) (m : List Pair) → length m ≡ cond (is_some (find k m)) (suc (length (without k m))) (length (without k m))
without_length k [] = refl
without_length k (p ∷ ps) = without_length_by (same_bytes k p.key) k p ps refl (without_length k ps)

bytes_flipped : (t : Bool) (a b : List ℕ) → same_bytes a b ≡ t → bytes_eq b a ≡ t
bytes_flipped true a b is = (bytes_eq-Decides b a).1 (sym (same_told a b is))
bytes_flipped false a b is = not_true (bytes_eq b a) (λ yes. let e : same_bytes a b ≡ true = subst (λ (k : List ℕ). same_bytes a k ≡ true) (sym (same_is b a yes)) (same_itself a) in cc)

put_found : (t : Bool) (k : List ℕ) (new : Pair) (m : List Pair) → same_bytes k new.key ≡ t → is_some (find k (put Hash new m)) ≡ cond t true (is_some (find k m))
put_found true k new m is = ap is_some (ap (λ (l : List ℕ). find l (put Hash new m)) (same_told k new.key is) ∙ find_put_same Hash new m)
put_found false k new m is = ap is_some (find_put_other Hash k new m is)

without_found : (t : Bool) (j k : List ℕ) (m : List Pair) → Rising Hash m → same_bytes j k ≡ t → is_some (find j (without k m)) ≡ cond t false (is_some (find j m))
without_found true j k m rising is = ap is_some (ap (λ (l : List ℕ). find l (without k m)) (same_told j k is) ∙ find_without_same Hash k m rising)
without_found false j k m rising is = ap is_some (find_without_other j k m is)

-- ---- both

put_count : (found added : Bool) (keys m now after : ℕ) → added ≡ not found → keys ≡ m → now ≡ keys + cond added 1 0 → after ≡ cond found m (suc m) → now ≡ after
put_count true true keys m now after is same a b = absurd (cc is)
put_count true false keys m now after is same a b = omega (arith, same, a, b)
put_count false true keys m now after is same a b = omega (arith, same, a, b)
put_count false false keys m now after is same a b = absurd (cc is)

drop_count : (found was : Bool) (keys m now after : ℕ) → was ≡ found → keys ≡ m → now + cond was 1 0 ≡ keys → m ≡ cond found (suc after) after → now ≡ after
drop_count true true keys m now after is same a b = omega (arith, same, a, b)
drop_count true false keys m now after is same a b = absurd (cc is)
drop_count false true keys m now after is same a b = absurd (cc is)
drop_count false false keys m now after is same a b = omega (arith, same, a, b)

-- a key that is put in
pub put_keys : {S : Type 0} (old new : HashSet (Vec ℕ) S) (key : List ℕ) (added : Bool) (p : Pair) (pairs : List Pair) → p.key ≡ key → added ≡ not (has old key) → Changes key old new true → hash_set_len new ≡ hash_set_len old + cond added 1 0
    → HasKeys old pairs → HasKeys new (put Hash p pairs)
put_keys old new key added p pairs is test u len h = record {
  rising = put_rising Hash p pairs h.rising;
  count = put_count (is_some (find p.key pairs)) added (hash_set_len old) (length pairs) _ _ (test ∙ ap not (h.each key ∙ ap (λ (k : List ℕ). is_some (find k pairs)) (sym is))) h.count len (put_length Hash p pairs h.rising);
  each = λ k.
      changed_by (same_bytes k p.key) key k old new true (subst (λ (l : List ℕ). bytes_eq l k ≡ same_bytes k p.key) is (bytes_flipped (same_bytes k p.key) k p.key refl)) u
      ∙ ap (λ (t : Bool). cond (same_bytes k p.key) true t) (h.each k) ∙ sym (put_found (same_bytes k p.key) k p pairs refl);
}

-- a key that is taken out
pub drop_keys : {S : Type 0} (old new : HashSet (Vec ℕ) S) (key : List ℕ) (was : Bool) (pairs : List Pair) → was ≡ has old key → Changes key old new false → hash_set_len new + cond was 1 0 ≡ hash_set_len old
    → HasKeys old pairs → HasKeys new (without key pairs)
drop_keys old new key was pairs test u len h = record {
  rising = without_rising Hash key pairs h.rising;
  count = drop_count (is_some (find key pairs)) was (hash_set_len old) (length pairs) _ _ (test ∙ h.each key) h.count len (without_length key pairs);
  each = λ k.
      changed_by (same_bytes k key) key k old new false (bytes_flipped (same_bytes k key) k key refl) u
      ∙ ap (λ (t : Bool). cond (same_bytes k key) false t) (h.each k) ∙ sym (without_found (same_bytes k key) k key pairs h.rising refl);
}

-- the keys stand elsewhere in the set
pub moved_keys : {S : Type 0} (old new : HashSet (Vec ℕ) S) (pairs : List Pair) → IsPermutation old.keys new.keys → hash_set_len new ≡ hash_set_len old → HasKeys old pairs → HasKeys new pairs
moved_keys old new pairs moved len h = record {
  rising = h.rising;
  count = len ∙ h.count;
  each = λ k. sym (list_any-IsPermutation (λ v. bytes_eq k v.items) old.keys new.keys moved) ∙ h.each k;
}
