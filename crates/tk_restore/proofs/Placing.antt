-- Where a record goes among rising ones.
use Rattle.std.proofs.Common.{◌≡◌, ℕ, ◌+◌, ◌<◌, ◌≤◌, true, List, [], ◌∷◌, ◌++◌, length, take, drop, get_or, refl, sym, ap, subst, ◌∙◌, add-one}
use Rattle.std.proofs.lemmas.List.{take-append-drop, drop_more, take_more}
use Rattle.std.specs.List.{remove}
use Rattle.std.specs.declared.cmp.Ordering.TheVariants.{Less, Equal, Greater}
use Rattle.tk_model.specs.Orders.{same_bytes, key_cmp}
use Rattle.tk_model.specs.Places.{GoesAt, GoesBefore}
use Rattle.tk_model.specs.Records.{put, put_by, without, AllBehind, Rising}
use Rattle.tk_model.specs.declared.record.Order.TheVariants.{Hash}
use Rattle.tk_model.specs.declared.record.Pair.{Pair}
use Rattle.tk_model.proofs.KeyOrders.{keys_total, keys_apart, same_itself}
use Rattle.tk_model.proofs.PlaceSteps.{goes_at}
use Rattle.tk_model.proofs.RecordLaws.{apart_less, apart_greater, flipped}
use Rattle.tk_store.proofs.Joined.{AllBefore, put_past}

put_first : (new : Pair) (m : List Pair) → AllBehind Hash new.key m → put Hash new m ≡ new ∷ m
put_first new [] behind = refl
put_first new (p ∷ m) behind = ap (λ c. put_by c new p m (put Hash new m)) behind.0

pub without_past : (k : List ℕ) (xs ys : List Pair) → AllBefore k xs → without k (xs ++ ys) ≡ xs ++ without k ys
without_past k [] ys before = refl
without_past k (p ∷ xs) ys before =
    rw (apart_greater Hash k p.key (flipped Hash p.key k Less before.0)) (ap (λ m. p ∷ m) (without_past k xs ys before.1))

without_none : (k : List ℕ) (m : List Pair) → AllBehind Hash k m → without k m ≡ m
without_none k [] behind = refl
without_none k (p ∷ m) behind = rw (apart_less Hash k p.key behind.0) (ap (λ l. p ∷ l) (without_none k m behind.1))

less_than : (k : List ℕ) (xs ys : List Pair) (p : Pair) → AllBehind Hash k (xs ++ p ∷ ys) → key_cmp Hash k p.key ≡ Less
less_than k [] ys p all = all.0
less_than k (x ∷ xs) ys p all = less_than k xs ys p all.1

all_before : (xs ys : List Pair) (p : Pair) → Rising Hash (xs ++ p ∷ ys) → AllBefore p.key xs
all_before [] ys p rising = tt
all_before (x ∷ xs) ys p rising = (less_than x.key xs ys p rising.0, all_before xs ys p rising.1)

before_later : (k : List ℕ) (p : Pair) (xs : List Pair) → AllBefore p.key xs → key_cmp Hash p.key k ≡ Less → AllBefore k (xs ++ p ∷ [])
before_later k p [] before less = (less, tt)
before_later k p (x ∷ xs) before less = ((keys_total Hash).trans x.key p.key k before.0 less, before_later k p xs before.1 less)

-- a record among others
module _ (k : List ℕ) (m : List Pair) (i : ℕ) (p : Pair) (inside : i < length m) (is : p ≡ get_or m i p) where
  here : drop i m ≡ p ∷ drop (i + 1) m
  here = drop_more m i p inside ∙ ap (λ q. q ∷ drop (i + 1) m) (sym is)

  front : Rising Hash m → AllBefore p.key (take i m)
  front rising = all_before (take i m) (drop (i + 1) m) p (subst (Rising Hash) (sym (take-append-drop i m) ∙ ap (λ l. take i m ++ l) here) rising)

  front_same : Rising Hash m → key_cmp Hash k p.key ≡ Equal → AllBefore k (take i m)
  front_same rising equal = subst (λ j. AllBefore j (take i m)) (sym (keys_apart Hash k p.key equal)) (front rising)

  pub behind_here : key_cmp Hash k p.key ≡ Less → AllBehind Hash k (drop (i + 1) m) → AllBehind Hash k (drop i m)
  behind_here less behind = subst (AllBehind Hash k) (sym here) (less, behind)

  pub same_goes : Rising Hash m → key_cmp Hash k p.key ≡ Equal → GoesAt Hash k m i
  same_goes rising equal = goes_at Hash k m i p inside is equal (record {
    deeper = λ new e.
        sym (put_past new (take i m) (drop i m) (subst (λ j. AllBefore j (take i m)) (sym e) (front_same rising equal))) ∙ ap (put Hash new) (take-append-drop i m);
  })

  pub same_stands : Rising Hash m → key_cmp Hash k p.key ≡ Equal → without k m ≡ remove m i
  same_stands rising equal =
      let same : same_bytes k p.key ≡ true = subst (λ j. same_bytes k j ≡ true) (keys_apart Hash k p.key equal) (same_itself k) in
      let rest : without k (p ∷ drop (i + 1) m) ≡ drop (i + 1) m = rw same refl in
      ap (without k) (sym (take-append-drop i m)) ∙ without_past k (take i m) (drop i m) (front_same rising equal)
      ∙ ap (λ l. take i m ++ l) (ap (without k) here ∙ rest ∙ ap (λ j. drop j m) (add-one i))

  pub front_less : Rising Hash m → key_cmp Hash k p.key ≡ Greater → AllBefore k (take (i + 1) m)
  front_less rising greater =
      subst (AllBefore k) (sym (take_more m i p inside ∙ ap (λ q. take i m ++ q ∷ []) (sym is)))
      (before_later k p (take i m) (front rising) (flipped Hash k p.key Greater greater))

pub goes_between : (k : List ℕ) (m : List Pair) (i : ℕ) → i ≤ length m → AllBefore k (take i m) → AllBehind Hash k (drop i m) → GoesBefore Hash k m i
goes_between k m i inside before behind = record {
  inside = inside;
  inserted = λ new e.
      ap (put Hash new) (sym (take-append-drop i m))
      ∙ put_past new (take i m) (drop i m) (subst (λ j. AllBefore j (take i m)) (sym e) before)
      ∙ ap (λ l. take i m ++ l) (put_first new (drop i m) (subst (λ j. AllBehind Hash j (drop i m)) (sym e) behind));
}

pub none_between : (k : List ℕ) (m : List Pair) (i : ℕ) → AllBefore k (take i m) → AllBehind Hash k (drop i m) → without k m ≡ m
none_between k m i before behind =
    ap (without k) (sym (take-append-drop i m)) ∙ without_past k (take i m) (drop i m) before
    ∙ ap (λ l. take i m ++ l) (without_none k (drop i m) behind) ∙ take-append-drop i m
