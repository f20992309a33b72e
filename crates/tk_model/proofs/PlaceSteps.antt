-- How a search through records goes on.
use Rattle.std.proofs.Common.{◌≡◌, ℕ, ◌+◌, ◌-◌, ◌<◌, ◌≤◌, true, false, List, [], ◌∷◌, ◌++◌, length, take, drop, get_or, Some, refl, sym, ap, ◌∙◌, arith, append_assoc, add-one}
use Rattle.std.proofs.Math.ListN.{drop_of_length-le}
use Rattle.std.proofs.lemmas.List.{drop_more, take_more, take_all, append-nil, set_split}
use Rattle.std.proofs.lemmas.Option.{slice_get-get_or}
use Rattle.std.specs.Prelude.{slice_get}
use Rattle.std.specs.Option.{option_map}
use Rattle.std.specs.declared.cmp.Ordering.TheVariants.{Less, Equal, Greater}
use Rattle.tk_model.specs.Orders.{same_bytes, key_cmp}
use Rattle.tk_model.specs.Records.{find, put, put_by, without, reaches, last_within}
use Rattle.tk_model.specs.Places.{StandsAt, StandsNowhere, GoesAt, GoesBefore}
use Rattle.tk_model.specs.declared.record.Order.{Order}
use Rattle.tk_model.specs.declared.record.Way.TheVariants.{Down}
use Rattle.tk_model.specs.declared.record.Bound.{Bound}
use Rattle.tk_model.specs.declared.record.Pair.{Pair}

-- none of the records before this place is the key's
pub record Unfound (k : List ℕ) (m : List Pair) (i : ℕ) : Type 0 where
  pub value : find k (drop i m) ≡ find k m
  pub rest : take i m ++ without k (drop i m) ≡ without k m

split_at : (m : List Pair) (i : ℕ) (p : Pair) → i < length m → p ≡ get_or m i p → drop i m ≡ p ∷ drop (i + 1) m
split_at m i p inside is = drop_more m i p inside ∙ ap (λ q. q ∷ drop (i + 1) m) (sym is)

longer : (m : List Pair) (i : ℕ) (p : Pair) (rest : List Pair) → i < length m → p ≡ get_or m i p → take (i + 1) m ++ rest ≡ take i m ++ p ∷ rest
longer m i p rest inside is =
    ap (λ front. front ++ rest) (take_more m i p inside ∙ ap (λ q. take i m ++ q ∷ []) (sym is)) ∙ append_assoc (take i m) (p ∷ []) rest

read_at : (m : List Pair) (i : ℕ) (p : Pair) → i < length m → p ≡ get_or m i p → slice_get m i ≡ Some p
read_at m i p inside is = slice_get-get_or m i p inside ∙ ap Some (sym is)

pub unfound_more : (k : List ℕ) (m : List Pair) (i : ℕ) (p : Pair) → i < length m → p ≡ get_or m i p → same_bytes k p.key ≡ false → Unfound k m i → Unfound k m (i + 1)
unfound_more k m i p inside is other so_far =
    let here = split_at m i p inside is in
    let value : find k (p ∷ drop (i + 1) m) ≡ find k (drop (i + 1) m) = rw other refl in
    let rest : without k (p ∷ drop (i + 1) m) ≡ p ∷ without k (drop (i + 1) m) = rw other refl in
    record {
      value = sym value ∙ ap (find k) (sym here) ∙ so_far.value;
      rest = longer m i p (without k (drop (i + 1) m)) inside is ∙ ap (λ w. take i m ++ w) (sym rest ∙ ap (without k) (sym here)) ∙ so_far.rest;
    }

pub found_here : (k : List ℕ) (m : List Pair) (i : ℕ) (p : Pair) → i < length m → p ≡ get_or m i p → same_bytes k p.key ≡ true → Unfound k m i → StandsAt k m i
found_here k m i p inside is same so_far =
    let here = split_at m i p inside is in
    let value : find k (p ∷ drop (i + 1) m) ≡ Some p.value = rw same refl in
    let rest : without k (p ∷ drop (i + 1) m) ≡ drop (i + 1) m = rw same refl in
    let read : slice_get m i ≡ Some p = read_at m i p inside is in
    record {
      inside = inside;
      value = sym so_far.value ∙ ap (find k) here ∙ value ∙ sym (ap (option_map (λ (q : Pair). q.value)) read);
      rest = sym so_far.rest ∙ ap (λ w. take i m ++ w) (ap (without k) here ∙ rest ∙ ap (λ j. drop j m) (add-one i));
    }

pub found_nowhere : (k : List ℕ) (m : List Pair) (i : ℕ) → length m ≤ i → Unfound k m i → StandsNowhere k m
found_nowhere k m i past so_far =
    let none : drop i m ≡ [] = drop_of_length-le m past in
    record {
      value = sym so_far.value ∙ ap (find k) none;
      rest = sym so_far.rest ∙ ap (λ w. take i m ++ without k w) none ∙ append-nil (take i m) ∙ take_all i m past;
    }

-- a record of the key goes behind those before this place
pub record Behind (o : Order) (k : List ℕ) (m : List Pair) (i : ℕ) : Type 0 where
  pub deeper : (new : Pair) → new.key ≡ k → take i m ++ put o new (drop i m) ≡ put o new m

put_at : (o : Order) (k : List ℕ) (new p : Pair) (ps : List Pair) → new.key ≡ k → put o new (p ∷ ps) ≡ put_by (key_cmp o k p.key) new p ps (put o new ps)
put_at o k new p ps e = ap (λ key. put_by (key_cmp o key p.key) new p ps (put o new ps)) e

pub behind_more : (o : Order) (k : List ℕ) (m : List Pair) (i : ℕ) (p : Pair) → i < length m → p ≡ get_or m i p → key_cmp o k p.key ≡ Greater → Behind o k m i → Behind o k m (i + 1)
behind_more o k m i p inside is past so_far = record {
  deeper = λ new e.
      let here = split_at m i p inside is in
      let step : put o new (p ∷ drop (i + 1) m) ≡ p ∷ put o new (drop (i + 1) m) =
      put_at o k new p (drop (i + 1) m) e ∙ ap (λ c. put_by c new p (drop (i + 1) m) (put o new (drop (i + 1) m))) past in
      longer m i p (put o new (drop (i + 1) m)) inside is ∙ ap (λ w. take i m ++ w) (sym step ∙ ap (put o new) (sym here)) ∙ so_far.deeper new e;
}

pub goes_before : (o : Order) (k : List ℕ) (m : List Pair) (i : ℕ) (p : Pair) → i < length m → p ≡ get_or m i p → key_cmp o k p.key ≡ Less → Behind o k m i → GoesBefore o k m i
goes_before o k m i p inside is less so_far = record {
  inside = omega arith;
  inserted = λ new e.
      let here = split_at m i p inside is in
      let step : put o new (p ∷ drop (i + 1) m) ≡ new ∷ p ∷ drop (i + 1) m =
      put_at o k new p (drop (i + 1) m) e ∙ ap (λ c. put_by c new p (drop (i + 1) m) (put o new (drop (i + 1) m))) less in
      sym (so_far.deeper new e) ∙ ap (λ w. take i m ++ w) (ap (put o new) here ∙ step ∙ ap (λ w. new ∷ w) (sym here));
}

pub goes_at : (o : Order) (k : List ℕ) (m : List Pair) (i : ℕ) (p : Pair) → i < length m → p ≡ get_or m i p → key_cmp o k p.key ≡ Equal → Behind o k m i → GoesAt o k m i
goes_at o k m i p inside is equal so_far = record {
  inside = inside;
  replaced = λ new e.
      let here = split_at m i p inside is in
      let step : put o new (p ∷ drop (i + 1) m) ≡ new ∷ drop (i + 1) m =
      put_at o k new p (drop (i + 1) m) e ∙ ap (λ c. put_by c new p (drop (i + 1) m) (put o new (drop (i + 1) m))) equal in
      sym (so_far.deeper new e) ∙ ap (λ w. take i m ++ w) (ap (put o new) here ∙ step) ∙ sym (set_split m i new inside ∙ ap (λ j. take i m ++ new ∷ drop j m) (sym (add-one i)));
}

pub goes_last : (o : Order) (k : List ℕ) (m : List Pair) (i : ℕ) → i ≡ length m → Behind o k m i → GoesBefore o k m i
goes_last o k m i last so_far = record {
  inside = omega arith;
  inserted = λ new e.
      let none : drop i m ≡ [] = drop_of_length-le m (omega arith) in
      sym (so_far.deeper new e) ∙ ap (λ w. take i m ++ w) (ap (put o new) none ∙ ap (λ w. new ∷ w) (sym none));
}

last_added : (o : Order) (b : Bound) (m : List Pair) (p : Pair) → reaches o Down b p.key ≡ true → last_within o b (m ++ p ∷ []) ≡ Some p
last_added o b [] p e = rw e refl
last_added o b (q ∷ m) p e = rw (last_added o b m p e) refl

last_passed : (o : Order) (b : Bound) (m : List Pair) (p : Pair) → reaches o Down b p.key ≡ false → last_within o b (m ++ p ∷ []) ≡ last_within o b m
last_passed o b [] p e = rw e refl
last_passed o b (q ∷ m) p e = rw (last_passed o b m p e) refl

front_more : (m : List Pair) (i : ℕ) (p : Pair) → 0 < i → i ≤ length m → p ≡ get_or m (i - 1) p → take i m ≡ take (i - 1) m ++ p ∷ []
front_more m i p some inside is =
    let back : i - 1 + 1 ≡ i = omega arith in
    ap (λ j. take j m) (sym back) ∙ take_more m (i - 1) p (omega arith) ∙ ap (λ q. take (i - 1) m ++ q ∷ []) (sym is)

pub last_here : (o : Order) (b : Bound) (m : List Pair) (i : ℕ) (p : Pair) → 0 < i → i ≤ length m → p ≡ get_or m (i - 1) p → reaches o Down b p.key ≡ true
    → last_within o b (take i m) ≡ last_within o b m → Some p ≡ last_within o b m
last_here o b m i p some inside is within so_far =
    sym (last_added o b (take (i - 1) m) p within) ∙ ap (last_within o b) (sym (front_more m i p some inside is)) ∙ so_far

pub last_before : (o : Order) (b : Bound) (m : List Pair) (i : ℕ) (p : Pair) → 0 < i → i ≤ length m → p ≡ get_or m (i - 1) p → reaches o Down b p.key ≡ false
    → last_within o b (take i m) ≡ last_within o b m → last_within o b (take (i - 1) m) ≡ last_within o b m
last_before o b m i p some inside is past so_far =
    sym (last_passed o b (take (i - 1) m) p past) ∙ ap (last_within o b) (sym (front_more m i p some inside is)) ∙ so_far
