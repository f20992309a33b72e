-- A walk over records, one record more.
use Rattle.std.proofs.Common.{◌≡◌, ◌≢◌, ◌⊎◌, inl, inr, ℕ, suc, ◌+◌, ◌-◌, ◌*◌, ◌<◌, ◌≤◌, ◌^◌, ◌%◌, List, [], ◌∷◌, ◌++◌, length, get_or, refl, sym, ap, subst, ◌∙◌, append_assoc, length-append, arith}
use Rattle.std.specs.declared.cmp.Ordering.TheVariants.{Less}
use Rattle.std.proofs.lemmas.List.{append-nil, length_push}
use Rattle.tk_model.specs.Orders.{key_cmp}
use Rattle.tk_model.specs.Records.{AllHeld, AllBehind, Rising}
use Rattle.tk_model.specs.declared.record.Order.TheVariants.{Bytes}
use Rattle.tk_model.specs.declared.record.Pair.{Pair}
use Rattle.tk_model.proofs.KeyOrders.{keys_total}
use Rattle.tk_skipfile.specs.SkipText.{header_size, levels_of, height}
use Rattle.tk_skipfile.specs.Opening.{Linked, linked_size, spelled, spelled_from, spelled_end, known_places, pairs_in, rows_in, AreWords, HaveLinks, Stand, Stops}
use Rattle.tk_skipfile.specs.Walking.{BeginsLinked, linked_of, EndsWith, IsAt, ComesNext, Takes, Follows, MeetsAll}
use Rattle.tk_skipfile.specs.declared.here.LinkedHere.{LinkedHere}
use Rattle.tk_skipfile.specs.declared.walker.Walker.{Walker}
use Rattle.tk_skipfile.proofs.Judging.{height_divides, length-words_in}
use Rattle.tk_skipfile.proofs.Spelled.{length-spelled, linked_once}

-- ---- lists of records

pub pairs_more : (xs ys : List Linked) → pairs_in (xs ++ ys) ≡ pairs_in xs ++ pairs_in ys
pairs_more [] ys = refl
pairs_more (x ∷ xs) ys = ap (λ (l : List Pair). x.pair ∷ l) (pairs_more xs ys)

pub rows_more : (xs ys : List Linked) → rows_in (xs ++ ys) ≡ rows_in xs ++ rows_in ys
rows_more [] ys = refl
rows_more (x ∷ xs) ys = ap (λ (l : List (List ℕ)). x.links ∷ l) (rows_more xs ys)

pub length-rows : (xs : List Linked) → length (rows_in xs) ≡ length xs
length-rows [] = refl
length-rows (x ∷ xs) = ap suc (length-rows xs)

pub length-pairs : (xs : List Linked) → length (pairs_in xs) ≡ length xs
length-pairs [] = refl
length-pairs (x ∷ xs) = ap suc (length-pairs xs)

pub length-places : (place : ℕ) (xs : List Linked) → length (known_places place xs) ≡ length xs + 1
length-places place [] = refl
length-places place (x ∷ xs) = omega (arith, length-places (place + linked_size x) xs)

pub end_more : (place : ℕ) (xs : List Linked) (x : Linked) → spelled_end place (xs ++ x ∷ []) ≡ spelled_end place xs + linked_size x
end_more place [] x = refl
end_more place (y ∷ ys) x = end_more (place + linked_size y) ys x

pub places_more : (place : ℕ) (xs : List Linked) (x : Linked) → known_places place (xs ++ x ∷ []) ≡ known_places place xs ++ (spelled_end place xs + linked_size x) ∷ []
places_more place [] x = refl
places_more place (y ∷ ys) x = ap (λ (l : List ℕ). place ∷ l) (places_more (place + linked_size y) ys x)

pub last_place : (place : ℕ) (xs : List Linked) → get_or (known_places place xs) (length xs) 0 ≡ spelled_end place xs
last_place place [] = refl
last_place place (x ∷ xs) = last_place (place + linked_size x) xs

pub spelled_more : (place : ℕ) (xs ys : List Linked) → spelled_from place (xs ++ ys) ≡ spelled_from place xs ++ spelled_from (spelled_end place xs) ys
spelled_more place [] ys = refl
spelled_more place (x ∷ xs) ys =
    ap (λ (l : List ℕ). spelled x place ++ l) (spelled_more (place + linked_size x) xs ys)
    ∙ sym (append_assoc (spelled x place) (spelled_from (place + linked_size x) xs) (spelled_from (spelled_end (place + linked_size x) xs) ys))

pub length-spelled_from : (place : ℕ) (xs : List Linked) → place + length (spelled_from place xs) ≡ spelled_end place xs
length-spelled_from place [] = omega arith
length-spelled_from place (x ∷ xs) =
    omega (arith, length-append (spelled x place) (spelled_from (place + linked_size x) xs), length-spelled x place, length-spelled_from (place + linked_size x) xs)

-- ---- what a record more keeps

held_more : (ps : List Pair) (p : Pair) → AllHeld ps → length p.key ≤ 65535 → length p.value ≤ 33554431 → AllHeld (ps ++ p ∷ [])
held_more [] p held key value = (key, value, tt)
held_more (q ∷ qs) p held key value = (held.0, held.1, held_more qs p held.2 key value)

held_last : (ps : List Pair) (p : Pair) → AllHeld (ps ++ p ∷ []) → (length p.key ≤ 65535) × (length p.value ≤ 33554431)
held_last [] p held = (held.0, held.1)
held_last (q ∷ qs) p held = held_last qs p held.2

held_front : (ps qs : List Pair) → AllHeld (ps ++ qs) → AllHeld ps
held_front [] qs held = tt
held_front (p ∷ ps) qs held = (held.0, held.1, held_front ps qs held.2)

behind_more : (k : List ℕ) (ps : List Pair) (p : Pair) → AllBehind Bytes k ps → key_cmp Bytes k p.key ≡ Less → AllBehind Bytes k (ps ++ p ∷ [])
behind_more k [] p all last = (last, tt)
behind_more k (q ∷ qs) p all last = (all.0, behind_more k qs p all.1 last)

behind_front : (k : List ℕ) (ps qs : List Pair) → AllBehind Bytes k (ps ++ qs) → AllBehind Bytes k ps
behind_front k [] qs all = tt
behind_front k (p ∷ ps) qs all = (all.0, behind_front k ps qs all.1)

rising_front : (ps qs : List Pair) → Rising Bytes (ps ++ qs) → Rising Bytes ps
rising_front [] qs rising = tt
rising_front (p ∷ ps) qs rising = (behind_front p.key ps qs rising.0, rising_front ps qs rising.1)

-- all of them come before what comes behind the last
before_next : (k : List ℕ) (q : Pair) (qs : List Pair) (last : List ℕ) (p : Pair) → AllBehind Bytes k (q ∷ qs) → EndsWith (q ∷ qs) last → key_cmp Bytes last p.key ≡ Less → key_cmp Bytes k p.key ≡ Less
before_next k q [] last p all ends less = (keys_total Bytes).trans k q.key p.key all.0 (subst (λ (j : List ℕ). key_cmp Bytes j p.key ≡ Less) (sym ends) less)
before_next k q (r ∷ rs) last p all ends less = before_next k r rs last p all.1 ends less

rising_more : (ps : List Pair) (last : List ℕ) (p : Pair) → Rising Bytes ps → EndsWith ps last → (length ps ≡ 0) ⊎ (key_cmp Bytes last p.key ≡ Less) → Rising Bytes (ps ++ p ∷ [])
rising_more [] last p rising ends less = (tt, tt)
rising_more (q ∷ qs) last p rising ends (inl none) = absurd (omega (arith, none))
rising_more (q ∷ []) last p rising ends (inr less) = ((subst (λ (j : List ℕ). key_cmp Bytes j p.key ≡ Less) (sym ends) less, tt), (tt, tt))
rising_more (q ∷ r ∷ rs) last p rising ends (inr less) =
    (behind_more q.key (r ∷ rs) p rising.0 (before_next q.key r rs last p rising.0 ends less), rising_more (r ∷ rs) last p rising.1 ends (inr less))

rising_last : (ps : List Pair) (last : List ℕ) (p : Pair) → EndsWith ps last → Rising Bytes (ps ++ p ∷ []) → (length ps ≡ 0) ⊎ (key_cmp Bytes last p.key ≡ Less)
rising_last [] last p ends rising = inl refl
rising_last (q ∷ []) last p ends rising = inr (subst (λ (j : List ℕ). key_cmp Bytes j p.key ≡ Less) ends rising.0.0)
rising_last (q ∷ r ∷ rs) last p ends rising = elim (rising_last (r ∷ rs) last p ends rising.1) [
  | inl none ↦ absurd (omega (arith, none))
  | inr less ↦ inr less
]

ends_more : (ps : List Pair) (p : Pair) → EndsWith (ps ++ p ∷ []) p.key
ends_more [] p = refl
ends_more (q ∷ []) p = refl
ends_more (q ∷ r ∷ rs) p = ends_more (r ∷ rs) p

links_more : (levels i n : ℕ) (xs : List Linked) (x : Linked) → HaveLinks levels i xs → i + length xs ≡ n → length x.links ≡ height levels n → AreWords x.links → HaveLinks levels i (xs ++ x ∷ [])
links_more levels i n [] x have at long words = (long ∙ ap (height levels) (omega (arith, at)), words, tt)
links_more levels i n (y ∷ ys) x have at long words = (have.0, have.1, links_more levels (i + 1) n ys x have.2 (omega (arith, at)) long words)

links_last : (levels i n : ℕ) (xs : List Linked) (x : Linked) → HaveLinks levels i (xs ++ x ∷ []) → i + length xs ≡ n → (length x.links ≡ height levels n) × AreWords x.links
links_last levels i n [] x have at = (have.0 ∙ ap (height levels) (omega (arith, at)), have.1)
links_last levels i n (y ∷ ys) x have at = links_last levels (i + 1) n ys x have.2 (omega (arith, at))

links_front : (levels i : ℕ) (xs ys : List Linked) → HaveLinks levels i (xs ++ ys) → HaveLinks levels i xs
links_front levels i [] ys have = tt
links_front levels i (x ∷ xs) ys have = (have.0, have.1, links_front levels (i + 1) xs ys have.2)

pub stand_front : (levels : ℕ) (xs ys : List Linked) → Stand levels (xs ++ ys) → Stand levels xs
stand_front levels xs ys s = record {
  links = links_front levels 0 xs ys s.links;
  held = held_front (pairs_in xs) (pairs_in ys) (subst AllHeld (pairs_more xs ys) s.held);
  rising = rising_front (pairs_in xs) (pairs_in ys) (subst (Rising Bytes) (pairs_more xs ys) s.rising);
}

pub stand_none : (levels : ℕ) → Stand levels []
stand_none levels = record { links = tt; held = tt; rising = tt }

-- ---- the next record

-- a record that begins there, with a key behind the last, may follow
pub may_follow : (xs : List Linked) (w : Walker) (bytes : List ℕ) (x : Linked) (rest : List ℕ) (n : ℕ) → IsAt xs w → n ≡ height w.levels w.index → BeginsLinked n w.place bytes x rest → ComesNext w x.pair.key
    → Stand w.levels (xs ++ x ∷ [])
may_follow xs w bytes x rest n at high b next =
    let s = at.stand in
    subst (λ (k : ℕ). Stand k (xs ++ x ∷ [])) (sym at.levels) (record {
      links = links_more (levels_of w.links.count) 0 (length xs) xs x s.links (omega arith) (b.count ∙ high ∙ ap (λ (k : ℕ). height k w.index) at.levels ∙ ap (height (levels_of w.links.count)) at.index) b.words;
      held = subst AllHeld (sym (pairs_more xs (x ∷ []))) (held_more (pairs_in xs) x.pair s.held b.key b.value);
      rising = subst (Rising Bytes) (sym (pairs_more xs (x ∷ []))) (rising_more (pairs_in xs) w.last x.pair s.rising at.ends
          (elim next [
            | inl none ↦ inl (omega (arith, none, at.index, length-pairs xs))
            | inr less ↦ inr less
          ]));
    })

pub fewer : (xs : List Linked) (w : Walker) → IsAt xs w → w.index ≢ w.links.count → length xs < w.links.count
fewer xs w at other = elim_less (length xs) w.links.count at.within (λ same. other (at.index ∙ same))
  where
    elim_less : (m n : ℕ) → m ≤ n → (m ≡ n → ⊥) → m < n
    elim_less m n le ne = omega (arith, le, ne)

pub all_read : (xs : List Linked) (w : Walker) (bytes : List ℕ) → IsAt xs w → w.index ≡ w.links.count → Stops w.links.count xs bytes
all_read xs w bytes at same = inl (sym at.index ∙ same)

-- where a record may follow, one begins there
begins_there : (xs : List Linked) (w : Walker) (bytes : List ℕ) (x : Linked) (behind : List ℕ) (n : ℕ) → IsAt xs w → n ≡ height w.levels w.index → bytes ≡ spelled x (spelled_end header_size xs) ++ behind → Stand (levels_of w.links.count) (xs ++ x ∷ [])
    → BeginsLinked n w.place bytes x behind
begins_there xs w bytes x behind n at high text s =
    let links = links_last (levels_of w.links.count) 0 (length xs) xs x s.links (omega arith) in
    let held = held_last (pairs_in xs) x.pair (subst AllHeld (pairs_more xs (x ∷ [])) s.held) in
    record {
      count = links.0 ∙ sym (high ∙ ap (λ (k : ℕ). height k w.index) at.levels ∙ ap (height (levels_of w.links.count)) at.index);
      words = links.1;
      key = held.0;
      value = held.1;
      text = text ∙ ap (λ (k : ℕ). spelled x k ++ behind) (sym at.place);
    }

pub none_begins : (xs : List Linked) (w : Walker) (bytes : List ℕ) (n : ℕ) → IsAt xs w → n ≡ height w.levels w.index → ((x : Linked) (rest : List ℕ) → BeginsLinked n w.place bytes x rest → ⊥) → Stops w.links.count xs bytes
none_begins xs w bytes n at high none = inr (λ x behind text s. none x behind (begins_there xs w bytes x behind n at high text s))

comes_next : (xs : List Linked) (w : Walker) (x : Linked) → IsAt xs w → Stand (levels_of w.links.count) (xs ++ x ∷ []) → ComesNext w x.pair.key
comes_next xs w x at s = elim (rising_last (pairs_in xs) w.last x.pair at.ends (subst (Rising Bytes) (pairs_more xs (x ∷ [])) s.rising)) [
  | inl none ↦ inl (omega (arith, none, at.index, length-pairs xs))
  | inr less ↦ inr less
]

-- the record that begins there has a key that may not come next, and it is the only one there
pub none_other : (xs : List Linked) (w : Walker) (bytes : List ℕ) (x : Linked) (rest : List ℕ) (n : ℕ) → IsAt xs w → n ≡ height w.levels w.index → BeginsLinked n w.place bytes x rest → (ComesNext w x.pair.key → ⊥) → Stops w.links.count xs bytes
none_other xs w bytes x rest n at high b none = inr (λ y behind text s.
    let same = linked_once n w.place bytes y x behind rest (begins_there xs w bytes y behind n at high text s) b in
    none (subst (λ (z : Linked). ComesNext w z.pair.key) same.0 (comes_next xs w y at s)))

-- ---- a record is passed

pub record Passes (xs : List Linked) (x : Linked) (old new : Walker) : Type 0 where
  pub levels : new.levels ≡ old.levels
  pub count : new.links.count ≡ old.links.count
  pub index : new.index ≡ old.index + 1
  pub place : new.place ≡ old.place + linked_size x
  pub last : new.last ≡ x.pair.key
  pub links : Follows (rows_in xs ++ x.links ∷ []) (known_places header_size xs ++ new.place ∷ []) new.links

pub passed : (xs : List Linked) (x : Linked) (old new : Walker) → IsAt xs old → Stand old.levels (xs ++ x ∷ []) → length xs < old.links.count → Passes xs x old new → IsAt (xs ++ x ∷ []) new
passed xs x old new at s more p = record {
  levels = p.levels ∙ at.levels ∙ ap levels_of (sym p.count);
  stand = subst (λ (n : ℕ). Stand n (xs ++ x ∷ [])) (at.levels ∙ ap levels_of (sym p.count)) s;
  within = omega (arith, more, length_push xs x, p.count);
  index = omega (arith, p.index, at.index, length_push xs x);
  place = p.place ∙ ap (λ (n : ℕ). n + linked_size x) at.place ∙ sym (end_more header_size xs x);
  ends = subst (λ (ps : List Pair). EndsWith ps new.last) (sym (pairs_more xs (x ∷ []))) (subst (EndsWith (pairs_in xs ++ x.pair ∷ [])) (sym p.last) (ends_more (pairs_in xs) x.pair));
  links = subst (λ (rows : List (List ℕ)). Follows rows (known_places header_size (xs ++ x ∷ [])) new.links) (sym (rows_more xs (x ∷ [])))
      (subst (λ (places : List ℕ). Follows (rows_in xs ++ x.links ∷ []) places new.links)
      (ap (λ (n : ℕ). known_places header_size xs ++ n ∷ []) (p.place ∙ ap (λ (n : ℕ). n + linked_size x) at.place) ∙ sym (places_more header_size xs x)) p.links);
}

-- the links of the next record may be met
pub meets_there : (xs : List Linked) (x : Linked) (w : Walker) (n : ℕ) → IsAt xs w → Stand w.levels (xs ++ x ∷ []) → n ≡ length x.links → MeetsAll (rows_in xs) (known_places header_size xs) n w.index w.place
meets_there xs x w n at s long =
    let links = links_last w.levels 0 (length xs) xs x s.links (omega arith) in
    record {
      before = length-rows xs ∙ sym at.index;
      known = omega (arith, length-places header_size xs, at.index);
      here = ap (λ (k : ℕ). get_or (known_places header_size xs) k 0) at.index ∙ last_place header_size xs ∙ sym at.place;
      divides = λ level less. ap (λ (k : ℕ). k % 4 ^ (1 + level)) at.index ∙ height_divides (w.levels - 1) 1 (length xs) level (omega (arith, less, long, links.0));
    }

-- ---- records are taken

pub takes_none : (xs : List Linked) (w : Walker) (bytes : List ℕ) → IsAt xs w → Takes xs w w bytes bytes
takes_none xs w bytes at = record { more = []; at = subst (λ (l : List Linked). IsAt l w) (sym (append-nil xs)) at; text = refl }

pub takes_more : (xs : List Linked) (old mid new : Walker) (bytes rest behind : List ℕ) (x : Linked) (t : Takes xs old mid bytes rest) → (n : ℕ) → BeginsLinked n mid.place rest x behind → IsAt ((xs ++ t.more) ++ x ∷ []) new → IsAt xs old → Takes xs old new bytes behind
takes_more xs old mid new bytes rest behind x t n b at first = record {
  more = t.more ++ x ∷ [];
  at = subst (λ (l : List Linked). IsAt l new) (append_assoc xs t.more (x ∷ [])) at;
  text =
      let place : spelled_end old.place t.more ≡ mid.place = ends_there xs t.more old.place header_size (first.place) ∙ sym t.at.place in
      t.text ∙ ap (λ (l : List ℕ). spelled_from old.place t.more ++ l) (b.text ∙ ap (λ (k : ℕ). spelled x k ++ behind) (sym place))
      ∙ sym (append_assoc (spelled_from old.place t.more) (spelled x (spelled_end old.place t.more)) behind)
      ∙ ap (λ (l : List ℕ). l ++ behind) (ap (λ (l : List ℕ). spelled_from old.place t.more ++ l) (sym (append-nil (spelled x (spelled_end old.place t.more)))) ∙ sym (spelled_more old.place t.more (x ∷ [])));
}
  where
    ends_there : (xs ys : List Linked) (place start : ℕ) → place ≡ spelled_end start xs → spelled_end place ys ≡ spelled_end start (xs ++ ys)
    ends_there [] ys place start is = ap (λ (n : ℕ). spelled_end n ys) is
    ends_there (x ∷ xs) ys place start is = ends_there xs ys place (start + linked_size x) is

pub takes_shorter : (n place : ℕ) (bytes : List ℕ) (x : Linked) (rest : List ℕ) → BeginsLinked n place bytes x rest → length bytes ≡ linked_size x + length rest
takes_shorter n place bytes x rest b = omega (arith, ap length b.text, length-append (spelled x place) rest, length-spelled x place)

-- the bytes of a record that was found
pub size_is : (here : LinkedHere) → length here.links.now ≡ 8 * here.height → length here.links.now + (6 + length here.key.now + length here.value.now + 4) ≡ linked_size (linked_of here)
size_is here long = omega (arith, long, length-words_in here.height 0 here.links.now)

pub length-rows-more : (xs : List Linked) (x : Linked) → length (rows_in xs ++ x.links ∷ []) ≡ length xs + 1
length-rows-more xs x = omega (arith, length_push (rows_in xs) x.links, length-rows xs)
