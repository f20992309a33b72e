-- Links that are followed one by one.
use Rattle.std.proofs.Common.{◌≡◌, ◌≢◌, ◌⊎◌, inl, inr, ℕ, ◌+◌, ◌*◌, ◌/◌, ◌<◌, ◌≤◌, ◌^◌, List, [], ◌∷◌, ◌++◌, suc, length, take, drop, refl, sym, ◌∙◌, ap, subst, arith, append_assoc, length-append}
use Rattle.std.specs.Prelude.{min, Option, Some, None, IfSome, Bool, true, false, eqb, ◌||◌}
use Rattle.std.specs.List.{IsDistinct, AllByRecursion, list_any}
use Rattle.std.proofs.lemmas.Bool.{ne_eqb, eqb-true}
use Rattle.std.proofs.lemmas.List.{append-nil}
use Rattle.std.proofs.lemmas.Map.Steps.{length-le_from_distinct_below}
use Rattle.std.specs.Int.{w64, from_be_bytes}
use Rattle.tk_disk.specs.Disk.{ReadsFrom}
use Rattle.tk_block.specs.Number.{u64_in}
use Rattle.tk_block.specs.declared.head.StaticHead.{StaticHead}
use Rattle.tk_buckets.specs.Chain.{IsApart, IsLinked, extent_in, link_in}
use Rattle.tk_buckets.proofs.Links.{whole_long}

read_whole : (f : List ℕ) (at n : ℕ) (into : List ℕ) → ReadsFrom f at into n → length into ≡ 8 → at + 8 ≤ length f → u64_in into 0 ≡ u64_in f at
unfolding u64_in
read_whole f at n into reads long within =
    let all : n ≡ 8 = reads.count ∙ omega (arith, long, within) in
    ap (λ (l : List ℕ). from_be_bytes w64 l) (subst (λ (k : ℕ). take k into ≡ take k (drop at f)) all reads.bytes)

-- the number that a whole read of eight bytes gives
pub number_read : (o : Option (List ℕ)) (at n number : ℕ) (into : List ℕ) → IfSome o (λ f. ReadsFrom f at into n) → length into ≡ 8 → number ≡ u64_in into 0 → IfSome o (λ f. at + 8 ≤ length f → number ≡ u64_in f at)
number_read None at n number into reads long is = tt
number_read (Some f) at n number into reads long is = λ within. is ∙ read_whole f at n into reads long within

-- Blocks that stand apart are no more than fit.

slot_ne : (q r e x : ℕ) → 48 ≤ e → 48 ≤ x → (q + e ≤ r) ⊎ (r + x ≤ q) → q / 48 ≢ r / 48
slot_ne q r e x long other (inl before) = λ is. omega (arith, before, long, is)
slot_ne q r e x long other (inr past) = λ is. omega (arith, past, other, is)

or_cases : (a b : Bool) → (a || b) ≡ true → (a ≡ true) ⊎ (b ≡ true)
or_cases true b is = inl refl
or_cases false b is = inr is

module _ (h : StaticHead) (f : List ℕ) where
  abbrev slots : List ℕ → List ℕ
  slots [] = []
  slots (q ∷ qs) = q / 48 ∷ slots qs

  apart_slots : (q first : ℕ) (qs : List ℕ) → 48 ≤ extent_in f q → IsApart f q qs → IsLinked h f first qs → AllByRecursion (λ y. eqb (q / 48) y ≡ false) (slots qs)
  apart_slots q first [] long apart linked = tt
  apart_slots q first (r ∷ rs) long apart linked =
      (ne_eqb _ _ (slot_ne q r _ _ long (whole_long h f r linked.1) apart.0), apart_slots q (link_in f r) rs long apart.1 linked.3)

  distinct_slots : (first : ℕ) (qs : List ℕ) → IsLinked h f first qs → IsDistinct eqb (slots qs)
  unfolding IsDistinct
  distinct_slots first [] linked = tt
  distinct_slots first (q ∷ qs) linked = (apart_slots q (link_in f q) qs (whole_long h f q linked.1) linked.2 linked.3, distinct_slots (link_in f q) qs linked.3)

  length-slots : (qs : List ℕ) → length (slots qs) ≡ length qs
  length-slots [] = refl
  length-slots (q ∷ qs) = ap suc (length-slots qs)

  slots_below : (first : ℕ) (qs : List ℕ) → IsLinked h f first qs → (s : ℕ) → list_any (eqb s) (slots qs) ≡ true → s < length f / 48
  slots_below first [] linked s some = absurd (cc (some))
  slots_below first (q ∷ qs) linked s some = elim (or_cases (eqb s (q / 48)) (list_any (eqb s) (slots qs)) some) [
    | inl here ↦ omega (arith, eqb-true s (q / 48) here, whole_long h f q linked.1, linked.1.within)
    | inr behind ↦ slots_below (link_in f q) qs linked.3 s behind
  ]

  -- how many blocks a chain has at most
  pub linked_few : (first : ℕ) (qs : List ℕ) → IsLinked h f first qs → length qs ≤ length f / 48
  linked_few first qs linked = omega (arith, length-slots qs, length-le_from_distinct_below (slots qs) (length f / 48) (distinct_slots first qs linked) (slots_below first qs linked))

  -- places that were followed, and the rest of the chain
  pub record Left (done places : List ℕ) (next : ℕ) : Type 0 where
    pub rest : List ℕ
    pub is : places ≡ done ++ rest
    pub linked : IsLinked h f next rest

  one_more : (done places rest : List ℕ) (next n : ℕ) → next ≢ 0 → places ≡ done ++ rest → IsLinked h f next rest → (next + 24 ≤ length f → n ≡ link_in f next) → Left (done ++ next ∷ []) places n
  one_more done places [] next n ne is linked gives = absurd (ne linked)
  one_more done places (q ∷ qs) next n ne is linked gives =
      let same : next ≡ q = linked.0 in
      let within : next + 24 ≤ length f = omega (arith, same, linked.1.within, whole_long h f q linked.1) in
      record {
        rest = qs;
        is = is ∙ ap (λ (k : ℕ). done ++ k ∷ qs) (sym same) ∙ sym (append_assoc done (next ∷ []) qs);
        linked = subst (λ (k : ℕ). IsLinked h f k qs) (sym (gives within ∙ ap (λ (k : ℕ). link_in f k) same)) linked.3;
      }

  some_left : (rest : List ℕ) (next : ℕ) → next ≢ 0 → IsLinked h f next rest → 1 ≤ length rest
  some_left [] next ne linked = absurd (ne linked)
  some_left (q ∷ qs) next ne linked = omega arith

  none_left : (done places rest : List ℕ) (first next : ℕ) → places ≡ done ++ rest → IsLinked h f first places → IsLinked h f next rest → (next ≡ 0) ⊎ (length f / 48 ≤ length done) → done ≡ places
  none_left done places [] first next is all linked over = sym (is ∙ append-nil done)
  none_left done places (q ∷ qs) first next is all linked (inl zero_next) = absurd (omega (arith, zero_next, linked.0, linked.1.behind))
  none_left done places (q ∷ qs) first next is all linked (inr full) = absurd (omega (arith, full, linked_few first places all, ap length is, length-append done (q ∷ qs)))

-- what is left, where the disk tells the file
abbrev pub ToldLeft : StaticHead → Option (List ℕ) → (first : ℕ) → (places done : List ℕ) → (next : ℕ) → Type 0
ToldLeft h o first places done next = IfSome o (λ f. IsLinked h f first places → Left h f done places next)

pub begins : (h : StaticHead) (o : Option (List ℕ)) (first : ℕ) (places : List ℕ) → ToldLeft h o first places [] first
begins h None first places = tt
begins h (Some f) first places = λ linked. record { rest = places; is = refl; linked = linked }

pub goes_on : (h : StaticHead) (o : Option (List ℕ)) (first : ℕ) (places done : List ℕ) (len at next n : ℕ) → IfSome o (λ f. length f ≤ len) → len < 2 ^ 64 → at ≡ min (next + 16) 18446744073709551615 → next ≢ 0
    → IfSome o (λ f. at + 8 ≤ length f → n ≡ u64_in f at) → ToldLeft h o first places done next → ToldLeft h o first places (done ++ next ∷ []) n
goes_on h None first places done len at next n long small cell ne value left = tt
goes_on h (Some f) first places done len at next n long small cell ne value left = λ linked.
    let l = left linked in
    one_more h f done places l.rest next n ne l.is l.linked
    (λ within. let is : at ≡ next + 16 = omega (arith, cell, within, long, small) in value (omega (arith, is, within)) ∙ ap (λ (k : ℕ). u64_in f k) is)

over_file : (len long next n : ℕ) → long ≤ len → (next ≡ 0) ⊎ (len / 48 ≤ n) → (next ≡ 0) ⊎ (long / 48 ≤ n)
over_file len long next n fits (inl none) = inl none
over_file len long next n fits (inr full) = inr (omega (arith, fits, full))

pub ends : (h : StaticHead) (o : Option (List ℕ)) (first : ℕ) (places done : List ℕ) (len next : ℕ) → IfSome o (λ f. length f ≤ len) → (next ≡ 0) ⊎ (len / 48 ≤ length done) → ToldLeft h o first places done next
    → IfSome o (λ f. IsLinked h f first places → done ≡ places)
ends h None first places done len next long over left = tt
ends h (Some f) first places done len next long over left = λ linked.
    let l = left linked in
    none_left h f done places l.rest first next l.is linked l.linked (over_file len (length f) next (length done) long over)

pub taken_so_far : (h : StaticHead) (o : Option (List ℕ)) (first : ℕ) (places done : List ℕ) (before now next : ℕ) → now ≤ before + 8 * length done → ToldLeft h o first places done next
    → IfSome o (λ f. IsLinked h f first places → now ≤ before + 8 * length places)
taken_so_far h None first places done before now next most left = tt
taken_so_far h (Some f) first places done before now next most left = λ linked. let l = left linked in omega (arith, most, ap length l.is, length-append done l.rest)

pub taken_one_more : (h : StaticHead) (o : Option (List ℕ)) (first : ℕ) (places done : List ℕ) (before now next : ℕ) → next ≢ 0 → now ≤ before + 8 * length done + 8 → ToldLeft h o first places done next
    → IfSome o (λ f. IsLinked h f first places → now ≤ before + 8 * length places)
taken_one_more h None first places done before now next ne most left = tt
taken_one_more h (Some f) first places done before now next ne most left = λ linked.
    let l = left linked in omega (arith, most, ap length l.is, length-append done l.rest, some_left h f l.rest next ne l.linked)
