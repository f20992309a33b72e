-- A record with its links is read in one way.
use Rattle.std.proofs.Common.{◌≡◌, inl, inr, ℕ, zero, suc, ◌+◌, ◌*◌, ◌-◌, ◌<◌, ◌≤◌, ◌^◌, List, [], ◌∷◌, ◌++◌, length, get_or, take, drop, refl, sym, ap, subst, ◌∙◌, append_assoc, length-append, length-drop, arith}
use Rattle.std.specs.Int.{w32, w64, to_be_bytes, from_be_bytes}
use Rattle.std.proofs.lemmas.List.{take_at, drop_at, take_all, take-append-drop, length-take-le, drop-drop, get_or-take, get_or-drop, get_or_past}
use Rattle.std.proofs.lemmas.Bool.{cases_lt}
use Rattle.std.proofs.lemmas.Nat.{be_bytes_8, from_be_bytes-to_be_bytes_8}
use Rattle.std.proofs.Math.Seq.{take-add}
use Rattle.tk_model.specs.RecordText.{record_text, BeginsWith}
use Rattle.tk_model.specs.declared.record.Pair.{Pair}
use Rattle.tk_model.proofs.RecordTexts.{length-record, record_same}
use Rattle.tk_block.specs.Number.{u64_in}
use Rattle.tk_block.specs.Text.{check_number, checked}
use Rattle.tk_block.proofs.Grammar.{worth_fits}
use Rattle.tk_append.specs.Pieces.{words_text}
use Rattle.tk_skipfile.specs.Opening.{Linked, linked_size, spelled, AreWords}
use Rattle.tk_skipfile.specs.Walking.{words_in, BeginsLinked}
use Rattle.tk_skipfile.proofs.TextSteps.{length-checked, length-words}
use Rattle.tk_skipfile.proofs.Judging.{length-words_in}

pub length-spelled : (x : Linked) (place : ℕ) → length (spelled x place) ≡ linked_size x
length-spelled x place = omega (arith, length-checked (words_text x.links ++ record_text x.pair) place, length-append (words_text x.links) (record_text x.pair), length-words x.links, length-record x.pair)

-- ---- numbers of eight bytes

abbrev pub AreBytes : List ℕ → Type 0
AreBytes bytes = (i : ℕ) → get_or bytes i 0 < 256

eight_bytes : (bytes : List ℕ) (at n i : ℕ) → AreBytes bytes → get_or (take n (drop at bytes)) i 0 < 256
eight_bytes bytes at n i fit = elim (cases_lt i n) [
  | inl less ↦ subst (λ (k : ℕ). k < 256) (sym (get_or-take n (drop at bytes) i 0 less ∙ get_or-drop at bytes i 0)) (fit (at + i))
  | inr more ↦ elim (cases_lt i (length (take n (drop at bytes)))) [
    | inl within ↦ absurd (omega (arith, within, more, short n (drop at bytes)))
    | inr past ↦ subst (λ (k : ℕ). k < 256) (sym (get_or_past (take n (drop at bytes)) i 0 past)) (omega arith)
  ]
]
  where
    short : (n : ℕ) (xs : List ℕ) → length (take n xs) ≤ n
    short zero xs = omega arith
    short (suc n) [] = omega arith
    short (suc n) (x ∷ xs) = omega (arith, short n xs)

u64_back : (bytes : List ℕ) (at : ℕ) → AreBytes bytes → at + 8 ≤ length bytes → to_be_bytes w64 (u64_in bytes at) ≡ take 8 (drop at bytes)
unfolding u64_in
u64_back bytes at fit long = be_bytes_8 (take 8 (drop at bytes)) (from_be_bytes w64 (take 8 (drop at bytes))) (length-take-le 8 (drop at bytes) (omega (arith, length-drop at bytes))) (λ i. eight_bytes bytes at 8 i fit) refl

u64_small : (bytes : List ℕ) (at : ℕ) → AreBytes bytes → at + 8 ≤ length bytes → u64_in bytes at < 2 ^ 64
unfolding u64_in
u64_small bytes at fit long =
    let back : to_be_bytes w64 (from_be_bytes w64 (take 8 (drop at bytes))) ≡ take 8 (drop at bytes) =
    be_bytes_8 (take 8 (drop at bytes)) (from_be_bytes w64 (take 8 (drop at bytes))) (length-take-le 8 (drop at bytes) (omega (arith, length-drop at bytes))) (λ i. eight_bytes bytes at 8 i fit) refl in
    subst (λ (l : List ℕ). from_be_bytes w64 l < 2 ^ 64) back (worth_fits (from_be_bytes w64 (take 8 (drop at bytes))))

pub words_back : (n at : ℕ) (bytes : List ℕ) → AreBytes bytes → at + 8 * n ≤ length bytes → words_text (words_in n at bytes) ≡ take (8 * n) (drop at bytes)
words_back zero at bytes fit long = refl
words_back (suc n) at bytes fit long =
    ap (λ (l : List ℕ). l ++ words_text (words_in n (at + 8) bytes)) (u64_back bytes at fit (omega arith))
    ∙ ap (λ (l : List ℕ). take 8 (drop at bytes) ++ l) (words_back n (at + 8) bytes fit (omega arith) ∙ ap (take (8 * n)) (sym (drop-drop 8 at bytes)))
    ∙ sym (take-add 8 (8 * n) (drop at bytes))
    ∙ ap (λ (k : ℕ). take k (drop at bytes)) (let e : 8 + 8 * n ≡ 8 * suc n = omega arith in e)

pub words_small : (n at : ℕ) (bytes : List ℕ) → AreBytes bytes → at + 8 * n ≤ length bytes → AreWords (words_in n at bytes)
words_small zero at bytes fit long = tt
words_small (suc n) at bytes fit long = (u64_small bytes at fit (omega arith), words_small n (at + 8) bytes fit (omega arith))

-- ---- a record that was found

-- the links, the record, its check, and the rest
pub linked_found : (bytes tail rest : List ℕ) (height place : ℕ) (p : Pair) → AreBytes bytes → 8 * height ≤ length bytes → tail ≡ drop (8 * height) bytes → BeginsWith tail p rest
    → length p.value ≤ 33554431 → 4 ≤ length rest → take 4 rest ≡ to_be_bytes w32 (check_number (take (length bytes - length rest) bytes) place)
    → BeginsLinked height place bytes (record { links = words_in height 0 (take (8 * height) bytes); pair = p }) (drop 4 rest)
unfolding checked
linked_found bytes tail rest height place p fit long behind begins value four check =
    let s = 8 * height in
    let front = take s bytes in
    let fit_front : AreBytes front = λ i. eight_bytes bytes 0 s i fit in
    let size : length front ≡ s = length-take-le s bytes long in
    let words : words_text (words_in height 0 front) ≡ front =
    words_back height 0 front fit_front (omega (arith, size)) ∙ take_all s front (omega (arith, size)) in
    let whole : bytes ≡ (front ++ record_text p) ++ rest =
    sym (take-append-drop s bytes) ∙ ap (λ (l : List ℕ). front ++ l) (sym behind ∙ begins.spelled) ∙ sym (append_assoc front (record_text p) rest) in
    let text : take (length bytes - length rest) bytes ≡ front ++ record_text p =
    ap (take (length bytes - length rest)) whole ∙ take_at (front ++ record_text p) rest (length bytes - length rest) (omega (arith, ap length whole, length-append (front ++ record_text p) rest)) in
    let both : words_text (words_in height 0 front) ++ record_text p ≡ front ++ record_text p = ap (λ (l : List ℕ). l ++ record_text p) words in
    record {
      count = length-words_in height 0 front;
      words = words_small height 0 front fit_front (omega (arith, size));
      key = begins.fits.key;
      value = value;
      text = whole
          ∙ ap (λ (l : List ℕ). (front ++ record_text p) ++ l) (sym (take-append-drop 4 rest) ∙ ap (λ (l : List ℕ). l ++ drop 4 rest) (check ∙ ap (λ (l : List ℕ). to_be_bytes w32 (check_number l place)) text))
          ∙ sym (append_assoc (front ++ record_text p) (to_be_bytes w32 (check_number (front ++ record_text p) place)) (drop 4 rest))
          ∙ sym (ap (λ (l : List ℕ). (l ++ to_be_bytes w32 (check_number l place)) ++ drop 4 rest) both);
    }

-- ---- a record that stands there is found

module _ (height place : ℕ) (bytes : List ℕ) (x : Linked) (r : List ℕ) (b : BeginsLinked height place bytes x r) where
  abbrev pub check_of : List ℕ
  check_of = to_be_bytes w32 (check_number (words_text x.links ++ record_text x.pair) place)

  stands : bytes ≡ (words_text x.links ++ record_text x.pair) ++ (check_of ++ r)
  unfolding checked
  stands = b.text ∙ append_assoc (words_text x.links ++ record_text x.pair) (to_be_bytes w32 (check_number (words_text x.links ++ record_text x.pair) place)) r

  words_long : length (words_text x.links) ≡ 8 * height
  words_long = omega (arith, length-words x.links, b.count)

  pub links_there : length bytes < 8 * height → ⊥
  links_there short = omega (arith, short, ap length b.text, length-append (spelled x place) r, length-spelled x place, b.count)

  -- the record, behind the links
  pub record_there : (tail : List ℕ) → tail ≡ drop (8 * height) bytes → BeginsWith tail x.pair (check_of ++ r)
  record_there tail is = record {
    fits = record { key = b.key; value = omega (arith, b.value) };
    spelled = is ∙ ap (drop (8 * height)) (stands ∙ append_assoc (words_text x.links) (record_text x.pair) (check_of ++ r)) ∙ drop_at (words_text x.links) (record_text x.pair ++ (check_of ++ r)) (8 * height) words_long;
  }

  -- the one that was found there
  pub found_same : (tail : List ℕ) (p : Pair) (rest : List ℕ) → tail ≡ drop (8 * height) bytes → BeginsWith tail p rest → (p ≡ x.pair) × (rest ≡ check_of ++ r)
  found_same tail p rest is begins =
      let there = record_there tail is in
      record_same p x.pair rest (check_of ++ r) begins.fits there.fits (sym begins.spelled ∙ there.spelled)

  pub value_short : (p : Pair) → p ≡ x.pair → 33554431 < length p.value → ⊥
  value_short p is long = omega (arith, b.value, long, ap (λ (q : Pair). length q.value) is)

  pub check_there : (rest : List ℕ) → rest ≡ check_of ++ r → length rest < 4 → ⊥
  check_there rest is short = omega (arith, ap length is, short)

  pub check_right : (rest : List ℕ) → rest ≡ check_of ++ r → take 4 rest ≡ to_be_bytes w32 (check_number (take (length bytes - length rest) bytes) place)
  check_right rest is =
      let text = words_text x.links ++ record_text x.pair in
      let front : take (length bytes - length rest) bytes ≡ text =
      ap (take (length bytes - length rest)) stands ∙ take_at text (check_of ++ r) (length bytes - length rest) (omega (arith, ap length is, ap length stands, length-append text (check_of ++ r))) in
      ap (take 4) is ∙ ap (λ (l : List ℕ). to_be_bytes w32 (check_number l place)) (sym front)

-- two records with as many links begin in one way
pub linked_once : (height place : ℕ) (bytes : List ℕ) (x y : Linked) (r s : List ℕ) → BeginsLinked height place bytes x r → BeginsLinked height place bytes y s → (x ≡ y) × (r ≡ s)
linked_once height place bytes x y r s a b =
    let one = record_there height place bytes x r a (drop (8 * height) bytes) refl in
    let pairs = found_same height place bytes y s b (drop (8 * height) bytes) x.pair (check_of height place bytes x r a ++ r) refl one in
    let words : words_text x.links ≡ words_text y.links =
    sym (take_at (words_text x.links) (record_text x.pair ++ (check_of height place bytes x r a ++ r)) (8 * height) (words_long height place bytes x r a))
    ∙ ap (take (8 * height)) (sym (apart_text height place bytes x r a) ∙ apart_text height place bytes y s b)
    ∙ take_at (words_text y.links) (record_text y.pair ++ (check_of height place bytes y s b ++ s)) (8 * height) (words_long height place bytes y s b) in
    let links : x.links ≡ y.links = words_once x.links y.links (a.count ∙ sym b.count) a.words b.words words in (
      ap (λ (l : List ℕ). record { links = l; pair = x.pair }) links ∙ ap (λ (p : Pair). record { links = y.links; pair = p }) pairs.0,
      sym (drop_at (check_of height place bytes x r a) r 4 refl) ∙ ap (drop 4) pairs.1 ∙ drop_at (check_of height place bytes y s b) s 4 refl,
    )
  where
    apart_text : (height place : ℕ) (bytes : List ℕ) (x : Linked) (r : List ℕ) (a : BeginsLinked height place bytes x r) → bytes ≡ words_text x.links ++ (record_text x.pair ++ (check_of height place bytes x r a ++ r))
    apart_text height place bytes x r a = stands height place bytes x r a ∙ append_assoc (words_text x.links) (record_text x.pair) (check_of height place bytes x r a ++ r)

    words_once : (xs ys : List ℕ) → length xs ≡ length ys → AreWords xs → AreWords ys → words_text xs ≡ words_text ys → xs ≡ ys
    words_once [] [] same a b text = refl
    words_once [] (y ∷ ys) same a b text = absurd (omega (arith, same))
    words_once (x ∷ xs) [] same a b text = absurd (omega (arith, same))
    words_once (x ∷ xs) (y ∷ ys) same a b text =
        let first : to_be_bytes w64 x ≡ to_be_bytes w64 y =
        sym (take_at (to_be_bytes w64 x) (words_text xs) 8 refl) ∙ ap (take 8) text ∙ take_at (to_be_bytes w64 y) (words_text ys) 8 refl in
        let one : x ≡ y = sym (from_be_bytes-to_be_bytes_8 x a.0) ∙ ap (from_be_bytes w64) first ∙ from_be_bytes-to_be_bytes_8 y b.0 in
        let others : xs ≡ ys = words_once xs ys (omega (arith, same)) a.1 b.1
        (sym (drop_at (to_be_bytes w64 x) (words_text xs) 8 refl) ∙ ap (drop 8) text ∙ drop_at (to_be_bytes w64 y) (words_text ys) 8 refl) in
        ap (λ (n : ℕ). n ∷ xs) one ∙ ap (λ (l : List ℕ). y ∷ l) others
