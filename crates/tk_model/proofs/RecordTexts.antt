-- The text of a record is read exactly.
use Rattle.std.proofs.Common.{◌≡◌, ℕ, zero, suc, ◌+◌, ◌<◌, ◌≤◌, ◌^◌, Bool, true, false, if◌then◌else◌, List, [], ◌∷◌, ◌++◌, length, take, drop, get_or, Option, Some, None, refl, sym, ap, subst, ◌∙◌, append_assoc, arith, length-append, length-drop, lit<}
use Rattle.std.specs.Prelude.{◌&&◌, nat_le}
use Rattle.std.specs.Int.{w16, w32, to_be_bytes}
use Rattle.std.proofs.lemmas.List.{append-nil, take_at, drop_at, take-append-drop, length-take-le, drop-drop}
use Rattle.std.proofs.lemmas.Bool.Decides.{nat_tests}
use Rattle.std.proofs.lemmas.Option.{cond_some}
use Rattle.std.proofs.lemmas.Nat.{from_be_bytes-to_be_bytes_2, from_be_bytes-to_be_bytes_4, be_bytes_2, be_bytes_4}
use Rattle.std.specs.Prelude.{IfSome}
use Rattle.std.specs.Option.{option_map}
use Rattle.tk_model.specs.declared.record.Pair.{Pair}
use Rattle.tk_model.specs.declared.text.RecordHere.{RecordHere}
use Rattle.tk_model.specs.RecordText.{lengths_text, record_text, FitsRecord, key_length, value_length, record_size, fields_in, record_at, BeginsWith, pair_here, Extends}

pub Extends_same : (a : List ℕ) → Extends a a
Extends_same a = ([], sym (append-nil a))

pub Extends_by : (a b more : List ℕ) → b ≡ a ++ more → Extends a b
Extends_by a b more e = (more, e)

abbrev pub AreBytes : List ℕ → Type 0
AreBytes text = (i : ℕ) → get_or text i 0 < 256

two_true : (a b : Bool) → (a && b) ≡ true → (a ≡ true) × (b ≡ true)
two_true true true h = (refl, refl)
two_true true false h = absurd (cc)
two_true false b h = absurd (cc)

le_so : (m n : ℕ) → nat_le m n ≡ true → m ≤ n
le_so m n h = grind (arith, nat_tests)

so_le : (m n : ℕ) → m ≤ n → nat_le m n ≡ true
so_le m n h = grind (arith, nat_tests)

fit_two : (a b : ℕ) → a < 256 → b < 256 → AreBytes (a ∷ b ∷ [])
fit_two a b fa fb zero = fa
fit_two a b fa fb (suc zero) = fb
fit_two a b fa fb (suc (suc i)) = lit< tt

fit_four : (a b c d : ℕ) → a < 256 → b < 256 → c < 256 → d < 256 → AreBytes (a ∷ b ∷ c ∷ d ∷ [])
fit_four a b c d fa fb fc fd zero = fa
fit_four a b c d fa fb fc fd (suc zero) = fb
fit_four a b c d fa fb fc fd (suc (suc i)) = fit_two c d fc fd i

length-lengths : (p : Pair) → length (lengths_text p) ≡ 6
unfolding lengths_text
length-lengths p = refl

pub length-record : (p : Pair) → length (record_text p) ≡ record_size p
unfolding record_text
length-record p = omega (arith, length-append (lengths_text p) (p.key ++ p.value), length-append p.key p.value, length-lengths p)

-- six bytes are the text of the lengths that they give
front_of : (text : List ℕ) (p : Pair) → AreBytes text → 6 ≤ length text → length p.key ≡ key_length text → length p.value ≡ value_length text → text ≡ lengths_text p ++ drop 6 text
unfolding lengths_text
front_of [] p fit long k v = absurd (omega arith)
front_of (a ∷ []) p fit long k v = absurd (omega arith)
front_of (a ∷ b ∷ []) p fit long k v = absurd (omega arith)
front_of (a ∷ b ∷ c ∷ []) p fit long k v = absurd (omega arith)
front_of (a ∷ b ∷ c ∷ d ∷ []) p fit long k v = absurd (omega arith)
front_of (a ∷ b ∷ c ∷ d ∷ e ∷ []) p fit long k v = absurd (omega arith)
front_of (a ∷ b ∷ c ∷ d ∷ e ∷ f ∷ rest) p fit long k v =
    let two : to_be_bytes w16 (length p.key) ≡ a ∷ b ∷ [] = be_bytes_2 (a ∷ b ∷ []) (length p.key) refl (fit_two a b (fit 0) (fit 1)) k in
    let four : to_be_bytes w32 (length p.value) ≡ c ∷ d ∷ e ∷ f ∷ [] = be_bytes_4 (c ∷ d ∷ e ∷ f ∷ []) (length p.value) refl (fit_four c d e f (fit 2) (fit 3) (fit 4) (fit 5)) v in
    ap (λ (l : List ℕ). (l ++ (c ∷ d ∷ e ∷ f ∷ [])) ++ rest) (sym two) ∙ ap (λ (l : List ℕ). (to_be_bytes w16 (length p.key) ++ l) ++ rest) (sym four)

two_small : (text : List ℕ) → AreBytes text → key_length text ≤ 65535
two_small text fit = omega (arith, fit 0, fit 1)

four_small : (text : List ℕ) → AreBytes text → value_length text < 2 ^ 32
four_small text fit = omega (arith, fit 2, fit 3, fit 4, fit 5)

pub record_found : (text : List ℕ) (p : Pair) → AreBytes text → record_at text ≡ Some p → FitsRecord p × (text ≡ record_text p ++ drop (record_size p) text)
unfolding record_at record_text
record_found text p bytes h =
    let parts = cond_some _ _ _ h in
    let tests = two_true _ _ parts.0 in
    let six : 6 ≤ length text = le_so _ _ tests.0 in
    let long : 6 + (key_length text + value_length text) ≤ length text = le_so _ _ tests.1 in
    let k : length (fields_in text).key ≡ key_length text = length-take-le _ _ (omega (arith, length-drop 6 text)) in
    let v : length (fields_in text).value ≡ value_length text = length-take-le _ _ (omega (arith, length-drop (6 + key_length text) text)) in
    let whole : text ≡ record_text (fields_in text) ++ drop (record_size (fields_in text)) text =
    front_of text (fields_in text) bytes six k v
    ∙ ap (λ l. lengths_text (fields_in text) ++ l)
    (sym (take-append-drop (key_length text) (drop 6 text))
    ∙ ap (λ l. (fields_in text).key ++ l)
    (drop-drop (key_length text) 6 text
    ∙ sym (take-append-drop (value_length text) (drop (6 + key_length text) text))
    ∙ ap (λ l. (fields_in text).value ++ l) (drop-drop (value_length text) (6 + key_length text) text ∙ ap (λ n. drop n text) (omega (arith, k, v))))
    ∙ sym (append_assoc (fields_in text).key (fields_in text).value (drop (record_size (fields_in text)) text)))
    ∙ sym (append_assoc (lengths_text (fields_in text)) ((fields_in text).key ++ (fields_in text).value) (drop (record_size (fields_in text)) text)) in
    subst (λ (q : Pair). FitsRecord q × (text ≡ record_text q ++ drop (record_size q) text)) parts.1
    (record { key = omega (arith, k, two_small text bytes); value = omega (arith, v, four_small text bytes) }, whole)

key_told : (p : Pair) (rest : List ℕ) → FitsRecord p → key_length (record_text p ++ rest) ≡ length p.key
unfolding record_text lengths_text
key_told p rest fits = from_be_bytes-to_be_bytes_2 (length p.key) (omega (arith, fits.key))

value_told : (p : Pair) (rest : List ℕ) → FitsRecord p → value_length (record_text p ++ rest) ≡ length p.value
unfolding record_text lengths_text
value_told p rest fits = from_be_bytes-to_be_bytes_4 (length p.value) fits.value

behind_lengths : (p : Pair) (rest : List ℕ) → drop 6 (record_text p ++ rest) ≡ p.key ++ (p.value ++ rest)
unfolding record_text lengths_text
behind_lengths p rest = append_assoc p.key p.value rest

behind_key : (p : Pair) (rest : List ℕ) → drop (6 + length p.key) (record_text p ++ rest) ≡ p.value ++ rest
behind_key p rest =
    sym (drop-drop (length p.key) 6 (record_text p ++ rest)) ∙ ap (λ l. drop (length p.key) l) (behind_lengths p rest) ∙ drop_at p.key (p.value ++ rest) (length p.key) refl

pub record_again : (p : Pair) (rest : List ℕ) → FitsRecord p → record_at (record_text p ++ rest) ≡ Some p
unfolding record_at
record_again p rest fits =
    let k = key_told p rest fits in
    let v = value_told p rest fits in
    let long : length (record_text p ++ rest) ≡ record_size p + length rest = omega (arith, length-append (record_text p) rest, length-record p) in
    let six : nat_le 6 (length (record_text p ++ rest)) ≡ true = so_le _ _ (omega (arith, long)) in
    let all : nat_le (6 + (key_length (record_text p ++ rest) + value_length (record_text p ++ rest))) (length (record_text p ++ rest)) ≡ true = so_le _ _ (omega (arith, long, k, v)) in
    let key : take (key_length (record_text p ++ rest)) (drop 6 (record_text p ++ rest)) ≡ p.key =
    ap (λ n. take n (drop 6 (record_text p ++ rest))) k ∙ ap (λ l. take (length p.key) l) (behind_lengths p rest) ∙ take_at p.key (p.value ++ rest) (length p.key) refl in
    let value : take (value_length (record_text p ++ rest)) (drop (6 + key_length (record_text p ++ rest)) (record_text p ++ rest)) ≡ p.value =
    ap (λ n. take n (drop (6 + key_length (record_text p ++ rest)) (record_text p ++ rest))) v
    ∙ ap (λ n. take (length p.value) (drop (6 + n) (record_text p ++ rest))) k
    ∙ ap (λ l. take (length p.value) l) (behind_key p rest) ∙ take_at p.value rest (length p.value) refl in
    ap (λ b. if b && nat_le (6 + (key_length (record_text p ++ rest) + value_length (record_text p ++ rest))) (length (record_text p ++ rest)) then Some (fields_in (record_text p ++ rest)) else None) six
    ∙ ap (λ b. if b then Some (fields_in (record_text p ++ rest)) else None) all
    ∙ ap (λ (x : List ℕ). Some (record { key = x; value = (fields_in (record_text p ++ rest)).value })) key
    ∙ ap (λ (x : List ℕ). Some (record { key = p.key; value = x })) value

some_same : (p q : Pair) → Some p ≡ Some q → p ≡ q
some_same p q e = cc

-- a record at the front is the only one there
pub record_same : (p q : Pair) (x y : List ℕ) → FitsRecord p → FitsRecord q → record_text p ++ x ≡ record_text q ++ y → (p ≡ q) × (x ≡ y)
record_same p q x y fp fq same =
    let one : p ≡ q = some_same p q (sym (record_again p x fp) ∙ ap record_at same ∙ record_again q y fq) in (
      one,
      sym (drop_at (record_text p) x (length (record_text p)) refl)
          ∙ ap (λ l. drop (length (record_text p)) l) same
          ∙ drop_at (record_text q) y (length (record_text p)) (ap (λ (r : Pair). length (record_text r)) (sym one)),
    )

-- ---- the reader

pub front_found : (text : List ℕ) (o : Option RecordHere) → AreBytes text → option_map pair_here o ≡ record_at text → IfSome o (λ r. r.rest.now ≡ drop (record_size (pair_here r)) text)
    → IfSome o (λ r. BeginsWith text (pair_here r) r.rest.now)
front_found text None bytes value rest = tt
front_found text (Some r) bytes value rest =
    let f = record_found text (pair_here r) bytes (sym value) in
    record { fits = f.0; spelled = f.1 ∙ ap (λ l. record_text (pair_here r) ++ l) (sym rest) }

pub front_again : (text : List ℕ) (o : Option RecordHere) → option_map pair_here o ≡ record_at text → (p : Pair) (rest : List ℕ) → BeginsWith text p rest → option_map pair_here o ≡ Some p
front_again text o value p rest begins = value ∙ ap record_at begins.spelled ∙ record_again p rest begins.fits
