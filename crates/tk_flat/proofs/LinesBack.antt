-- Lines that were written are read back.
use Rattle.std.proofs.Common.{◌≡◌, ℕ, ◌<◌, ◌≤◌, ◌+◌, Bool, true, false, cond, eqb, nat_lt, nat_le, ◌||◌, List, [], ◌∷◌, ◌++◌, map, Option, Some, All, refl, sym, ap, ◌∙◌, lit≤, append_assoc, length, take, get_or, arith}
use Rattle.std.proofs.lemmas.List.{append-nil, flat_map_more, take_more}
use Rattle.std.specs.List.{AllByRecursion, flat_map}
use Rattle.std.specs.Char.{digit_char}
use Rattle.std.proofs.lemmas.List.Elements.{All-from_recursion, recursion_from_All}
use Rattle.std.proofs.lemmas.Bool.{or_parts, ltb-false, ne_eqb}
use Rattle.tk_model.specs.declared.record.Pair.{Pair}
use Rattle.tk_flat.specs.Escapes.{needs_escape, hex_escape, escape_text, byte_text, escaped, unescaped}
use Rattle.tk_flat.specs.Tsv.{IsReadBack, is_tab, pair_from, pair_in, lines_of, line_body, line_text, tsv_text}
use Rattle.tk_flat.proofs.Lines.{fields-two, lines_of-run}

-- no control byte
abbrev IsPrinted : ℕ → Type 0
IsPrinted c = 32 ≤ c

printed-digit : (d : ℕ) → IsPrinted (digit_char d)
printed-digit d = by_test (nat_lt d 10)
  where
    by_test : (t : Bool) → 32 ≤ cond t (48 + d) (87 + d)
    by_test true = omega arith
    by_test false = omega arith

printed-escape : (b : ℕ) (rest : List ℕ) → AllByRecursion IsPrinted rest → AllByRecursion IsPrinted (escape_text b ++ rest)
printed-escape b rest all = by_tests (eqb b 9) (eqb b 10) (eqb b 92)
  where
    by_tests : (t u v : Bool) → AllByRecursion IsPrinted (cond t (92 ∷ 116 ∷ []) (cond u (92 ∷ 110 ∷ []) (cond v (92 ∷ 92 ∷ []) (hex_escape b))) ++ rest)
    by_tests true u v = (lit≤ tt, (lit≤ tt, all))
    by_tests false true v = (lit≤ tt, (lit≤ tt, all))
    by_tests false false true = (lit≤ tt, (lit≤ tt, all))
    by_tests false false false = (lit≤ tt, (lit≤ tt, (printed-digit _, (printed-digit _, all))))

printed-byte : (b : ℕ) (rest : List ℕ) (t : Bool) → needs_escape b ≡ t → AllByRecursion IsPrinted rest → AllByRecursion IsPrinted (cond t (escape_text b) (b ∷ []) ++ rest)
printed-byte b rest true special all = printed-escape b rest all
printed-byte b rest false plain all = (ltb-false b 32 (or_parts (nat_lt b 32) (nat_le 127 b) (or_parts (nat_lt b 32 || nat_le 127 b) (eqb b 92) plain).0).0, all)

printed : (bytes : List ℕ) → AllByRecursion IsPrinted (escaped bytes)
unfolding escaped
printed [] = tt
printed (b ∷ bs) = printed-byte b (flat_map byte_text bs) (needs_escape b) refl (printed bs)

lacks : (n : ℕ) → n < 32 → (xs : List ℕ) → AllByRecursion IsPrinted xs → AllByRecursion (λ (c : ℕ). eqb c n ≡ false) xs
lacks n low [] all = tt
lacks n low (x ∷ xs) all = (ne_eqb x n (λ e. absurd (omega (arith, all.0))), lacks n low xs all.1)

pub no_tab : (bytes : List ℕ) → All (λ b. is_tab b ≡ false) (escaped bytes)
no_tab bytes = All-from_recursion (λ (b : ℕ). is_tab b ≡ false) (escaped bytes) (lacks 9 (omega arith) (escaped bytes) (printed bytes))

join : (P : ℕ → Type 0) (xs ys : List ℕ) → AllByRecursion P xs → AllByRecursion P ys → AllByRecursion P (xs ++ ys)
join P [] ys px py = py
join P (x ∷ xs) ys px py = (px.0, join P xs ys px.1 py)

no_lf : (pair : Pair) → AllByRecursion (λ (c : ℕ). eqb c 10 ≡ false) (line_body pair)
no_lf pair =
    join (λ (c : ℕ). eqb c 10 ≡ false) (escaped pair.key) (9 ∷ escaped pair.value) (lacks 10 (omega arith) (escaped pair.key) (printed pair.key)) (refl, lacks 10 (omega arith) (escaped pair.value) (printed pair.value))

pub line-back : (pair : Pair) → unescaped (escaped pair.key) ≡ Some pair.key → unescaped (escaped pair.value) ≡ Some pair.value → IsReadBack pair
line-back pair key value =
    fields-two (line_body pair) (escaped pair.key) (escaped pair.value) refl (no_tab pair.key) (no_tab pair.value)
    ∙ ap (λ (k : Option (List ℕ)). pair_from k (unescaped (escaped pair.value))) key
    ∙ ap (λ (v : Option (List ℕ)). pair_from (Some pair.key) v) value

tsv_text-cons : (pair : Pair) (pairs : List Pair) → tsv_text (pair ∷ pairs) ≡ line_body pair ++ 10 ∷ tsv_text pairs
unfolding tsv_text
tsv_text-cons pair pairs = append_assoc (line_body pair) (10 ∷ []) (flat_map line_text pairs)

lines_back : (pairs : List Pair) → AllByRecursion IsReadBack pairs → map pair_in (lines_of (tsv_text pairs)) ≡ map Some pairs
unfolding tsv_text
lines_back [] back = refl
lines_back (p ∷ ps) back =
    ap (λ (l : List ℕ). map pair_in (lines_of l)) (tsv_text-cons p ps)
    ∙ ap (λ (ls : List (List ℕ)). map pair_in ls) (lines_of-run (line_body p) (tsv_text ps) (no_lf p))
    ∙ ap (λ (o : Option Pair). o ∷ map pair_in (lines_of (tsv_text ps))) back.0
    ∙ ap (λ (os : List (Option Pair)). Some p ∷ os) (lines_back ps back.1)

pub tsv_back : (pairs : List Pair) → All IsReadBack pairs → map pair_in (lines_of (tsv_text pairs)) ≡ map Some pairs
tsv_back pairs back = lines_back pairs (recursion_from_All IsReadBack pairs back)

pub tsv_text-nil : (out : List ℕ) → out ≡ out ++ tsv_text []
unfolding tsv_text
tsv_text-nil out = sym (append-nil out)

pub tsv_text-more : (old out next : List ℕ) (pairs : List Pair) (i : ℕ) (pair : Pair) → i < length pairs → pair ≡ get_or pairs i pair → out ≡ old ++ tsv_text (take i pairs) → next ≡ out ++ line_text pair → next ≡ old ++ tsv_text (take (i + 1) pairs)
unfolding tsv_text
tsv_text-more old out next pairs i pair inside is so_far end =
    end
    ∙ ap (λ (l : List ℕ). l ++ line_text pair) so_far
    ∙ flat_map_more line_text old (take i pairs) pair
    ∙ ap (λ (p : Pair). old ++ flat_map line_text (take i pairs ++ p ∷ [])) is
    ∙ ap (λ (ps : List Pair). old ++ flat_map line_text ps) (sym (take_more pairs i pair inside))
