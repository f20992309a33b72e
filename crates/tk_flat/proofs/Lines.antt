-- Reading and writing of lines, part by part.
use Rattle.std.proofs.Common.{◌≡◌, ℕ, ◌<◌, Bool, true, false, cond, eqb, List, [], ◌∷◌, ◌++◌, length, Option, Some, None, refl, ap, ◌∙◌, All, arith}
use Rattle.std.specs.List.{AllByRecursion, onto_first, slice_split}
use Rattle.std.proofs.lemmas.List.Splits.{slice_split_at, slice_split_none}
use Rattle.std.proofs.lemmas.List.Elements.{recursion_from_All}
use Rattle.tk_flat.specs.Escapes.{unescaped}
use Rattle.tk_flat.specs.Tsv.{lines_of, pair_of, pair_from, pair_in, is_tab}

-- a run without an LF, and then an LF
pub lines_of-run : (run rest : List ℕ) → AllByRecursion (λ (b : ℕ). eqb b 10 ≡ false) run → lines_of (run ++ 10 ∷ rest) ≡ run ∷ lines_of rest
lines_of-run [] rest lacks = refl
lines_of-run (b ∷ bs) rest lacks =
    ap (λ (t : Bool). cond t ([] ∷ lines_of (bs ++ 10 ∷ rest)) (onto_first b (lines_of (bs ++ 10 ∷ rest)))) lacks.0
    ∙ ap (λ (ls : List (List ℕ)). onto_first b ls) (lines_of-run bs rest lacks.1)

-- a run without an LF is one line
pub lines_of-last : (b : ℕ) (run : List ℕ) → AllByRecursion (λ (b : ℕ). eqb b 10 ≡ false) (b ∷ run) → lines_of (b ∷ run) ≡ (b ∷ run) ∷ []
lines_of-last b [] lacks = ap (λ (t : Bool). cond t ([] ∷ []) ((b ∷ []) ∷ [])) lacks.0
lines_of-last b (x ∷ xs) lacks =
    ap (λ (t : Bool). cond t ([] ∷ lines_of (x ∷ xs)) (onto_first b (lines_of (x ∷ xs)))) lacks.0
    ∙ ap (λ (ls : List (List ℕ)). onto_first b ls) (lines_of-last x xs lacks.1)

pair_of-onto : (key value : List ℕ) (x : ℕ) (parts : List (List ℕ)) → pair_of (key ∷ value ∷ onto_first x parts) ≡ None
pair_of-onto key value x [] = refl
pair_of-onto key value x (part ∷ parts) = refl

-- three fields and more are no record
pub pair_of-more : (key value xs : List ℕ) → pair_of (key ∷ value ∷ slice_split is_tab xs) ≡ None
pair_of-more key value [] = refl
pair_of-more key value (x ∷ xs) = by_test (is_tab x)
  where
    by_test : (t : Bool) → pair_of (key ∷ value ∷ cond t ([] ∷ slice_split is_tab xs) (onto_first x (slice_split is_tab xs))) ≡ None
    by_test true = refl
    by_test false = pair_of-onto key value x (slice_split is_tab xs)

pub fields-none : (line : List ℕ) → All (λ b. is_tab b ≡ false) line → pair_in line ≡ None
unfolding pair_in
fields-none line lacks = ap (λ (fs : List (List ℕ)). pair_of fs) (slice_split_none is_tab line lacks)

pub fields-more : (line key rest value behind : List ℕ) → line ≡ key ++ 9 ∷ rest → All (λ b. is_tab b ≡ false) key → rest ≡ value ++ 9 ∷ behind → All (λ b. is_tab b ≡ false) value → pair_in line ≡ None
unfolding pair_in
fields-more line key rest value behind first lacks second also =
    ap (λ (l : List ℕ). pair_of (slice_split is_tab l)) first
    ∙ ap (λ (fs : List (List ℕ)). pair_of fs) (slice_split_at is_tab key 9 rest lacks refl)
    ∙ ap (λ (l : List ℕ). pair_of (key ∷ slice_split is_tab l)) second
    ∙ ap (λ (fs : List (List ℕ)). pair_of (key ∷ fs)) (slice_split_at is_tab value 9 behind also refl)
    ∙ pair_of-more key value behind

pub fields-two : (line key value : List ℕ) → line ≡ key ++ 9 ∷ value → All (λ b. is_tab b ≡ false) key → All (λ b. is_tab b ≡ false) value → pair_in line ≡ pair_from (unescaped key) (unescaped value)
unfolding pair_in
fields-two line key value first lacks also =
    ap (λ (l : List ℕ). pair_of (slice_split is_tab l)) first
    ∙ ap (λ (fs : List (List ℕ)). pair_of fs) (slice_split_at is_tab key 9 value lacks refl)
    ∙ ap (λ (fs : List (List ℕ)). pair_of (key ∷ fs)) (slice_split_none is_tab value also)

pub pair_from-none : (key : Option (List ℕ)) → pair_from key None ≡ None
pair_from-none None = refl
pair_from-none (Some k) = refl

-- the line at the front
pub line_at : (bytes line behind : List ℕ) → bytes ≡ line ++ 10 ∷ behind → All (λ (b : ℕ). eqb b 10 ≡ false) line → lines_of bytes ≡ line ∷ lines_of behind
line_at bytes line behind is lacks = ap (λ (l : List ℕ). lines_of l) is ∙ lines_of-run line behind (recursion_from_All (λ (b : ℕ). eqb b 10 ≡ false) line lacks)

-- the last line, where its LF is missing
pub line_last : (bytes : List ℕ) → 0 < length bytes → All (λ (b : ℕ). eqb b 10 ≡ false) bytes → lines_of bytes ≡ bytes ∷ []
line_last [] some lacks = absurd (omega arith)
line_last (b ∷ bs) some lacks = lines_of-last b bs (recursion_from_All (λ (b : ℕ). eqb b 10 ≡ false) (b ∷ bs) lacks)

pub ruleset fields_read = (fields-none, fields-more, fields-two, pair_from-none)
