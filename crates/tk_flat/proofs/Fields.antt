-- Reading and writing of fields, part by part.
use Rattle.std.proofs.Common.{◌≡◌, ℕ, ◌<◌, Bool, true, false, cond, eqb, nat_lt, List, [], ◌∷◌, ◌++◌, length, Option, Some, None, refl, sym, ap, ◌∙◌, append_assoc, All, arith}
use Rattle.std.specs.Option.{option_map}
use Rattle.std.specs.Char.{digit_value}
use Rattle.std.specs.List.{AllByRecursion}
use Rattle.std.proofs.lemmas.List.{append-nil}
use Rattle.std.proofs.lemmas.List.Elements.{recursion_from_All}
use Rattle.tk_flat.specs.Escapes.{followed, unescaped, after_backslash, first_digit, second_digit}

cond-same : (t : Bool) → cond t (second_digit 0 []) None ≡ None
unfolding unescaped
cond-same true = refl
cond-same false = refl

-- these bytes, and then those that are read
abbrev pub prefixed : List ℕ → Option (List ℕ) → Option (List ℕ)
prefixed front rest = option_map (λ bs. front ++ bs) rest

pub prefixed-nil : (o : Option (List ℕ)) → prefixed [] o ≡ o
prefixed-nil None = refl
prefixed-nil (Some bs) = refl

pub prefixed-followed : (front : List ℕ) (b : ℕ) (o : Option (List ℕ)) → prefixed front (followed b o) ≡ prefixed (front ++ b ∷ []) o
prefixed-followed front b None = refl
prefixed-followed front b (Some bs) = ap (λ (l : List ℕ). Some l) (sym (append_assoc front (b ∷ []) bs))

pub prefixed-prefixed : (front more : List ℕ) (o : Option (List ℕ)) → prefixed front (prefixed more o) ≡ prefixed (front ++ more) o
prefixed-prefixed front more None = refl
prefixed-prefixed front more (Some bs) = ap (λ (l : List ℕ). Some l) (sym (append_assoc front more bs))

followed-prefixed : (b : ℕ) (run : List ℕ) (o : Option (List ℕ)) → followed b (prefixed run o) ≡ prefixed (b ∷ run) o
followed-prefixed b run None = refl
followed-prefixed b run (Some bs) = refl

-- a run without a backslash is read as itself
pub unescaped-run : (run rest : List ℕ) → AllByRecursion (λ (b : ℕ). eqb b 92 ≡ false) run → unescaped (run ++ rest) ≡ prefixed run (unescaped rest)
unfolding unescaped
unescaped-run [] rest lacks = sym (prefixed-nil (unescaped rest))
unescaped-run (b ∷ bs) rest lacks =
    ap (λ (t : Bool). cond t (after_backslash (bs ++ rest)) (followed b (unescaped (bs ++ rest)))) lacks.0
    ∙ ap (λ (o : Option (List ℕ)). followed b o) (unescaped-run bs rest lacks.1)
    ∙ followed-prefixed b bs (unescaped rest)

pub first_digit-short : (xs : List ℕ) → length xs < 2 → first_digit xs ≡ None
unfolding unescaped
first_digit-short [] short = refl
first_digit-short (d ∷ []) short = cond-same (nat_lt (digit_value d) 16)
first_digit-short (d ∷ e ∷ xs) short = absurd (omega arith)

-- no byte of the run is a backslash
abbrev pub IsRun : List ℕ → Type 0
IsRun run = All (λ (b : ℕ). eqb b 92 ≡ false) run

pub unescape-end : (field out rest end : List ℕ) → unescaped field ≡ prefixed out (unescaped rest) → IsRun rest → end ≡ out ++ rest → unescaped field ≡ Some end
unfolding unescaped
unescape-end field out rest end so_far plain is =
    so_far
    ∙ ap (λ (o : Option (List ℕ)). prefixed out o) (ap (λ (l : List ℕ). unescaped l) (sym (append-nil rest)) ∙ unescaped-run rest [] (recursion_from_All (λ (b : ℕ). eqb b 92 ≡ false) rest plain))
    ∙ ap (λ (l : List ℕ). Some (out ++ l)) (append-nil rest)
    ∙ ap (λ (l : List ℕ). Some l) (sym is)

behind_run : (rest run escape : List ℕ) → rest ≡ run ++ 92 ∷ escape → IsRun run → unescaped rest ≡ prefixed run (after_backslash escape)
unfolding unescaped
behind_run rest run escape is plain =
    ap (λ (l : List ℕ). unescaped l) is ∙ unescaped-run run (92 ∷ escape) (recursion_from_All (λ (b : ℕ). eqb b 92 ≡ false) run plain)

pub unescape-none : (field out rest run escape : List ℕ) → unescaped field ≡ prefixed out (unescaped rest) → rest ≡ run ++ 92 ∷ escape → IsRun run → after_backslash escape ≡ None → unescaped field ≡ None
unescape-none field out rest run escape so_far is plain none =
    so_far ∙ ap (λ (o : Option (List ℕ)). prefixed out o) (behind_run rest run escape is plain ∙ ap (λ (o : Option (List ℕ)). prefixed run o) none)

pub unescape-more : (field out rest run escape behind next : List ℕ) (b : ℕ) → unescaped field ≡ prefixed out (unescaped rest) → rest ≡ run ++ 92 ∷ escape → IsRun run → after_backslash escape ≡ followed b (unescaped behind) → next ≡ (out ++ run) ++ b ∷ [] → unescaped field ≡ prefixed next (unescaped behind)
unescape-more field out rest run escape behind next b so_far is plain found end =
    so_far
    ∙ ap (λ (o : Option (List ℕ)). prefixed out o) (behind_run rest run escape is plain ∙ ap (λ (o : Option (List ℕ)). prefixed run o) found)
    ∙ prefixed-prefixed out run (followed b (unescaped behind))
    ∙ prefixed-followed (out ++ run) b (unescaped behind)
    ∙ ap (λ (l : List ℕ). prefixed l (unescaped behind)) (sym end)

pub ruleset unescape_steps = (unescape-end, unescape-none, unescape-more)
