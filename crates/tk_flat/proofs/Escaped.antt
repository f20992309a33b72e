-- Writing of fields, and reading what was written.
use Rattle.std.proofs.Common.{◌≡◌, ℕ, suc, ◌<◌, ◌+◌, ◌*◌, ◌/◌, ◌%◌, Bool, true, false, cond, eqb, nat_lt, nat_le, ◌||◌, List, [], ◌∷◌, ◌++◌, get_or, Option, Some, None, All, refl, sym, ap, ◌∙◌, append_assoc, arith}
use Rattle.std.specs.List.{AllByRecursion, flat_map}
use Rattle.std.specs.Char.{digit_char}
use Rattle.std.proofs.lemmas.List.{append-nil}
use Rattle.std.proofs.lemmas.List.Elements.{recursion_from_All}
use Rattle.std.proofs.lemmas.Bool.{or_parts, eqb-true, lt-ltb}
use Rattle.std.proofs.lemmas.Str.{digit_value-digit_char}
use Rattle.tk_model.specs.RecordText.{Extends}
use Rattle.tk_flat.specs.Escapes.{needs_escape, hex_escape, escape_text, byte_text, escaped, followed, unescaped, after_backslash, first_digit, second_digit}

escaped-plain : (b : ℕ) (rest : List ℕ) → needs_escape b ≡ false → escaped (b ∷ rest) ≡ b ∷ escaped rest
unfolding escaped
escaped-plain b rest plain = ap (λ (t : Bool). cond t (escape_text b) (b ∷ []) ++ flat_map byte_text rest) plain

escaped-run : (run rest : List ℕ) → AllByRecursion (λ (b : ℕ). needs_escape b ≡ false) run → escaped (run ++ rest) ≡ run ++ escaped rest
escaped-run [] rest plain = refl
escaped-run (b ∷ bs) rest plain = escaped-plain b (bs ++ rest) plain.0 ∙ ap (λ (l : List ℕ). b ∷ l) (escaped-run bs rest plain.1)

escaped-one : (b : ℕ) (rest : List ℕ) → needs_escape b ≡ true → escaped (b ∷ rest) ≡ escape_text b ++ escaped rest
unfolding escaped
escaped-one b rest is = ap (λ (t : Bool). cond t (escape_text b) (b ∷ []) ++ flat_map byte_text rest) is

-- behind the old bytes all is written but the rest
pub record Written (old out all rest : List ℕ) : Type 0 where
  pub text : List ℕ
  pub appended : out ≡ old ++ text
  pub split : escaped all ≡ text ++ escaped rest

pub written_none : (old all : List ℕ) → Written old old all all
written_none old all = record { text = []; appended = sym (append-nil old); split = refl }

pub written_more : (old out all rest run behind mid next : List ℕ) (b : ℕ) → Written old out all rest → rest ≡ run ++ b ∷ behind → All (λ (b : ℕ). needs_escape b ≡ false) run → needs_escape b ≡ true → mid ≡ out ++ run → next ≡ mid ++ escape_text b → Written old next all behind
written_more old out all rest run behind mid next b so_far is plain special first second =
    let text : List ℕ = so_far.text in
    let more : escaped rest ≡ run ++ (escape_text b ++ escaped behind) = ap (λ (l : List ℕ). escaped l) is ∙ escaped-run run (b ∷ behind) (recursion_from_All (λ (b : ℕ). needs_escape b ≡ false) run plain) ∙ ap (λ (l : List ℕ). run ++ l) (escaped-one b behind special) in
    record {
      text = (text ++ run) ++ escape_text b;
      appended = second ∙ ap (λ (l : List ℕ). l ++ escape_text b) (first ∙ ap (λ (l : List ℕ). l ++ run) so_far.appended ∙ append_assoc old text run) ∙ append_assoc old (text ++ run) (escape_text b);
      split = so_far.split ∙ ap (λ (l : List ℕ). text ++ l) more ∙ sym (append_assoc text run (escape_text b ++ escaped behind)) ∙ sym (append_assoc (text ++ run) (escape_text b) (escaped behind));
    }

pub written_all : (old out all rest end : List ℕ) → Written old out all rest → All (λ (b : ℕ). needs_escape b ≡ false) rest → end ≡ out ++ rest → end ≡ old ++ escaped all
unfolding escaped
written_all old out all rest end so_far plain is =
    let last : escaped rest ≡ rest = ap (λ (l : List ℕ). escaped l) (sym (append-nil rest)) ∙ escaped-run rest [] (recursion_from_All (λ (b : ℕ). needs_escape b ≡ false) rest plain) ∙ append-nil rest in
    is ∙ ap (λ (l : List ℕ). l ++ rest) so_far.appended ∙ append_assoc old so_far.text rest ∙ ap (λ (l : List ℕ). old ++ l) (ap (λ (l : List ℕ). so_far.text ++ l) (sym last) ∙ sym so_far.split)

pub written_part : (old out all rest more new : List ℕ) → Written old out all rest → new ≡ out ++ more → Extends old new
written_part old out all rest more new so_far is = (so_far.text ++ more, is ∙ ap (λ (l : List ℕ). l ++ more) so_far.appended ∙ append_assoc old so_far.text more)

pub written_so_far : (old out all rest : List ℕ) → Written old out all rest → Extends old out
written_so_far old out all rest so_far = (so_far.text, so_far.appended)

second_digit-back : (h l : ℕ) (rest : List ℕ) → l < 16 → second_digit h (digit_char l ∷ rest) ≡ followed (16 * h + l) (unescaped rest)
unfolding unescaped
second_digit-back h l rest low =
    ap (λ (v : ℕ). cond (nat_lt v 16) (followed (16 * h + v) (unescaped rest)) None) (digit_value-digit_char l (omega arith))
    ∙ ap (λ (t : Bool). cond t (followed (16 * h + l) (unescaped rest)) None) (lt-ltb l 16 low)

first_digit-back : (h l : ℕ) (rest : List ℕ) → h < 16 → l < 16 → first_digit (digit_char h ∷ digit_char l ∷ rest) ≡ followed (16 * h + l) (unescaped rest)
unfolding unescaped
first_digit-back h l rest high low =
    ap (λ (v : ℕ). cond (nat_lt v 16) (second_digit v (digit_char l ∷ rest)) None) (digit_value-digit_char h (omega arith))
    ∙ ap (λ (t : Bool). cond t (second_digit h (digit_char l ∷ rest)) None) (lt-ltb h 16 high)
    ∙ second_digit-back h l rest low

hex-back : (b : ℕ) (rest : List ℕ) → b < 256 → unescaped (hex_escape b ++ rest) ≡ followed b (unescaped rest)
unfolding unescaped
hex-back b rest fits =
    first_digit-back (b / 16) (b % 16) rest (omega arith) (omega arith) ∙ ap (λ (n : ℕ). followed n (unescaped rest)) (omega arith)

escape_text-back : (b : ℕ) (rest : List ℕ) → b < 256 → unescaped (escape_text b ++ rest) ≡ followed b (unescaped rest)
unfolding unescaped
escape_text-back b rest fits = at_tab (eqb b 9) (eqb b 10) (eqb b 92) (eqb-true b 9) (eqb-true b 10) (eqb-true b 92)
  where
    at_tab : (t u v : Bool) → (t ≡ true → b ≡ 9) → (u ≡ true → b ≡ 10) → (v ≡ true → b ≡ 92) → unescaped (cond t (92 ∷ 116 ∷ []) (cond u (92 ∷ 110 ∷ []) (cond v (92 ∷ 92 ∷ []) (hex_escape b))) ++ rest) ≡ followed b (unescaped rest)
    at_tab true u v tab lf backslash = ap (λ (n : ℕ). followed n (unescaped rest)) (sym (tab refl))
    at_tab false true v tab lf backslash = ap (λ (n : ℕ). followed n (unescaped rest)) (sym (lf refl))
    at_tab false false true tab lf backslash = ap (λ (n : ℕ). followed n (unescaped rest)) (sym (backslash refl))
    at_tab false false false tab lf backslash = hex-back b rest fits

plain-back : (b : ℕ) (rest : List ℕ) → needs_escape b ≡ false → unescaped (b ∷ rest) ≡ followed b (unescaped rest)
unfolding unescaped
plain-back b rest plain =
    ap (λ (t : Bool). cond t (after_backslash rest) (followed b (unescaped rest))) (or_parts (nat_lt b 32 || nat_le 127 b) (eqb b 92) plain).1

-- what was written is read back
pub unescaped-escaped : (bytes : List ℕ) → ((i : ℕ) → get_or bytes i 0 < 256) → unescaped (escaped bytes) ≡ Some bytes
unfolding escaped unescaped
unescaped-escaped [] fit = refl
unescaped-escaped (b ∷ bs) fit =
    by_test (needs_escape b) refl ∙ ap (λ (o : Option (List ℕ)). followed b o) (unescaped-escaped bs (λ i. fit (suc i)))
  where
    by_test : (t : Bool) → needs_escape b ≡ t → unescaped (cond t (escape_text b) (b ∷ []) ++ flat_map byte_text bs) ≡ followed b (unescaped (flat_map byte_text bs))
    by_test true special = escape_text-back b (flat_map byte_text bs) (fit 0)
    by_test false plain = plain-back b (flat_map byte_text bs) plain

pub ruleset escape_steps = (written_none, written_more, written_all, written_part, written_so_far, unescaped-escaped)
