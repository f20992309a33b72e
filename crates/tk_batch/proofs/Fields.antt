-- The fields of a line, read one by one.
use Rattle.std.proofs.Common.{◌≡◌, ℕ, false, List, [], ◌∷◌, ◌++◌, refl, sym, ap, ◌∙◌, All}
use Rattle.std.specs.Prelude.{Option, Some, None, ◌==◌, Result, Ok, Err, IfOk}
use Rattle.tk_model.specs.declared.error.NoMemory.{NoMemory}
use Rattle.std.proofs.lemmas.List.Splits.{slice_split_at, slice_split_none}
use Rattle.tk_flat.specs.Escapes.{unescaped}
use Rattle.tk_flat.specs.Tsv.{fields_of, is_tab}
use Rattle.tk_batch.specs.declared.line.Line.{Line}
use Rattle.tk_batch.specs.declared.line.ScriptRules.{ScriptRules}
use Rattle.tk_batch.specs.Script.{followed, all_unescaped, line_from, line_of, line_in}
use Rattle.tk_batch.proofs.Pairs.{after, after_one}

followed_some : (f : List ℕ) (r : Option (List (List ℕ))) → followed (Some f) r ≡ after (f ∷ []) r
followed_some f None = refl
followed_some f (Some fs) = refl

parts_of : (rest field behind : List ℕ) → rest ≡ field ++ 9 ∷ behind → All (λ b. (b == 9) ≡ false) field → fields_of rest ≡ field ∷ fields_of behind
parts_of rest field behind e h = ap (λ (t : List ℕ). fields_of t) e ∙ slice_split_at is_tab field 9 behind h refl

pub field_more : (line rest field behind : List ℕ) (fields next : List (List ℕ)) (bytes : List ℕ) → all_unescaped (fields_of line) ≡ after fields (all_unescaped (fields_of rest))
    → rest ≡ field ++ 9 ∷ behind → All (λ b. (b == 9) ≡ false) field → Some bytes ≡ unescaped field → next ≡ fields ++ bytes ∷ [] → all_unescaped (fields_of line) ≡ after next (all_unescaped (fields_of behind))
field_more line rest field behind fields next bytes so_far e h read end =
    so_far ∙ (ap (λ t. after fields (all_unescaped t)) (parts_of rest field behind e h)
    ∙ (ap (λ t. after fields (followed t (all_unescaped (fields_of behind)))) (sym read)
    ∙ (ap (after fields) (followed_some bytes (all_unescaped (fields_of behind)))
    ∙ (sym (after_one fields bytes (all_unescaped (fields_of behind))) ∙ ap (λ t. after t (all_unescaped (fields_of behind))) (sym end)))))

pub field_bad : (line rest field behind : List ℕ) (fields : List (List ℕ)) → all_unescaped (fields_of line) ≡ after fields (all_unescaped (fields_of rest))
    → rest ≡ field ++ 9 ∷ behind → All (λ b. (b == 9) ≡ false) field → None ≡ unescaped field → None ≡ all_unescaped (fields_of line)
field_bad line rest field behind fields so_far e h bad =
    sym (so_far ∙ (ap (λ t. after fields (all_unescaped t)) (parts_of rest field behind e h) ∙ ap (λ t. after fields (followed t (all_unescaped (fields_of behind)))) (sym bad)))

pub field_last : (line rest : List ℕ) (fields next : List (List ℕ)) (bytes : List ℕ) → all_unescaped (fields_of line) ≡ after fields (all_unescaped (fields_of rest))
    → All (λ b. (b == 9) ≡ false) rest → Some bytes ≡ unescaped rest → next ≡ fields ++ bytes ∷ [] → Some next ≡ all_unescaped (fields_of line)
field_last line rest fields next bytes so_far h read end =
    sym (so_far ∙ (ap (λ t. after fields (all_unescaped t)) (slice_split_none is_tab rest h) ∙ (ap (λ t. after fields (followed t (Some []))) (sym read) ∙ ap (λ t. Some t) (sym end))))

pub field_last_bad : (line rest : List ℕ) (fields : List (List ℕ)) → all_unescaped (fields_of line) ≡ after fields (all_unescaped (fields_of rest))
    → All (λ b. (b == 9) ≡ false) rest → None ≡ unescaped rest → None ≡ all_unescaped (fields_of line)
field_last_bad line rest fields so_far h bad =
    sym (so_far ∙ (ap (λ t. after fields (all_unescaped t)) (slice_split_none is_tab rest h) ∙ ap (λ t. after fields (followed t (Some []))) (sym bad)))

-- a line is read by its fields

pub line_none : (r : ScriptRules) (text : List ℕ) → None ≡ all_unescaped (fields_of text) → None ≡ line_in r text
unfolding line_in
line_none r text e = ap (line_from r) e

pub line_some : (r : ScriptRules) (text : List ℕ) (fields : List (List ℕ)) → Some fields ≡ all_unescaped (fields_of text) → line_of r fields ≡ line_in r text
unfolding line_in
line_some r text fields e = ap (line_from r) e

pub read_by : (r : Result (Option Line) NoMemory) (a b : Option Line) → IfOk r (λ l. l ≡ a) → a ≡ b → IfOk r (λ l. l ≡ b)
read_by (Ok l) a b h e = h ∙ e
read_by (Err x) a b h e = tt
