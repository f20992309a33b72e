-- The lines of a script: worker, call and arguments, with TABs between them.
use Rattle.std.specs.Prelude.{◌≡◌, ℕ, suc, zero, ◌-◌, ◌≤◌, ◌&&◌, nat_lt, min, Bool, not, if◌then◌else◌, List, [], ◌∷◌, length, map, take, position, count_by, Option, Some, None, is_none, codes}
use Rattle.tk_flat.specs.Escapes.{unescaped}
use Rattle.tk_flat.specs.Tsv.{fields_of, lines_of, is_lf}
use Rattle.tk_calls.specs.declared.call.Call.{Call}
use Rattle.tk_calls.specs.declared.call.Call.TheVariants as calls
use Rattle.tk_calls.specs.Calls.{is_of_iterator}
use Rattle.tk_batch.specs.declared.line.Line.{Line}
use Rattle.tk_batch.specs.declared.line.ScriptRules.{ScriptRules}
use Rattle.tk_batch.specs.Numbers.{number_in, at_most}
use Rattle.tk_batch.specs.Arguments.{is_word, no_args, get_in, remove_in, set_in, add_in, append_in, exchange_in, increment_in, get_multi_in, exchange_multi_in, multi_in, rekey_in, each_in, sync_in, jump_in, lower_in, upper_in, iter_set_in}

-- the bytes of all fields, where each can be read
abbrev pub followed : Option (List ℕ) → Option (List (List ℕ)) → Option (List (List ℕ))
followed None rest = None
followed (Some f) None = None
followed (Some f) (Some fs) = Some (f ∷ fs)

abbrev pub all_unescaped : List (List ℕ) → Option (List (List ℕ))
all_unescaped [] = Some []
all_unescaped (f ∷ fs) = followed (unescaped f) (all_unescaped fs)

abbrev pub iterator_call_in : (name : List ℕ) → List (List ℕ) → Option Call
iterator_call_in name args =
    if is_word (codes "first") name then no_args calls.First args
    else (if is_word (codes "last") name then no_args calls.Last args
    else (if is_word (codes "next") name then no_args calls.Next args
    else (if is_word (codes "previous") name then no_args calls.Previous args
    else (if is_word (codes "iremove") name then no_args calls.IterRemove args
    else (if is_word (codes "jump") name then jump_in args
    else (if is_word (codes "lower") name then lower_in args
    else (if is_word (codes "upper") name then upper_in args
    else (if is_word (codes "iget") name then no_args calls.IterGet args
    else (if is_word (codes "iset") name then iter_set_in args
    else None)))))))))

abbrev pub call_of_several_in : (name : List ℕ) → List (List ℕ) → Option Call
call_of_several_in name args =
    if is_word (codes "getmulti") name then get_multi_in args
    else (if is_word (codes "casmulti") name then exchange_multi_in args
    else (if is_word (codes "rekey") name then rekey_in args
    else (if is_word (codes "pop") name then no_args calls.Pop args
    else (if is_word (codes "multi") name then multi_in args
    else (if is_word (codes "each") name then each_in args
    else (if is_word (codes "count") name then no_args calls.Count args
    else (if is_word (codes "clear") name then no_args calls.Clear args
    else (if is_word (codes "sync") name then sync_in args
    else iterator_call_in name args))))))))

abbrev pub call_in : (name : List ℕ) → List (List ℕ) → Option Call
call_in name args =
    if is_word (codes "get") name then get_in args
    else (if is_word (codes "remove") name then remove_in args
    else (if is_word (codes "set") name then set_in args
    else (if is_word (codes "add") name then add_in args
    else (if is_word (codes "append") name then append_in args
    else (if is_word (codes "cas") name then exchange_in args
    else (if is_word (codes "increment") name then increment_in args
    else call_of_several_in name args))))))

-- a call of the iterator is taken only where the rules say so
abbrev pub taken : (iterators : Bool) → Option Call → Option Call
taken iterators None = None
taken iterators (Some c) = if is_of_iterator c && not iterators then None else Some c

abbrev pub line_by : Option ℕ → Option Call → Option Line
line_by None c = None
line_by (Some w) None = None
line_by (Some w) (Some c) = Some (record { worker = w; call = c })

abbrev pub line_of : ScriptRules → List (List ℕ) → Option Line
line_of r (w ∷ name ∷ args) = line_by (at_most (r.workers - 1) (number_in w)) (taken r.iterators (call_in name args))
line_of r fields = None

abbrev pub line_from : ScriptRules → Option (List (List ℕ)) → Option Line
line_from r None = None
line_from r (Some fields) = line_of r fields

-- the line of a text, where it is one
unfoldable pub line_in : ScriptRules → List ℕ → Option Line
line_in r text = line_from r (all_unescaped (fields_of text))

-- each line as it is read; past so many there is none
abbrev pub read_up_to : {A : Type 0} → (List ℕ → Option A) → (most : ℕ) → List (List ℕ) → List (Option A)
read_up_to read most [] = []
read_up_to read zero (l ∷ ls) = None ∷ read_up_to read zero ls
read_up_to read (suc most) (l ∷ ls) = read l ∷ read_up_to read most ls

-- how many lines of a text are within the limits: those before the line of the first byte past the limit of bytes
abbrev pub lines_within : ScriptRules → List ℕ → ℕ
lines_within r text = if nat_lt r.bytes (length text) then min r.lines (count_by is_lf (take r.bytes text)) else r.lines

abbrev pub readings : ScriptRules → List ℕ → List (Option Line)
readings r text = read_up_to (line_in r) (lines_within r text) (lines_of text)

-- the text is these lines, within the limits
abbrev pub IsScript : ScriptRules → List ℕ → List Line → Type 0
IsScript r text lines = readings r text ≡ map Some lines

-- the first line that is none, counted from 1
pub record IsFirstNone {A : Type 0} (lines : List (Option A)) (line : ℕ) : Type 0 where
  pub counted : 1 ≤ line
  pub first : position is_none lines ≡ Some (line - 1)

-- the first line outside the grammar or past a limit
abbrev pub IsFirstBadLine : ScriptRules → List ℕ → ℕ → Type 0
IsFirstBadLine r text line = IsFirstNone (readings r text) line
