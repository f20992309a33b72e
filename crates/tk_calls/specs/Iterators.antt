-- What each call of an iterator replies, by where the iterator stands.
use Rattle.std.specs.Prelude.{ℕ, Bool, true, false, List, [], ◌∷◌, Option, Some, None, is_some, if◌then◌else◌}
use Rattle.tk_status.specs.declared.Status.{Status}
use Rattle.tk_status.specs.declared.Status.TheVariants as statuses
use Rattle.tk_model.specs.Records.{find, named}
use Rattle.tk_model.specs.declared.record.Order.{Order}
use Rattle.tk_model.specs.declared.record.Order.TheVariants as orders
use Rattle.tk_model.specs.declared.record.Way.{Way}
use Rattle.tk_model.specs.declared.record.Way.TheVariants.{Up, Down}
use Rattle.tk_model.specs.declared.record.Bound.{Bound}
use Rattle.tk_model.specs.declared.record.Bound.TheVariants.{Edge, Over, From}
use Rattle.tk_model.specs.declared.record.Action.{Action}
use Rattle.tk_model.specs.declared.record.Action.TheVariants.{Keep, Put, Drop}
use Rattle.tk_model.specs.declared.record.Pair.{Pair}
use Rattle.tk_model.specs.declared.record.Entry.TheVariants as entries
use Rattle.tk_proc.specs.Replies.{get_reply, remove_reply}
use Rattle.tk_proc.specs.Runs.{unless_long, status_unless_long}
use Rattle.tk_calls.specs.declared.call.Position.{Position}
use Rattle.tk_calls.specs.declared.call.Position.TheVariants.{Nowhere, At, After}
use Rattle.tk_calls.specs.declared.call.Step.TheVariants as steps
use Rattle.tk_calls.specs.declared.call.LineReply.{LineReply}
use Rattle.tk_calls.specs.Planned.{key_reply}

abbrev pub is_unordered : Order → Bool
is_unordered orders.Hash = true
is_unordered orders.Bytes = false
is_unordered orders.Case = false
is_unordered orders.Decimal = false
is_unordered orders.Hex = false

abbrev pub found_or_not : (found : Bool) → Status
found_or_not true = statuses.Success
found_or_not false = statuses.NotFound

-- at a record that was found, or behind it
abbrev pub place_at : Option Pair → Position
place_at None = Nowhere
place_at (Some p) = At p.key

abbrev pub place_behind : Option Pair → Position
place_behind None = Nowhere
place_behind (Some p) = After p.key

-- key and value
abbrev pub pair_fields : Option Pair → List (Option (List ℕ))
pair_fields None = None ∷ None ∷ []
pair_fields (Some p) = Some p.key ∷ Some p.value ∷ []

abbrev pub value_fields : List ℕ → Option (List ℕ) → List (Option (List ℕ))
value_fields k None = None ∷ None ∷ []
value_fields k (Some v) = Some k ∷ Some v ∷ []

-- what is told of a found record, and where the iterator stands then
abbrev pub fields_if : (shown : Bool) → Option Pair → List (Option (List ℕ))
fields_if true found = pair_fields found
fields_if false found = []

abbrev pub place_by : (behind : Bool) → Option Pair → Position
place_by true found = place_behind found
place_by false found = place_at found

-- a search: it succeeds also at the end, and the iterator stands at what was found
abbrev pub search_reply : Order → Way → Bound → List Pair → LineReply
search_reply o way bound m = record {
  status = statuses.Success;
  fields = [];
  entry = entries.Next way bound (named o way bound m) Keep;
  position = place_at (named o way bound m);
}

-- what becomes of a record that a search found
abbrev pub found_action : Option Pair → Action → Action
found_action None a = Keep
found_action (Some p) a = unless_long a

abbrev pub found_status : Option Pair → Action → Status
found_status None a = statuses.NotFound
found_status (Some p) a = status_unless_long a

-- the next record behind a removed key: it is shown or not, the iterator stands at it or behind it, and this becomes of it
abbrev pub behind_reply : Order → List ℕ → (shown behind : Bool) → Action → List Pair → LineReply
behind_reply o k shown behind a m = record {
  status = found_status (named o Up (Over k) m) a;
  fields = fields_if shown (named o Up (Over k) m);
  entry = entries.Next Up (Over k) (named o Up (Over k) m) (found_action (named o Up (Over k) m) a);
  position = place_by behind (named o Up (Over k) m);
}

abbrev pub next_reply : Order → Position → List Pair → LineReply
next_reply o Nowhere m = search_reply o Up Edge m
next_reply o (At k) m = search_reply o Up (Over k) m
next_reply o (After k) m = behind_reply o k false true Keep m

abbrev pub previous_reply : Order → Position → List Pair → LineReply
previous_reply o Nowhere m = search_reply o Down Edge m
previous_reply o (At k) m = search_reply o Down (Over k) m
previous_reply o (After k) m = search_reply o Down (From k) m

abbrev pub iter_get_reply : Order → Position → List Pair → LineReply
iter_get_reply o Nowhere m = search_reply o Up Edge m
iter_get_reply o (At k) m = key_reply o (At k) (get_reply (find k m)).status (value_fields k (find k m)) k steps.Get m
iter_get_reply o (After k) m = behind_reply o k true false Keep m

abbrev pub iter_set_reply : Order → (value : List ℕ) → Position → List Pair → LineReply
iter_set_reply o v Nowhere m = search_reply o Up Edge m
iter_set_reply o v (At k) m = key_reply o (At k) (found_or_not (is_some (find k m))) [] k (steps.Replace v) m
iter_set_reply o v (After k) m = behind_reply o k false false (Put v) m

abbrev pub removed_place : List ℕ → Option (List ℕ) → Position
removed_place k None = At k
removed_place k (Some v) = After k

abbrev pub iter_remove_reply : Order → Position → List Pair → LineReply
iter_remove_reply o Nowhere m = search_reply o Up Edge m
iter_remove_reply o (At k) m = key_reply o (removed_place k (find k m)) (remove_reply (find k m)).status [] k steps.Remove m
iter_remove_reply o (After k) m = behind_reply o k false true Drop m

abbrev pub there_place : List ℕ → Option (List ℕ) → Position
there_place k None = Nowhere
there_place k (Some v) = At k

-- on an unordered kind a jump looks at its key alone
abbrev pub jump_reply : Order → List ℕ → List Pair → LineReply
jump_reply o k m =
    if is_unordered o then key_reply o (there_place k (find k m)) (get_reply (find k m)).status [] k steps.Get m
    else search_reply o Up (From k) m

abbrev pub bound_of : (inclusive : Bool) → List ℕ → Bound
bound_of true k = From k
bound_of false k = Over k
