-- Calls at keys, as plans: a key, and what is to become of its record by the value that it has then.
use Rattle.std.specs.Prelude.{ℕ, true, false, List, [], ◌∷◌, map, Option, Some, None}
use Rattle.tk_status.specs.declared.Status.{Status}
use Rattle.tk_status.specs.declared.Status.TheVariants as statuses
use Rattle.tk_model.specs.Records.{find}
use Rattle.tk_model.specs.Entries.{touched}
use Rattle.tk_model.specs.declared.record.Order.{Order}
use Rattle.tk_model.specs.declared.record.Action.{Action}
use Rattle.tk_model.specs.declared.record.Action.TheVariants.{Keep, Put}
use Rattle.tk_model.specs.declared.record.Pair.{Pair}
use Rattle.tk_model.specs.declared.record.Touch.{Touch}
use Rattle.tk_model.specs.declared.record.Entry.TheVariants as entries
use Rattle.tk_proc.specs.Replies.{get_reply, set_reply, remove_reply, append_reply, exchange_reply}
use Rattle.tk_proc.specs.Increments.{increment_reply}
use Rattle.tk_proc.specs.Runs.{first_long, touches_by}
use Rattle.tk_calls.specs.declared.call.Step.{Step}
use Rattle.tk_calls.specs.declared.call.Step.TheVariants as steps
use Rattle.tk_calls.specs.declared.call.Plan.{Plan}
use Rattle.tk_calls.specs.declared.call.LineReply.{LineReply}
use Rattle.tk_calls.specs.declared.call.Position.{Position}

abbrev pub replaced : (value : List ℕ) → Option (List ℕ) → Action
replaced v None = Keep
replaced v (Some u) = Put v

abbrev pub step_action : Step → Option (List ℕ) → Action
step_action steps.Get was = (get_reply was).action
step_action (steps.Set v) was = (set_reply v true was).action
step_action (steps.Add v) was = (set_reply v false was).action
step_action steps.Remove was = (remove_reply was).action
step_action (steps.Append v d) was = (append_reply v d was).action
step_action (steps.Exchange e d) was = (exchange_reply e d was).action
step_action (steps.Increment n initial) was = (increment_reply n initial was).action
step_action (steps.Replace v) was = replaced v was
step_action (steps.Always a) was = a

abbrev pub plan : List ℕ → Step → Plan
plan k step = record { key = k; step = step }

-- the touch of a plan on these records
abbrev pub plan_touch : Plan → List Pair → Touch
plan_touch p m = record { key = p.key; was = find p.key m; action = step_action p.step (find p.key m) }

-- the touches in turn, each on the records that those before it left
abbrev pub planned : Order → List Plan → List Pair → List Touch
planned o [] m = []
planned o (p ∷ ps) m = plan_touch p m ∷ planned o ps (touched o p.key (plan_touch p m).action m)

abbrev pub keys_planned : List Plan → List (List ℕ)
keys_planned ps = map (λ p. p.key) ps

-- where a value is too long, that is the status, no field is told and every touch keeps
abbrev pub unless_too_long : Option ℕ → Status → Status
unless_too_long None status = status
unless_too_long (Some length) status = statuses.TooLong length

abbrev pub empty_field : Option (List ℕ) → Option (List ℕ)
empty_field field = None

abbrev pub fields_unless_long : Option ℕ → List (Option (List ℕ)) → List (Option (List ℕ))
fields_unless_long None fields = fields
fields_unless_long (Some length) fields = map empty_field fields

-- a call at some keys, with the status and the fields that it has where no value is too long
abbrev pub planned_reply : Order → Position → Status → List (Option (List ℕ)) → List Plan → List Pair → LineReply
planned_reply o p status fields ps m = record {
  status = unless_too_long (first_long (planned o ps m)) status;
  fields = fields_unless_long (first_long (planned o ps m)) fields;
  entry = entries.Proc (touches_by (first_long (planned o ps m)) (keys_planned ps) m (planned o ps m));
  position = p;
}

-- a call at one key
abbrev pub key_reply : Order → Position → Status → List (Option (List ℕ)) → List ℕ → Step → List Pair → LineReply
key_reply o p status fields k step m = planned_reply o p status fields (plan k step ∷ []) m
