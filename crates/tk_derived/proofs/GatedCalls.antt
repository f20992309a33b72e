-- A call whose processor passes a gate.
use Rattle.std.proofs.Common.{◌≡◌, ℕ, Bool, List, Option, Some, unwrap_or, if◌then◌else◌, ap, ◌∙◌}
use Rattle.tk_status.specs.declared.Status.{Status}
use Rattle.tk_model.specs.Records.{find}
use Rattle.tk_model.specs.declared.record.Action.{Action}
use Rattle.tk_model.specs.declared.record.Entry.{Entry}
use Rattle.tk_proc.specs.declared.gates.Gated.{Gated}
use Rattle.tk_proc.specs.Runs.{counted}
use Rattle.tk_locks.specs.View.{View}
use Rattle.tk_dbm.specs.declared.answer.Answer.{Answer}
use Rattle.tk_dbm.specs.Setting.{Setting, records_at, AllTell, uses_key}
use Rattle.tk_dbm.specs.Calls.{Called}
use Rattle.tk_dbm.specs.OneKey.{key_entry, key_status, Turned}
use Rattle.tk_derived.specs.Rows.{Row}
use Rattle.tk_derived.specs.Derived.{Derived, IsTold}
use Rattle.tk_derived.specs.Answering.{succeeded, answered}
use Rattle.tk_derived.proofs.Replied.{IsReply, derives, tells, turned_at}

module _ {P G : Type 0} (acts : P → List ℕ → Option (List ℕ) → Action) (turns : P → List ℕ → Option (List ℕ) → P) where
  abbrev gated_acts : Gated P G → List ℕ → Option (List ℕ) → Action
  gated_acts g k was = acts g.processor k was

  abbrev gated_turns : Gated P G → List ℕ → Option (List ℕ) → Gated P G
  gated_turns g k was = record { processor = turns g.processor k was; at = g.at }

  -- a call of the database with such a processor, and what is known of its row
  pub record IsGatedCall (s : Setting) (full : List Entry → Entry → ℕ → ℕ → ℕ → Type 0) (room : List Entry → Entry → Type 0) (writes : Bool) (key : List ℕ) (row : Option (List ℕ) → Row)
      (g : Gated P G) (v : View) (made : Answer) (w : View) (q : Gated P G) : Type 0 where
    pub called : Called s full room writes (uses_key s key) (key_status gated_acts gated_turns s writes g key) (key_entry gated_acts gated_turns s writes g key) v made w
    pub turned : Turned gated_acts gated_turns s g key w made.number q
    pub same : (was : Option (List ℕ)) → counted writes (acts g.processor key was) ≡ (row was).action
    pub fair : (was : Option (List ℕ)) → IsReply (row was).status

  module _ {s : Setting} {full : List Entry → Entry → ℕ → ℕ → ℕ → Type 0} {room : List Entry → Entry → Type 0} {writes : Bool} {key : List ℕ} {row : Option (List ℕ) → Row}
      {g : Gated P G} {v : View} {made : Answer} {w : View} {q : Gated P G} (call : IsGatedCall s full room writes key row g v made w q) where
    -- the processor behind a call with a number
    behind : (n : ℕ) → made.number ≡ Some n → AllTell s (uses_key s key) → q.processor ≡ turns g.processor key (find key (records_at s w.caller n))
    behind n e all = ap (λ (z : Gated P G). z.processor) (turned_at gated_acts gated_turns s writes g key row call.same w made.number q call.turned n e all)

    -- where the processor's answer is the row's
    pub derived_by : (st : Status) → ((was : Option (List ℕ)) → q.processor ≡ turns g.processor key was → st ≡ (row was).status) → Derived s full room writes key row v (answered made st) w
    derived_by st is = derives gated_acts gated_turns s writes g key row call.same full room v made w call.called call.fair st (λ n e all. is (find key (records_at s w.caller n)) (behind n e all))

    -- where the out parameter is the row's
    pub told_by : {A : Type 0} (value : Option (List ℕ) → Option A) (st : Status) (val : Option A) (old new : A)
        → new ≡ (if succeeded made then unwrap_or val old else old)
        → ((was : Option (List ℕ)) → q.processor ≡ turns g.processor key was → val ≡ value was)
        → IsTold s key value (answered made st) w old new
    told_by value st val old new is told = tells gated_acts gated_turns s writes g key row call.same full room v made w call.called call.fair value st old new
        (λ h. is ∙ ap (λ (b : Bool). if b then unwrap_or val old else old) h)
        (λ n e all yes. is ∙ ap (λ (b : Bool). if b then unwrap_or val old else old) yes ∙ ap (λ z. unwrap_or z old) (told (find key (records_at s w.caller n)) (behind n e all)))
