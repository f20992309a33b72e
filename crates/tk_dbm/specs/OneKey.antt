-- A call at one key.
use Rattle.std.specs.Prelude.{◌≡◌, ◌⊎◌, ℕ, Bool, List, [], ◌∷◌, Option, Some, None, cond}
use Rattle.tk_status.specs.declared.Status.{Status}
use Rattle.tk_model.specs.Records.{find}
use Rattle.tk_model.specs.declared.record.Action.{Action}
use Rattle.tk_model.specs.declared.record.Action.TheVariants.{Keep}
use Rattle.tk_model.specs.declared.record.Pair.{Pair}
use Rattle.tk_model.specs.declared.record.Entry.{Entry}
use Rattle.tk_model.specs.declared.record.Entry.TheVariants as entries
use Rattle.tk_proc.specs.Runs.{keys_entry, run_status}
use Rattle.tk_core.specs.Caller.{Caller}
use Rattle.tk_core.specs.Rule.{known, map_after}
use Rattle.tk_locks.specs.View.{View}
use Rattle.tk_dbm.specs.Setting.{Setting, records_at, records_seen, AllTell, uses_key}

-- a call that does one thing at one key
abbrev pub one : List ℕ → Option (List ℕ) → Action → Entry
one k was a = entries.Proc (record { key = k; was = was; action = a } ∷ [])

module _ {P : Type 0} (acts : P → List ℕ → Option (List ℕ) → Action) (turns : P → List ℕ → Option (List ℕ) → P) where
  -- what the call does on these records, and what it answers
  abbrev pub key_entry : Setting → (writable : Bool) → P → List ℕ → List Pair → Entry
  key_entry s writable p k m = keys_entry acts turns s.frame.order writable p (k ∷ []) m

  abbrev pub key_status : Setting → (writable : Bool) → P → List ℕ → List Pair → Status
  key_status s writable p k m = run_status acts turns s.frame.order writable p (k ∷ []) m

  -- what the call is where the store i tells its records; elsewhere one that keeps what is known
  abbrev pub picked_entry : Setting → (writable : Bool) → P → List ℕ → ℕ → Caller → Entry
  picked_entry s writable p k i v = cond (s.tells i) (key_entry s writable p k (map_after s.frame s.first v.base)) (one k (known s.frame s.first v k) Keep)

  -- With a number the processor was asked about the value before the call. Without one it wasn't asked, or about the value that the pass has seen.
  abbrev pub Turned : Setting → P → List ℕ → View → Option ℕ → P → Type 0
  Turned s p k w None q = (q ≡ p) ⊎ (AllTell s (uses_key s k) → q ≡ turns p k (find k (records_seen s w.caller)))
  Turned s p k w (Some n) q = AllTell s (uses_key s k) → q ≡ turns p k (find k (records_at s w.caller n))
