-- What the call of a record processor on one record does to a store.
use Rattle.std.specs.Prelude.{◌≡◌, ℕ, List, [], ◌∷◌, Option, Result, Ok, Err, ◌⊎◌, if◌then◌else◌}
use Rattle.tk_store.specs.declared.error.StoreError.{StoreError}
use Rattle.tk_store.specs.declared.error.StoreError.TheVariants as errors
use Rattle.tk_store.specs.Store.{StoreConstants, StoreView, NeverFull, TellsFull}
use Rattle.tk_model.specs.Records.{find}
use Rattle.tk_model.specs.declared.record.Action.{Action}
use Rattle.tk_model.specs.declared.record.Change.{Change}
use Rattle.tk_model.specs.declared.record.Pair.{Pair}
use Rattle.tk_model.specs.Entries.{stored}
use Rattle.tk_proc.specs.Replies.{Reply}
use Rattle.tk_proc.specs.Runs.{action_changes, is_long, unless_long}
use Rattle.tk_status.specs.declared.Status.{Status}
use Rattle.tk_status.specs.declared.Status.TheVariants.{TooLong}

-- the net changes of a processor's call at a key
abbrev pub call_changes : {P : Type 0} → (acts : P → List ℕ → Option (List ℕ) → Action) → P → List ℕ → List Pair → List Change
call_changes acts p k m = action_changes k (find k m) (unless_long (acts p k (find k m)))

-- the processor was called; where memory or a disk failed, maybe not
abbrev pub TurnsTo : {P T : Type 0} → Result T StoreError → (old turned new : P) → Type 0
TurnsTo (Ok v) old turned new = new ≡ turned
TurnsTo (Err errors.Fault) old turned new = (new ≡ old) ⊎ (new ≡ turned)
TurnsTo (Err (errors.Full size need limit)) old turned new = new ≡ turned
TurnsTo (Err errors.NoMemory) old turned new = (new ≡ old) ⊎ (new ≡ turned)

-- full as a group of these changes is, and never where nothing changes
abbrev pub TellsFullOfChanges : {T : Type 0} → StoreConstants → StoreView → List Change → Result T StoreError → Type 0
TellsFullOfChanges n s [] result = NeverFull result
TellsFullOfChanges n s (c ∷ cs) result = TellsFull n s (c ∷ cs) result

-- the status of a reply: a value that is too long is not stored
abbrev pub reply_status : Reply → Status
reply_status r = if is_long r.action then TooLong (stored r.action) else r.status
