-- The file of a store in memory: what an opening accepts, and what it answers to another.
use Rattle.std.specs.Prelude.{◌≡◌, ◌≢◌, ◌⊎◌, ℕ, Bool, true, List, [], ◌∷◌, ◌++◌, length, Result, Ok, Err}
use Rattle.tk_flat.specs.Flat.{flat_text, flat_word}
use Rattle.tk_model.specs.Entries.{holds_key}
use Rattle.tk_model.specs.Records.{Rising, AllHeld}
use Rattle.tk_model.specs.RecordText.{BeginsWith}
use Rattle.tk_model.specs.declared.record.Order.TheVariants.{Hash}
use Rattle.tk_model.specs.declared.record.Pair.{Pair}
use Rattle.tk_model.specs.declared.record.ShardOf.{ShardOf}
use Rattle.tk_model.specs.declared.error.OpenError.{OpenError}
use Rattle.tk_model.specs.declared.error.OpenError.TheVariants as errors
use Rattle.tk_model.specs.declared.error.Unopened.{Unopened}

-- each key is of the shard
abbrev pub AllInShard : ShardOf → List Pair → Type 0
AllInShard shard [] = Unit {0}
AllInShard shard (p ∷ ps) = (holds_key shard p.key ≡ true) × AllInShard shard ps

-- records that the file of a shard may hold: none is too long, the keys rise, and each key is of the shard
pub record AreFiled (shard : ShardOf) (pairs : List Pair) : Type 0 where
  pub held : AllHeld pairs
  pub rising : Rising Hash pairs
  pub in_shard : AllInShard shard pairs

-- the file of these records
pub record IsFileOf (shard : ShardOf) (f : List ℕ) (pairs : List Pair) : Type 0 where
  pub filed : AreFiled shard pairs
  pub spelled : f ≡ flat_text pairs

-- no record that may follow these stands at the front
abbrev pub NoneFollows : ShardOf → List Pair → List ℕ → Type 0
NoneFollows shard pairs rest = (p : Pair) (behind : List ℕ) → BeginsWith rest p behind → AreFiled shard (pairs ++ p ∷ []) → ⊥

-- these records stand before the place, and the one that stands there fails
pub record FailsAfter (shard : ShardOf) (f : List ℕ) (place : ℕ) (pairs : List Pair) (rest : List ℕ) : Type 0 where
  pub filed : AreFiled shard pairs
  pub spelled : f ≡ flat_text pairs ++ rest
  pub here : place ≡ length (flat_text pairs)
  pub more : rest ≢ []
  pub none : NoneFollows shard pairs rest

-- the first record that fails stands at this place
abbrev pub FailsAt : ShardOf → List ℕ → ℕ → Type 0
FailsAt shard f place = (pairs : List Pair) × (rest : List ℕ) × FailsAfter shard f place pairs rest

-- an empty file is one without records where it is to be written
abbrev pub IsNew : (writable : Bool) → List ℕ → Type 0
IsNew writable f = (f ≡ []) × (writable ≡ true)

-- what an opening accepts
abbrev pub IsAccepted : ShardOf → (writable : Bool) → List ℕ → List Pair → Type 0
IsAccepted shard writable f pairs = IsFileOf shard f pairs ⊎ (IsNew writable f × (pairs ≡ []))

-- the file doesn't begin with the word of a flat text
pub record IsNoText (writable : Bool) (f : List ℕ) : Type 0 where
  pub no_word : (rest : List ℕ) → f ≢ flat_word ++ rest
  pub old : IsNew writable f → ⊥

-- a cause that speaks of the file is right
abbrev pub IsCause : ShardOf → (writable : Bool) → List ℕ → OpenError → Type 0
IsCause shard writable f errors.NotADatabase = IsNoText writable f
IsCause shard writable f (errors.BrokenAt place) = FailsAt shard f place
IsCause shard writable f errors.Fault = Unit {0}
IsCause shard writable f errors.NoMemory = Unit {0}

-- a cause that says nothing of the file
abbrev pub IsOutside : OpenError → Type 0
IsOutside e = (e ≡ errors.Fault) ⊎ (e ≡ errors.NoMemory)

-- refused for this cause, or for one outside the file
abbrev pub Refuses : {T D : Type 0} → OpenError → Result T (Unopened D) → Type 0
Refuses cause (Ok s) = ⊥
Refuses cause (Err u) = (u.cause ≡ cause) ⊎ IsOutside u.cause
