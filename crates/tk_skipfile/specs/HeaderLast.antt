-- The header of a skip file is written last.
use Rattle.std.specs.Prelude.{◌≡◌, ◌⊎◌, ℕ, List, drop}
use Rattle.std.specs.Io.{StartsWith}
use Rattle.tk_disk.specs.Crash.{PastOnly}
use Rattle.tk_disk.specs.Past.{Write, Past}
use Rattle.tk_model.specs.declared.record.Pair.{Pair}
use Rattle.tk_append.specs.Untorn.{AnyWrite}
use Rattle.tk_skipfile.specs.SkipText.{skip_word, header_size, records_text}

abbrev pub WritesWord : Write → Type 0
WritesWord w = (w.at ≡ 0) × StartsWith w.bytes skip_word

-- the word of a skip file stood at the front at the last hard synchronisation, or was written there since
abbrev pub HasKnownWord : Past → Type 0
HasKnownWord p = StartsWith p.fixed skip_word ⊎ AnyWrite WritesWord p.writes

-- it did before, too
abbrev pub NoNewWord : (before p : Past) → Type 0
NoNewWord before p = HasKnownWord p → HasKnownWord before

-- neither now nor at any moment of a call that was made
pub record WritesNoWord {D : Type 0} (past_of : D → Past) (moment : D → ℕ) (left_with : D → ℕ → Past × List ℕ → Type 0) (old new : D) : Type 0 where
  pub now : NoNewWord (past_of old) (past_of new)
  pub each : PastOnly moment left_with old new (NoNewWord (past_of old))

-- a moment of the writing, by its past: where the word is known by now, it was before, or all records are durable in their places
abbrev pub IsSkipMoment : List Pair → (before p : Past) → Type 0
IsSkipMoment pairs before p = HasKnownWord p → HasKnownWord before ⊎ (drop header_size p.fixed ≡ records_text pairs)
