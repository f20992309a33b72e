-- What the words that were read say.
use Rattle.std.specs.Prelude.{◌≢◌, ℕ, List, ◌++◌, length, ◌<◌, ◌≤◌, ◌^◌}
use Rattle.tk_util.specs.declared.words.KeyOperands.{KeyOperands}
use Rattle.tk_util.specs.declared.words.SetOperands.{SetOperands}
use Rattle.tk_util.specs.declared.words.Operands.{Operands}
use Rattle.tk_util.specs.declared.words.FileCommand.{FileCommand}
use Rattle.tk_util.specs.declared.words.FileCommand.TheVariants as on_file
use Rattle.tk_util.specs.declared.words.RestoreOperands.{RestoreOperands}
use Rattle.tk_util.specs.declared.words.Asked.{Asked}
use Rattle.tk_util.specs.declared.words.Asked.TheVariants as asked
use Rattle.tk_util.specs.Words.{Command, Get, Set, Remove, Restore, KeyWords, SetWords, RestoreWords, words_of}

abbrev pub key_said : KeyOperands → KeyWords
key_said k = record { file = k.file.now; key = k.key.now }

abbrev pub set_said : SetOperands → SetWords
set_said s = record { file = s.file.now; key = s.key.now; value = s.value.now }

abbrev pub restore_said : RestoreOperands → RestoreWords
restore_said r = record { from = r.from.now; to = r.to.now }

-- the command on one file that is asked
abbrev pub file_said : FileCommand → Command
file_said (on_file.Get k) = Get (key_said k)
file_said (on_file.Set s) = Set (set_said s)
file_said (on_file.Remove k) = Remove (key_said k)

-- the command that is asked
abbrev pub command_asked : Asked → Command
command_asked (asked.OnFile a) = file_said a
command_asked (asked.Restore r) = Restore (restore_said r)

-- all operands, in order
abbrev pub all_of : Operands → List (List ℕ)
all_of o = words_of o.before.now ++ words_of o.behind.now

-- key and value are within the limits of a record
abbrev pub IsWithinLimits : FileCommand → Type 0
IsWithinLimits (on_file.Get k) = length k.key.now < 2 ^ 16
IsWithinLimits (on_file.Set s) = (length s.key.now < 2 ^ 16) × (length s.value.now ≤ 16777215)
IsWithinLimits (on_file.Remove k) = length k.key.now < 2 ^ 16

-- the limits are kept, and two names differ
abbrev pub IsWithin : Asked → Type 0
IsWithin (asked.OnFile a) = IsWithinLimits a
IsWithin (asked.Restore r) = r.from.now ≢ r.to.now
