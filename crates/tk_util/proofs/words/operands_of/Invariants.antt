use Rattle.std.proofs.Common.{◌≡◌, ◌++◌, take, drop}
use Rattle.std.specs.Prelude.{option_map}
use Rattle.tk_util.specs.Words.{operands, words_of}
use Rattle.tk_util.proofs.words.operands_of.Given as goal

-- the words so far are operands before those of the rest
abbrev pub invariant-loop-i : goal.invariant-loop-i
invariant-loop-i l = operands (words_of l.words) ≡ option_map (λ rest. words_of (take l.i l.words) ++ rest) (operands (words_of (drop l.i l.words)))
