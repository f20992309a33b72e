use Rattle.std.proofs.Common.{◌≡◌, ◌++◌, drop}
use Rattle.tk_proc.specs.Runs.{keys_of}
use Rattle.tk_calls.proofs.plain.lists.keys_of.Given as goal

abbrev pub invariant-loop-pair : goal.invariant-loop-pair
invariant-loop-pair l = l.keys ++ keys_of (drop l.pair-index l.records) ≡ keys_of l.records
