use Rattle.std.proofs.Common.{◌≡◌, drop}
use Rattle.tk_batch.specs.Arguments.{all_keys}
use Rattle.tk_batch.proofs.script.several.are_keys.Given as goal

abbrev pub invariant-loop-key : goal.invariant-loop-key
invariant-loop-key l = all_keys l.keys ≡ all_keys (drop l.key-index l.keys)
