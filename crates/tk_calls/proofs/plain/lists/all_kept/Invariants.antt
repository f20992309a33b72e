use Rattle.std.proofs.Common.{◌≡◌, ◌++◌, drop, map}
use Rattle.tk_proc.specs.Runs.{kept}
use Rattle.tk_calls.proofs.plain.lists.all_kept.Given as goal

abbrev pub invariant-loop-key : goal.invariant-loop-key
invariant-loop-key l = l.touches ++ map (kept l.records) (drop l.key-index l.keys) ≡ map (kept l.records) l.keys
