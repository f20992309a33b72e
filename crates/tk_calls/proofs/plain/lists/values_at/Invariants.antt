use Rattle.std.proofs.Common.{◌≡◌, ◌++◌, drop, map}
use Rattle.tk_model.specs.Records.{find}
use Rattle.tk_calls.proofs.plain.lists.values_at.Given as goal

abbrev pub invariant-loop-key : goal.invariant-loop-key
invariant-loop-key l = l.fields ++ map (λ k. find k l.records) (drop l.key-index l.keys) ≡ map (λ k. find k l.records) l.keys
