use Rattle.std.proofs.Common.{◌≡◌, drop}
use Rattle.tk_calls.specs.Replies.{all_met}
use Rattle.tk_calls.proofs.plain.lists.all_met.Given as goal

abbrev pub invariant-loop-pair : goal.invariant-loop-pair
invariant-loop-pair l = all_met l.expected l.records ≡ all_met (drop l.pair-index l.expected) l.records
