use Rattle.std.proofs.Common.{◌≡◌, drop}
use Rattle.tk_calls.specs.Replies.{all_there}
use Rattle.tk_calls.proofs.plain.lists.all_there.Given as goal

abbrev pub invariant-loop-key : goal.invariant-loop-key
invariant-loop-key l = all_there l.keys l.records ≡ all_there (drop l.key-index l.keys) l.records
