use Rattle.std.proofs.Common.{◌≡◌, take}
use Rattle.tk_store.proofs.hashed.copy_of_all.Given as goal

abbrev pub invariant-loop-bucket : goal.invariant-loop-bucket
invariant-loop-bucket l = l.copies.items ≡ take l.bucket-index l.buckets.items
