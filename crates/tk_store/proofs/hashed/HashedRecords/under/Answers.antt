use Rattle.std.proofs.Common.{arith, ◌∙◌, ap}
use Rattle.tk_store.specs.Hashed.{joined}
use Rattle.tk_store.proofs.Joined.{joined_none, empty_kept}
use Rattle.tk_store.proofs.hashed.HashedRecords.under.Goals as goal

pub invariant_of-result : goal.invariant_of-result
invariant_of-result c = empty_kept _ c.number_of_buckets.result _ c.requires.p (omega (arith, c.requires.shared, c.requires.p)) c.number_of_buckets.ensures c.in_ok-buckets.ensures

pub returns : goal.returns
returns c = ap joined c.in_ok-buckets.ensures ∙ joined_none c.number_of_buckets.result
