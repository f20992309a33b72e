use Rattle.std.proofs.Common.{◌∙◌, ap, drop}
use Rattle.tk_model.specs.Records.{first_within}
use Rattle.tk_model.specs.declared.record.Order.TheVariants.{Hash}
use Rattle.tk_store.specs.Hashed.{joined}
use Rattle.tk_store.proofs.Bounds.{from_start}
use Rattle.tk_store.proofs.hashed.HashedRecords.first_within.Goals as goal

pub returns : goal.returns
returns c =
    let bound = c.args.bound.now in
    let bs = c.self.inside.buckets.items in
    c.first_from.ensures
    ∙ ap (λ m. first_within Hash bound (joined (drop c.first_bucket-start.result m))) c.as_slice.ensures.value
    ∙ ap (λ i. first_within Hash bound (joined (drop i bs))) c.first_bucket-start.ensures.value
    ∙ from_start c.self.inside.parting bs c.self.inside.count bound c.self.invariant ∙ ap (first_within Hash bound) c.self.view_is
