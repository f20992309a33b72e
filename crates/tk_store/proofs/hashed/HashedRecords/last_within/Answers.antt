use Rattle.std.proofs.Common.{◌∙◌, ap, take, subst, ◌≤◌, ◌^◌}
use Rattle.tk_model.specs.Records.{last_within}
use Rattle.tk_model.specs.declared.record.Order.TheVariants.{Hash}
use Rattle.tk_store.specs.Hashed.{joined}
use Rattle.tk_store.proofs.Bounds.{before_end}
use Rattle.tk_store.proofs.hashed.HashedRecords.last_within.Goals as goal

pub returns : goal.returns
returns c =
    let bound = c.args.bound.now in
    let bs = c.self.inside.buckets.items in
    c.last_before.ensures
    ∙ ap (λ m. last_within Hash bound (joined (take c.end_bucket-end.result m))) c.as_slice.ensures.value
    ∙ ap (λ i. last_within Hash bound (joined (take i bs))) c.end_bucket-end.ensures.value
    ∙ before_end c.self.inside.parting bs c.self.inside.count bound c.self.invariant (subst (λ i. i ≤ 2 ^ c.self.inside.parting.p) c.end_bucket-end.ensures.value c.end_bucket-end.ensures.below) ∙ ap (last_within Hash bound) c.self.view_is
