use Rattle.std.proofs.Common.{ap, ◌∙◌}
use Rattle.tk_model.specs.Records.{find}
use Rattle.tk_store.specs.Hashed.{bucket_in}
use Rattle.tk_store.proofs.Joined.{found}
use Rattle.tk_store.proofs.hashed.HashedRecords.get.Goals as goal

pub returns : goal.returns
returns c =
    let key = c.args.key.now in
    c.value_in.ensures ∙ ap (find key) c.as_slice.ensures
    ∙ found c.self.inside.parting key c.self.inside.buckets.items c.self.inside.count c.bucket_at.result c.index.result.now c.self.invariant (c.bucket_at.ensures.value ∙ ap (bucket_in c.self.inside.parting) c.mix-hash.ensures) c.bucket_at.ensures.below c.index.ensures
    ∙ ap (find key) c.self.view_is
