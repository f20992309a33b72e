use Rattle.std.proofs.Common.{ap, ◌∙◌}
use Rattle.tk_model.specs.Records.{without}
use Rattle.tk_store.specs.Hashed.{bucket_in}
use Rattle.tk_store.proofs.Joined.{without_joined, without_kept, bucket_within}
use Rattle.tk_store.proofs.hashed.HashedRecords.remove.Goals as goal

pub drop_in-self-inside-requires-clause-count : goal.drop_in-self-inside-requires-clause-count
drop_in-self-inside-requires-clause-count c =
    bucket_within c.self.inside.parting c.self.inside.buckets.items c.self.inside.count c.bucket_at-at.result c.index_mut.result.now
    c.self.invariant c.bucket_at-at.ensures.below c.index_mut.ensures.value

pub invariant_of-self : goal.invariant_of-self
invariant_of-self c =
    without_kept c.self.inside.parting c.args.key.now c.self.inside.buckets.items c.self.inside.count c.drop_in-self-inside.result c.bucket_at-at.result c.index_mut.result.now c.drop_in-self-inside.new.pairs
    c.self.invariant c.bucket_at-at.ensures.below c.index_mut.ensures.value c.drop_in-self-inside.ensures.rest c.drop_in-self-inside.ensures.counted

pub returns : goal.returns
returns c =
    without_joined c.self.inside.parting c.args.key.now c.self.inside.buckets.items c.self.inside.count c.bucket_at-at.result c.index_mut.result.now c.drop_in-self-inside.new.pairs
    c.self.invariant (c.bucket_at-at.ensures.value ∙ ap (bucket_in c.self.inside.parting) c.mix-hash.ensures) c.bucket_at-at.ensures.below c.index_mut.ensures.value c.drop_in-self-inside.ensures.rest ∙ ap (without c.args.key.now) c.self.view_is
