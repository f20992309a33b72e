use Rattle.std.proofs.Common.{ap, ◌∙◌}
use Rattle.tk_model.specs.Hashes.{mix_of}
use Rattle.tk_store.specs.Hashed.{bucket_in}
use Rattle.tk_model.specs.Records.{put}
use Rattle.tk_model.specs.declared.record.Order.TheVariants.{Hash}
use Rattle.tk_store.proofs.Joined.{put_joined, put_kept}
use Rattle.tk_store.proofs.hashed.HashedRecords.put.Goals as goal

pub invariant_of-self-2 : goal.invariant_of-self-2
invariant_of-self-2 c =
    let of_key = c.bucket_at-at.ensures.value ∙ ap (bucket_in c.self.inside.parting) (c.mix-hash.ensures ∙ ap mix_of c.as_slice.ensures) in
    put_kept c.self.inside.parting c.args.new c.self.inside.buckets.items c.self.inside.count c.in_ok-self-inside.field-0 c.bucket_at-at.result c.index_mut.result.now c.put_in.new.pairs
    c.self.invariant of_key c.bucket_at-at.ensures.below c.index_mut.ensures.value c.in_ok-self-inside.ensures.ok c.in_ok-self-inside.ensures.counted

pub returns-clause-ok : goal.returns-clause-ok
returns-clause-ok c =
    let of_key = c.bucket_at-at.ensures.value ∙ ap (bucket_in c.self.inside.parting) (c.mix-hash.ensures ∙ ap mix_of c.as_slice.ensures) in
    put_joined c.self.inside.parting c.args.new c.self.inside.buckets.items c.self.inside.count c.bucket_at-at.result c.index_mut.result.now c.put_in.new.pairs
    c.self.invariant of_key c.bucket_at-at.ensures.below c.index_mut.ensures.value c.in_ok-self-inside.ensures.ok ∙ ap (put Hash c.args.new) c.self.view_is
