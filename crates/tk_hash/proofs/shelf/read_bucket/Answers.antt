use Rattle.std.proofs.Common.{◌≡◌, ℕ, List, ◌<◌, ◌^◌, length, subst}
use Rattle.std.specs.Prelude.{Option, IfSome}
use Rattle.tk_buckets.specs.Chain.{places_in}
use Rattle.tk_buckets.specs.Lookup.{AllStand}
use Rattle.tk_hash.specs.Chain.{chain_of}
use Rattle.tk_hash.specs.Shelf.{left_by}
use Rattle.tk_hash.proofs.BucketReads.{bucket_read}
use Rattle.tk_hash.proofs.shelf.read_bucket.Goals as goal

pub returns-clause-value : goal.returns-clause-value
returns-clause-value g c = λ groups.
    let h = c.args.file.now.head in
    let blocks = chain_of h c.args.bucket groups in
    let records = c.read_blocks.new.records in
    bucket_read (g.D.Disk.image c.args.disk.now) h groups c.args.bucket c.in_ok-places.places records c.requires.bucket (c.in_ok-places.ensures.value groups)
    (subst (λ (o : Option (List ℕ)). IfSome o (λ f. AllStand h f blocks → length f < 2 ^ 64 → c.in_ok-places.places ≡ places_in blocks → records ≡ left_by blocks)) c.places_of.ensures.image
    (subst (λ (l : List ℕ). IfSome (g.D.Disk.image c.places_of.new.disk) (λ f. AllStand h f blocks → length f < 2 ^ 64 → l ≡ places_in blocks → records ≡ left_by blocks)) c.as_slice.ensures (c.in_ok-read_blocks.ensures.value h blocks)))
