use Rattle.std.proofs.Common.{◌≡◌, List, get_or, refl}
use Rattle.std.specs.Prelude.{IfOk}
use Rattle.tk_buckets.specs.Chain.{IsLinked, places_in}
use Rattle.tk_hash.specs.Chain.{chain_of}
use Rattle.tk_hash.proofs.Values.{file_long, linked_told, in_file}
use Rattle.tk_hash.proofs.shelf.places_of.Goals as goal

pub chain-requires : goal.chain-requires
chain-requires g c = record { len = file_long (g.D.Disk.image c.args.disk.now) c.args.file.now c.requires.file }

pub returns-in-Ok-clause-value : goal.returns-in-Ok-clause-value
returns-in-Ok-clause-value g c = λ groups.
    let m = c.args.file.now in
    let places = places_in (chain_of m.head c.args.bucket groups) in
    in_file m.head groups (g.D.Disk.image c.args.disk.now) (λ f. IsLinked m.head f (get_or m.heads.now c.args.bucket 0) places) (λ f. c.in-Ok.places ≡ places)
    (linked_told (g.D.Disk.image c.args.disk.now) m c.args.bucket (get_or m.heads.now c.args.bucket 0) groups c.requires.file refl c.requires.bucket) (c.in-Ok.ensures.all m.head places)
