use Rattle.std.proofs.Common.{◌≡◌, ◌+◌, ◌≤◌, List, length}
use Rattle.std.specs.Prelude.{IfOk}
use Rattle.tk_block.specs.Layout.{bucket_in}
use Rattle.tk_buckets.specs.Chain.{IsLinked, places_in}
use Rattle.tk_buckets.specs.Lookup.{Finds, read_of_chain}
use Rattle.tk_hash.specs.Chain.{chain_of}
use Rattle.tk_hash.proofs.Values.{file_long, linked_told, in_file}
use Rattle.tk_hash.proofs.seek.find_in_bucket.Goals as goal

pub find_block-requires-clause-len : goal.find_block-requires-clause-len
find_block-requires-clause-len g c = file_long (g.D.Disk.image c.args.disk.now) c.args.file.now c.requires.file

pub returns-in-Ok-clause-found : goal.returns-in-Ok-clause-found
returns-in-Ok-clause-found g c = λ groups.
    let m = c.args.file.now in
    let bucket = bucket_in m.head.p c.args.key.now in
    let places = places_in (chain_of m.head bucket groups) in
    in_file m.head groups (g.D.Disk.image c.args.disk.now) (λ f. IsLinked m.head f c.first_place-first.result places) (λ f. Finds f c.args.key.now places c.find_block.new.buffer c.in-Ok.found)
    (linked_told (g.D.Disk.image c.args.disk.now) m bucket c.first_place-first.result groups c.requires.file c.first_place-first.ensures.value c.first_place-first.ensures.below) (c.in-Ok.ensures.found m.head places)

pub returns-in-Ok-clause-cost : goal.returns-in-Ok-clause-cost
returns-in-Ok-clause-cost g c = λ groups.
    let m = c.args.file.now in
    let bucket = bucket_in m.head.p c.args.key.now in
    let places = places_in (chain_of m.head bucket groups) in
    in_file m.head groups (g.D.Disk.image c.args.disk.now) (λ f. IsLinked m.head f c.first_place-first.result places) (λ f. g.D.Disk.taken_count c.find_block.new.disk ≤ g.D.Disk.taken_count c.args.disk.now + read_of_chain f c.args.key.now (length c.args.buffer.now) places)
    (linked_told (g.D.Disk.image c.args.disk.now) m bucket c.first_place-first.result groups c.requires.file c.first_place-first.ensures.value c.first_place-first.ensures.below) (c.find_block.ensures.cost m.head places)

pub returns-in-Err-Fault-clause-cost : goal.returns-in-Err-Fault-clause-cost
returns-in-Err-Fault-clause-cost g c = λ groups.
    let m = c.args.file.now in
    let bucket = bucket_in m.head.p c.args.key.now in
    let places = places_in (chain_of m.head bucket groups) in
    in_file m.head groups (g.D.Disk.image c.args.disk.now) (λ f. IsLinked m.head f c.first_place-first.result places) (λ f. g.D.Disk.taken_count c.find_block.new.disk ≤ g.D.Disk.taken_count c.args.disk.now + read_of_chain f c.args.key.now (length c.args.buffer.now) places)
    (linked_told (g.D.Disk.image c.args.disk.now) m bucket c.first_place-first.result groups c.requires.file c.first_place-first.ensures.value c.first_place-first.ensures.below) (c.find_block.ensures.cost m.head places)

pub returns-in-Err-NoMemory-clause-cost : goal.returns-in-Err-NoMemory-clause-cost
returns-in-Err-NoMemory-clause-cost g c = λ groups.
    let m = c.args.file.now in
    let bucket = bucket_in m.head.p c.args.key.now in
    let places = places_in (chain_of m.head bucket groups) in
    in_file m.head groups (g.D.Disk.image c.args.disk.now) (λ f. IsLinked m.head f c.first_place-first.result places) (λ f. g.D.Disk.taken_count c.find_block.new.disk ≤ g.D.Disk.taken_count c.args.disk.now + read_of_chain f c.args.key.now (length c.args.buffer.now) places)
    (linked_told (g.D.Disk.image c.args.disk.now) m bucket c.first_place-first.result groups c.requires.file c.first_place-first.ensures.value c.first_place-first.ensures.below) (c.find_block.ensures.cost m.head places)
