use Rattle.std.proofs.Common.{◌<◌, length, arith}
use Rattle.tk_hash.proofs.InOrder.{bucket_small}
use Rattle.tk_hash.proofs.Values.{of_some, cost_told, none_told, other_told, value_told}
use Rattle.tk_hash.proofs.seek.seek_value.Goals as goal

pub returns-in_err-block-clause-cost : goal.returns-in_err-block-clause-cost
returns-in_err-block-clause-cost g c = λ groups.
    cost_told c.args.file.now.head c.args.key.now groups (g.D.Disk.image c.args.disk.now) (length c.args.buffer.now) (g.D.Disk.taken_count c.args.disk.now) (g.D.Disk.taken_count c.find_in_bucket.new.disk) (bucket_small c.args.file.now.head.p c.args.key.now c.requires.p) (c.find_in_bucket.ensures.cost groups)

pub returns-in_default-clause-cost : goal.returns-in_default-clause-cost
returns-in_default-clause-cost g c = λ groups.
    cost_told c.args.file.now.head c.args.key.now groups (g.D.Disk.image c.args.disk.now) (length c.args.buffer.now) (g.D.Disk.taken_count c.args.disk.now) (g.D.Disk.taken_count c.find_in_bucket.new.disk) (bucket_small c.args.file.now.head.p c.args.key.now c.requires.p) (c.find_in_bucket.ensures.cost groups)

pub returns-then-block-ne-SET-clause-cost : goal.returns-then-block-ne-SET-clause-cost
returns-then-block-ne-SET-clause-cost g c = λ groups.
    cost_told c.args.file.now.head c.args.key.now groups (g.D.Disk.image c.args.disk.now) (length c.args.buffer.now) (g.D.Disk.taken_count c.args.disk.now) (g.D.Disk.taken_count c.find_in_bucket.new.disk) (bucket_small c.args.file.now.head.p c.args.key.now c.requires.p) (c.find_in_bucket.ensures.cost groups)

pub returns-clause-cost : goal.returns-clause-cost
returns-clause-cost g c = λ groups.
    cost_told c.args.file.now.head c.args.key.now groups (g.D.Disk.image c.args.disk.now) (length c.args.buffer.now) (g.D.Disk.taken_count c.args.disk.now) (g.D.Disk.taken_count c.find_in_bucket.new.disk) (bucket_small c.args.file.now.head.p c.args.key.now c.requires.p) (c.find_in_bucket.ensures.cost groups)

pub returns-in_default-clause-value : goal.returns-in_default-clause-value
returns-in_default-clause-value g c = λ groups. none_told c.args.file.now.head c.args.key.now groups c.find_in_bucket.new.buffer (g.D.Disk.taken_count c.args.disk.now) (g.D.Disk.taken_count c.find_in_bucket.new.disk) (g.D.Disk.image c.args.disk.now) (length c.args.buffer.now) c.in_ok-block.field-0 (bucket_small c.args.file.now.head.p c.args.key.now c.requires.p) c.in_default.is (c.in_ok-block.ensures.found groups)

pub returns-then-block-ne-SET-clause-value : goal.returns-then-block-ne-SET-clause-value
returns-then-block-ne-SET-clause-value g c = λ groups. other_told c.args.file.now.head c.args.key.now groups c.find_in_bucket.new.buffer (g.D.Disk.taken_count c.args.disk.now) (g.D.Disk.taken_count c.find_in_bucket.new.disk) (g.D.Disk.image c.args.disk.now) (length c.args.buffer.now) c.in_ok-block.field-0 c.in-Some.block (bucket_small c.args.file.now.head.p c.args.key.now c.requires.p) c.in-Some.is c.if-block-ne-SET.true (c.in_ok-block.ensures.found groups)

pub returns-clause-value : goal.returns-clause-value
returns-clause-value g c = λ groups.
    value_told c.args.file.now.head c.args.key.now groups c.find_in_bucket.new.buffer (g.D.Disk.taken_count c.args.disk.now) (g.D.Disk.taken_count c.find_in_bucket.new.disk) (g.D.Disk.image c.args.disk.now) (length c.args.buffer.now) c.in_ok-block.field-0 c.in-Some.block (bucket_small c.args.file.now.head.p c.args.key.now c.requires.p) c.in-Some.is c.if-block-ne-SET.false c.find_in_bucket.auto.buffer c.requires.front
    (omega (arith, of_some c.in_ok-block.field-0 c.in-Some.block (length c.args.key.now < 65536) c.in-Some.is c.in_ok-block.ensures.short, c.requires.key)) (c.in_ok-block.ensures.found groups) (c.find_in_bucket.ensures.cost groups)
