use Rattle.std.proofs.Common.{length, ◌<◌, arith}
use Rattle.tk_hash.specs.Chain.{cost_in}
use Rattle.tk_hash.proofs.Values.{of_some, gives_none, gives_told, cost_given}
use Rattle.tk_hash.proofs.seek.get_value.Goals as goal

pub give_value-requires : goal.give_value-requires
give_value-requires g c = omega (arith, of_some c.in_ok-block.field-0 c.in-Some.block (length c.args.key.now < 65536) c.in-Some.is c.in_ok-block.ensures.short, c.seek_value.auto.buffer, c.requires.buffer)

pub returns-in_default-clause-value : goal.returns-in_default-clause-value
returns-in_default-clause-value g c = λ groups.
    gives_none c.args.file.now.head c.args.key.now groups c.seek_value.new.buffer (g.D.Disk.taken_count c.args.disk.now) (g.D.Disk.taken_count c.seek_value.new.disk) (g.D.Disk.taken_count c.args.disk.now) (cost_in c.args.file.now.head groups c.args.key.now) c.in_ok-block.field-0 (g.D.Disk.image c.args.disk.now) c.args.out.now c.in_default.is (c.in_ok-block.ensures.value groups)

pub returns-in_err-give_value-clause-cost : goal.returns-in_err-give_value-clause-cost
returns-in_err-give_value-clause-cost g c = λ groups.
    cost_given c.args.file.now.head c.args.key.now groups c.seek_value.new.buffer (g.D.Disk.taken_count c.args.disk.now) (g.D.Disk.taken_count c.seek_value.new.disk) (g.D.Disk.taken_count c.args.disk.now) (cost_in c.args.file.now.head groups c.args.key.now) c.in_ok-block.field-0 (g.D.Disk.image c.args.disk.now) c.in-Some.block c.in-Some.block.value_len (g.D.Disk.taken_count c.give_value.new.disk) c.in-Some.is (omega arith) c.give_value.ensures.cost (c.in_ok-block.ensures.value groups)

pub returns-clause-value : goal.returns-clause-value
returns-clause-value g c = λ groups.
    gives_told c.args.file.now.head c.args.key.now groups c.seek_value.new.buffer (g.D.Disk.taken_count c.args.disk.now) (g.D.Disk.taken_count c.seek_value.new.disk) (g.D.Disk.taken_count c.args.disk.now) (cost_in c.args.file.now.head groups c.args.key.now) c.in_ok-block.field-0 (g.D.Disk.image c.args.disk.now) (g.D.Disk.image c.seek_value.new.disk) c.in-Some.block c.args.out.now c.give_value.new.out c.seek_value.ensures.image c.in-Some.is (c.in_ok-block.ensures.value groups) c.in_ok-give_value.ensures.value

pub returns-clause-cost : goal.returns-clause-cost
returns-clause-cost g c = λ groups.
    cost_given c.args.file.now.head c.args.key.now groups c.seek_value.new.buffer (g.D.Disk.taken_count c.args.disk.now) (g.D.Disk.taken_count c.seek_value.new.disk) (g.D.Disk.taken_count c.args.disk.now) (cost_in c.args.file.now.head groups c.args.key.now) c.in_ok-block.field-0 (g.D.Disk.image c.args.disk.now) c.in-Some.block c.in-Some.block.value_len (g.D.Disk.taken_count c.give_value.new.disk) c.in-Some.is (omega arith) c.give_value.ensures.cost (c.in_ok-block.ensures.value groups)
