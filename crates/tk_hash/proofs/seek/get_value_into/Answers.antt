use Rattle.std.proofs.Common.{length, ◌<◌, arith}
use Rattle.std.proofs.lemmas.List.{length-take}
use Rattle.tk_hash.specs.Chain.{cost_in}
use Rattle.tk_hash.proofs.Values.{of_some, into_none, into_told, cost_given}
use Rattle.tk_hash.proofs.seek.get_value_into.Goals as goal

pub fill_answer-requires : goal.fill_answer-requires
fill_answer-requires g c =
    omega (arith, of_some c.in_ok-block.field-0 c.in-Some.block (length c.args.key.now < 65536) c.in-Some.is c.in_ok-block.ensures.short, c.seek_value.auto.buffer, length-take c.window-end.result c.args.buffer.now, c.window-end.ensures.within, c.window-end.ensures.key)

pub returns-in_default-clause-value : goal.returns-in_default-clause-value
returns-in_default-clause-value g c = λ groups.
    into_none c.args.file.now.head c.args.key.now groups c.seek_value.new.buffer (g.D.Disk.taken_count c.args.disk.now) (g.D.Disk.taken_count c.seek_value.new.disk) (g.D.Disk.taken_count c.args.disk.now) (cost_in c.args.file.now.head groups c.args.key.now) c.in_ok-block.field-0 (g.D.Disk.image c.args.disk.now) c.args.into.now c.in_default.is (c.in_ok-block.ensures.value groups)

pub returns-in_err-fill_answer-clause-cost : goal.returns-in_err-fill_answer-clause-cost
returns-in_err-fill_answer-clause-cost g c = λ groups.
    cost_given c.args.file.now.head c.args.key.now groups c.seek_value.new.buffer (g.D.Disk.taken_count c.args.disk.now) (g.D.Disk.taken_count c.seek_value.new.disk) (g.D.Disk.taken_count c.args.disk.now) (cost_in c.args.file.now.head groups c.args.key.now) c.in_ok-block.field-0 (g.D.Disk.image c.args.disk.now) c.in-Some.block c.min-count.result (g.D.Disk.taken_count c.fill_answer.new.disk) c.in-Some.is (omega (arith, c.min-count.ensures))
    (omega (arith, c.fill_answer.ensures.cost, length-take c.min-count.result c.args.into.now, c.min-count.ensures)) (c.in_ok-block.ensures.value groups)

pub returns-clause-value : goal.returns-clause-value
returns-clause-value g c = λ groups.
    into_told c.args.file.now.head c.args.key.now groups c.seek_value.new.buffer (g.D.Disk.taken_count c.args.disk.now) (g.D.Disk.taken_count c.seek_value.new.disk) (g.D.Disk.taken_count c.args.disk.now) (cost_in c.args.file.now.head groups c.args.key.now) c.in_ok-block.field-0 (g.D.Disk.image c.args.disk.now) (g.D.Disk.image c.seek_value.new.disk) c.in-Some.block c.min-count.result c.args.into.now c.fill_answer.new.into c.seek_value.ensures.image c.in-Some.is c.min-count.ensures (c.in_ok-block.ensures.value groups) c.in_ok-fill_answer.ensures.filled

pub returns-clause-cost : goal.returns-clause-cost
returns-clause-cost g c = λ groups.
    cost_given c.args.file.now.head c.args.key.now groups c.seek_value.new.buffer (g.D.Disk.taken_count c.args.disk.now) (g.D.Disk.taken_count c.seek_value.new.disk) (g.D.Disk.taken_count c.args.disk.now) (cost_in c.args.file.now.head groups c.args.key.now) c.in_ok-block.field-0 (g.D.Disk.image c.args.disk.now) c.in-Some.block c.min-count.result (g.D.Disk.taken_count c.fill_answer.new.disk) c.in-Some.is (omega (arith, c.min-count.ensures))
    (omega (arith, c.fill_answer.ensures.cost, length-take c.min-count.result c.args.into.now, c.min-count.ensures)) (c.in_ok-block.ensures.value groups)
