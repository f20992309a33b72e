use Rattle.std.proofs.Common.{length, ◌∙◌, ap, refl, arith}
use Rattle.tk_hash.proofs.Given.{held_told, whole_told}
use Rattle.tk_hash.proofs.seek.give_value.Goals as goal

pub returns-clause-value : goal.returns-clause-value
returns-clause-value g c =
    whole_told (g.D.Disk.image c.args.disk.now) c.args.block.now c.args.buffer.now c.args.key.now c.args.block.now.value_len c.in_ok-bytes.bytes.len c.in_ok-bytes.bytes.items c.deref_mut.result.now c.fill_answer.new.into c.from_vec.result c.from_vec.ensures c.in_ok-bytes.bytes.ok.0 c.in_ok-bytes.ensures.length
    (c.fill_answer.auto.into ∙ ap length c.deref_mut.ensures.value ∙ c.in_ok-bytes.ensures.length) (ap length c.deref_mut.ensures.value ∙ c.in_ok-bytes.ensures.length) c.in_ok-fill_answer.ensures.filled refl
