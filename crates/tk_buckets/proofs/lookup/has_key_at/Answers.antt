use Rattle.std.proofs.Common.{ℕ, length, take, drop, sym, ◌∙◌, ap, arith}
use Rattle.tk_model.specs.Orders.{same_bytes}
use Rattle.tk_buckets.proofs.Seen.{not_seen_told, seen_told, cost_told}
use Rattle.tk_buckets.proofs.lookup.has_key_at.Goals as goal

pub returns-then-not-may_have-clause-sees : goal.returns-then-not-may_have-clause-sees
returns-then-not-may_have-clause-sees g c =
    not_seen_told (g.D.Disk.image c.args.disk.now) c.args.place c.args.key.now c.args.buffer.now c.read_part.new.buffer c.in_ok-read_part.ensures.bytes (sym c.may_have.ensures.value ∙ c.if-not-may_have.true)

pub returns-in_err-read_part-2-clause-cost : goal.returns-in_err-read_part-2-clause-cost
returns-in_err-read_part-2-clause-cost g c =
    cost_told (g.D.Disk.image c.args.disk.now) c.args.place c.args.key.now c.args.buffer.now c.read_part.new.buffer c.min-end.result (length c.args.buffer.now) (g.D.Disk.taken_count c.args.disk.now) (g.D.Disk.taken_count c.read_part.new.disk) (g.D.Disk.taken_count c.read_part-2.new.disk)
    c.in_ok-read_part.ensures.bytes (sym c.may_have.ensures.value ∙ c.if-not-may_have.false) (omega (arith, c.min-end.ensures, c.u32_at.ensures, c.read_part.auto.buffer)) c.read_part.ensures.cost c.read_part-2.ensures.cost

pub returns-clause-sees : goal.returns-clause-sees
returns-clause-sees g c =
    seen_told (g.D.Disk.image c.args.disk.now) (g.D.Disk.image c.read_part.new.disk) c.args.place c.args.key.now c.args.buffer.now c.read_part.new.buffer c.read_part-2.new.buffer c.min-end.result (length c.args.buffer.now) c.is_same.result c.read_part.ensures.image
    c.in_ok-read_part.ensures.bytes (sym c.may_have.ensures.value ∙ c.if-not-may_have.false) (omega (arith, c.min-end.ensures, c.u32_at.ensures, c.read_part.auto.buffer)) c.in_ok-read_part-2.ensures.bytes (c.read_part-2.auto.buffer ∙ c.read_part.auto.buffer) c.requires.key
    (c.is_same.ensures ∙ ap (λ (n : ℕ). same_bytes c.args.key.now (take n (drop 40 c.read_part-2.new.buffer))) (omega arith))

pub returns-clause-cost : goal.returns-clause-cost
returns-clause-cost g c =
    cost_told (g.D.Disk.image c.args.disk.now) c.args.place c.args.key.now c.args.buffer.now c.read_part.new.buffer c.min-end.result (length c.args.buffer.now) (g.D.Disk.taken_count c.args.disk.now) (g.D.Disk.taken_count c.read_part.new.disk) (g.D.Disk.taken_count c.read_part-2.new.disk)
    c.in_ok-read_part.ensures.bytes (sym c.may_have.ensures.value ∙ c.if-not-may_have.false) (omega (arith, c.min-end.ensures, c.u32_at.ensures, c.read_part.auto.buffer)) c.read_part.ensures.cost c.read_part-2.ensures.cost
