use Rattle.std.proofs.Common.{sym, ◌∙◌, ◌-◌, arith, length, drop}
use Rattle.std.proofs.lemmas.List.{length-take, length-drop}
use Rattle.tk_append.proofs.Rereading.{stops_none, stops_refused, reads_on, extent_some}
use Rattle.tk_append.proofs.restore.Reading.step.Goals as goal

pub returns-in_default-clause-read : goal.returns-in_default-clause-read
returns-in_default-clause-read c h = stops_none h c.args.bytes.now c.args.place c.args.self.now c.requires c.in_default.ensures

pub returns-then-not-may_read-clause-read : goal.returns-then-not-may_read-clause-read
returns-then-not-may_read-clause-read c h =
    stops_refused h c.args.bytes.now c.args.place c.args.self.now c.in-Some.found c.requires c.in-Some.ensures (λ w knows. sym (c.may_read.ensures w knows) ∙ c.if-not-may_read.true)

pub returns-clause-read : goal.returns-clause-read
returns-clause-read c h =
    reads_on h c.args.bytes.now c.args.place _ c.args.self.now c.add.new.self c.in-Some.found c.requires c.in-Some.ensures (λ w knows. sym (c.may_read.ensures w knows) ∙ c.if-not-may_read.false)
    (λ w knows. c.in_ok-add.ensures w c.in-Some.found.extent knows) (omega (arith, c.min.ensures, length-take (length c.args.bytes.now - c.args.place) (drop c.args.place c.args.bytes.now), length-drop c.args.place c.args.bytes.now))

pub returns-clause-further : goal.returns-clause-further
returns-clause-further c =
    omega (arith, c.requires, c.min.ensures, length-take (length c.args.bytes.now - c.args.place) (drop c.args.place c.args.bytes.now), length-drop c.args.place c.args.bytes.now, extent_some c.args.place c.in-Some.found.extent _ c.in-Some.ensures.head)
