use Rattle.std.proofs.Common.{sym, ◌∙◌}
use Rattle.tk_append.proofs.Checked.{no_static, other_kind, head_found, static_small}
use Rattle.tk_append.proofs.Fronts.{front_long, static_front}
use Rattle.tk_append.proofs.check.head_in.Goals as goal

pub returns-in_default-clause-fails : goal.returns-in_default-clause-fails
returns-in_default-clause-fails c writable shard f starts =
    no_static c.args.kinds.now writable shard f (front_long f c.args.front.now c.requires.long starts) (static_front f c.args.front.now c.requires.long starts ∙ sym c.in_default.ensures.value)

pub returns-then-not-is_among-clause-fails : goal.returns-then-not-is_among-clause-fails
returns-then-not-is_among-clause-fails c writable shard f starts =
    other_kind c.args.kinds.now writable shard f c.in-Some.head (front_long f c.args.front.now c.requires.long starts) (static_front f c.args.front.now c.requires.long starts ∙ sym c.in-Some.ensures.value) (sym c.is_among.ensures ∙ c.if-not-is_among.true)

pub returns-clause-found : goal.returns-clause-found
returns-clause-found c f starts =
    head_found c.args.kinds.now f c.in-Some.head (front_long f c.args.front.now c.requires.long starts) (static_front f c.args.front.now c.requires.long starts ∙ sym c.in-Some.ensures.value) (sym c.is_among.ensures ∙ c.if-not-is_among.false)

pub returns-clause-p : goal.returns-clause-p
returns-clause-p c = static_small c.in-Some.head (c.in-Some.ensures.exact.found c.args.front.now c.in-Some.head (sym c.in-Some.ensures.value)).0.0
