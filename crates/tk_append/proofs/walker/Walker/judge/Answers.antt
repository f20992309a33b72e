use Rattle.std.proofs.Common.{sym, ◌∙◌}
use Rattle.std.proofs.lemmas.Bool.{ne_eqb}
use Rattle.tk_append.proofs.WalkerSteps.{fails_stand, fails_link}
use Rattle.tk_append.proofs.walker.Walker.judge.Goals as goal

pub returns-then-not-may_stand-clause-fails : goal.returns-then-not-may_stand-clause-fails
returns-then-not-may_stand-clause-fails c w at =
    fails_stand c.args.head.now c.args.shard w c.args.place c.args.bytes.now c.in-Some.found c.in-Some.ensures (sym (c.may_stand.ensures c.args.place w at) ∙ c.if-not-may_stand.true)

pub returns-then-u64_at-link-clause-fails : goal.returns-then-u64_at-link-clause-fails
returns-then-u64_at-link-clause-fails c w at =
    fails_link c.args.head.now c.args.shard w c.args.place c.args.bytes.now c.in-Some.found c.in-Some.ensures (sym (c.may_stand.ensures c.args.place w at) ∙ c.if-not-may_stand.false)
    (ne_eqb _ _ (λ e. c.if-u64_at-link.true (c.u64_at.ensures ∙ e ∙ sym (c.link.ensures c.args.place w at))))

pub returns-clause-found : goal.returns-clause-found
returns-clause-found c w at = record {
  head = c.in-Some.ensures.head;
  body = c.in-Some.ensures.body;
  stands = sym (c.may_stand.ensures c.args.place w at) ∙ c.if-not-may_stand.false;
  linked = sym c.u64_at.ensures ∙ c.if-u64_at-link.false ∙ c.link.ensures c.args.place w at;
}
