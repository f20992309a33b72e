use Rattle.std.proofs.Common.{rules, [], sym, subst, ◌∙◌}
use Rattle.tk_core.specs.Needs.{MayPutBack}
use Rattle.tk_core.specs.Program.{CoreState, AnyCaller, IsCore, caller_of}
use Rattle.tk_core.proofs.Rows.{in_map, unchanged}
use Rattle.tk_core.proofs.LockRows.{back_done}
use Rattle.tk_core.proofs.machine.Core.put_back.Goals as goal

pub index_mut-requires : goal.index_mut-requires
index_mut-requires c =
    let a : AnyCaller c.args.self.now c.args.caller (MayPutBack c.args.self.now.frame [] c.args.self.now.log (λ gs n. Unit {0}) c.args.store c.args.broken) = c.may_put_back.ensures.0 (search rules) in
    let l = c.self.inside.rows.ok.0 in
    let h = in_map (caller_of c.self.inside.log.items) c.self.inside.rows.items c.args.caller _ (subst (λ (s : CoreState). AnyCaller s c.args.caller (MayPutBack s.frame [] s.log (λ gs n. Unit {0}) c.args.store c.args.broken)) (sym c.self.view_is) a).1 in
    search rules

pub invariant_of-self : goal.invariant_of-self
invariant_of-self c =
    let a : AnyCaller c.args.self.now c.args.caller (MayPutBack c.args.self.now.frame [] c.args.self.now.log (λ gs n. Unit {0}) c.args.store c.args.broken) = c.may_put_back.ensures.0 (search rules) in
    let same = unchanged c.self.inside.frame c.self.inside.log.items c.self.inside.owners.items c.self.inside.spoilt.items c.self.inside.away.items c.self.inside.rows.items c.args.caller c.index_mut.result.now c.bring_back.new.self c.index_mut.ensures.value
    c.args.self.now c.self.view_is c.self.invariant (a.0, a.1, tt) (c.in_err-bring_back.ensures.want c.self.inside.log.items) in
    subst IsCore (c.self.view_is ∙ sym same) c.self.invariant

pub returns-in_err-bring_back-clause-want : goal.returns-in_err-bring_back-clause-want
returns-in_err-bring_back-clause-want c =
    let a : AnyCaller c.args.self.now c.args.caller (MayPutBack c.args.self.now.frame [] c.args.self.now.log (λ gs n. Unit {0}) c.args.store c.args.broken) = c.may_put_back.ensures.0 (search rules) in
    let same = unchanged c.self.inside.frame c.self.inside.log.items c.self.inside.owners.items c.self.inside.spoilt.items c.self.inside.away.items c.self.inside.rows.items c.args.caller c.index_mut.result.now c.bring_back.new.self c.index_mut.ensures.value
    c.args.self.now c.self.view_is c.self.invariant (a.0, a.1, tt) (c.in_err-bring_back.ensures.want c.self.inside.log.items) in
    search rules

pub invariant_of-self-2 : goal.invariant_of-self-2
invariant_of-self-2 c =
    (back_done c.self.inside.frame c.self.inside.log.items c.self.inside.owners.items c.self.inside.spoilt.items c.self.inside.away.items c.self.inside.rows.items c.args.caller c.index_mut.result.now c.bring_back.new.self c.index_mut.ensures.value
    c.args.self.now c.self.view_is c.self.invariant c.args.store c.args.broken (c.may_put_back.ensures.0 (search rules)) (c.in_ok-bring_back.ensures.back c.self.inside.log.items)).core

pub returns-clause-answer : goal.returns-clause-answer
returns-clause-answer c =
    (back_done c.self.inside.frame c.self.inside.log.items c.self.inside.owners.items c.self.inside.spoilt.items c.self.inside.away.items c.self.inside.rows.items c.args.caller c.index_mut.result.now c.bring_back.new.self c.index_mut.ensures.value
    c.args.self.now c.self.view_is c.self.invariant c.args.store c.args.broken (c.may_put_back.ensures.0 (search rules)) (c.in_ok-bring_back.ensures.back c.self.inside.log.items)).answer
