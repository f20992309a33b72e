use Rattle.std.proofs.Common.{rules, sym, subst, ◌∙◌}
use Rattle.tk_core.specs.Needs.{MayGive}
use Rattle.tk_core.specs.Program.{CoreState, AnyCaller, IsCore, caller_of}
use Rattle.tk_core.proofs.Rows.{in_map, unchanged}
use Rattle.tk_core.proofs.LockRows.{give_done, give_low}
use Rattle.tk_core.proofs.machine.Core.give.Goals as goal

pub index_mut-requires : goal.index_mut-requires
index_mut-requires c =
    let a : AnyCaller c.args.self.now c.args.caller (MayGive c.args.self.now.frame c.args.lock) = c.may_give.ensures.0 (search rules) in
    let l = c.self.inside.rows.ok.0 in
    let h = in_map (caller_of c.self.inside.log.items) c.self.inside.rows.items c.args.caller _ (subst (λ (s : CoreState). AnyCaller s c.args.caller (MayGive s.frame c.args.lock)) (sym c.self.view_is) a).1 in
    search rules

pub invariant_of-self : goal.invariant_of-self
invariant_of-self c =
    let a : AnyCaller c.args.self.now c.args.caller (MayGive c.args.self.now.frame c.args.lock) = c.may_give.ensures.0 (search rules) in
    let same = unchanged c.self.inside.frame c.self.inside.log.items c.self.inside.owners.items c.self.inside.spoilt.items c.self.inside.away.items c.self.inside.rows.items c.args.caller c.index_mut.result.now c.give_up.new.self c.index_mut.ensures.value
    c.args.self.now c.self.view_is c.self.invariant (a.0, a.1, tt) (c.in_err-give_up.ensures.want c.self.inside.log.items) in
    subst IsCore (c.self.view_is ∙ sym same) c.self.invariant

pub returns-in_err-give_up-clause-want : goal.returns-in_err-give_up-clause-want
returns-in_err-give_up-clause-want c =
    let a : AnyCaller c.args.self.now c.args.caller (MayGive c.args.self.now.frame c.args.lock) = c.may_give.ensures.0 (search rules) in
    let same = unchanged c.self.inside.frame c.self.inside.log.items c.self.inside.owners.items c.self.inside.spoilt.items c.self.inside.away.items c.self.inside.rows.items c.args.caller c.index_mut.result.now c.give_up.new.self c.index_mut.ensures.value
    c.args.self.now c.self.view_is c.self.invariant (a.0, a.1, tt) (c.in_err-give_up.ensures.want c.self.inside.log.items) in
    search rules

pub index_mut-requires-2 : goal.index_mut-requires-2
index_mut-requires-2 c =
    let a : AnyCaller c.args.self.now c.args.caller (MayGive c.args.self.now.frame c.args.lock) = c.may_give.ensures.0 (search rules) in
    let b = subst (λ (s : CoreState). AnyCaller s c.args.caller (MayGive s.frame c.args.lock)) (sym c.self.view_is) a in
    let low = give_low c.self.inside.frame c.args.lock b.0 b.2 in
    let n = c.self.invariant.owners in
    let o = c.self.inside.owners.ok.0 in
    search rules

pub invariant_of-self-2 : goal.invariant_of-self-2
invariant_of-self-2 c =
    (give_done c.self.inside.frame c.self.inside.log.items c.self.inside.owners.items c.self.inside.spoilt.items c.self.inside.away.items c.self.inside.rows.items c.args.caller c.index_mut.result.now c.give_up.new.self c.index_mut.ensures.value
    c.args.self.now c.self.view_is c.self.invariant c.args.lock (c.may_give.ensures.0 (search rules))
    (λ less. c.in_ok-give_up.ensures.stripe (search rules) c.self.inside.log.items) (λ q at. c.in_ok-give_up.ensures.store c.self.inside.frame q (search rules) at c.self.inside.log.items)).core

pub returns-clause-answer : goal.returns-clause-answer
returns-clause-answer c =
    (give_done c.self.inside.frame c.self.inside.log.items c.self.inside.owners.items c.self.inside.spoilt.items c.self.inside.away.items c.self.inside.rows.items c.args.caller c.index_mut.result.now c.give_up.new.self c.index_mut.ensures.value
    c.args.self.now c.self.view_is c.self.invariant c.args.lock (c.may_give.ensures.0 (search rules))
    (λ less. c.in_ok-give_up.ensures.stripe (search rules) c.self.inside.log.items) (λ q at. c.in_ok-give_up.ensures.store c.self.inside.frame q (search rules) at c.self.inside.log.items)).answer
