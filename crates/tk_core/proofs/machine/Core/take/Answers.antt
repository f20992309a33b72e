use Rattle.std.proofs.Common.{rules, ◌≡◌, ◌+◌, length, sym, subst, ◌∙◌, arith}
use Rattle.tk_core.specs.Needs.{MayTake}
use Rattle.tk_core.specs.Program.{CoreState, AnyCaller, IsCore, caller_of, firsts, owner_of}
use Rattle.tk_core.proofs.Rows.{in_map, unchanged}
use Rattle.tk_core.proofs.Histories.{firsts_all}
use Rattle.tk_core.proofs.LockRows.{take_done}
use Rattle.tk_core.proofs.machine.Core.take.Goals as goal

pub index_mut-requires : goal.index_mut-requires
index_mut-requires c =
    let a : AnyCaller c.args.self.now c.args.caller (MayTake c.args.self.now.frame (owner_of c.args.self.now) c.args.lock) = c.may_take.ensures.0 (search rules) in
    let l = c.self.inside.rows.ok.0 in
    let h = in_map (caller_of c.self.inside.log.items) c.self.inside.rows.items c.args.caller _ (subst (λ (s : CoreState). AnyCaller s c.args.caller (MayTake s.frame (owner_of s) c.args.lock)) (sym c.self.view_is) a).1 in
    search rules

pub invariant_of-self : goal.invariant_of-self
invariant_of-self c =
    let a : AnyCaller c.args.self.now c.args.caller (MayTake c.args.self.now.frame (owner_of c.args.self.now) c.args.lock) = c.may_take.ensures.0 (search rules) in
    let same = unchanged c.self.inside.frame c.self.inside.log.items c.self.inside.owners.items c.self.inside.spoilt.items c.self.inside.away.items c.self.inside.rows.items c.args.caller c.index_mut.result.now c.hold.new.self c.index_mut.ensures.value
    c.args.self.now c.self.view_is c.self.invariant (a.0, a.1, tt) (c.in_err-hold.ensures.want c.self.inside.log.items) in
    subst IsCore (c.self.view_is ∙ sym same) c.self.invariant

pub returns-in_err-hold-clause-want : goal.returns-in_err-hold-clause-want
returns-in_err-hold-clause-want c =
    let a : AnyCaller c.args.self.now c.args.caller (MayTake c.args.self.now.frame (owner_of c.args.self.now) c.args.lock) = c.may_take.ensures.0 (search rules) in
    let same = unchanged c.self.inside.frame c.self.inside.log.items c.self.inside.owners.items c.self.inside.spoilt.items c.self.inside.away.items c.self.inside.rows.items c.args.caller c.index_mut.result.now c.hold.new.self c.index_mut.ensures.value
    c.args.self.now c.self.view_is c.self.invariant (a.0, a.1, tt) (c.in_err-hold.ensures.want c.self.inside.log.items) in
    search rules

pub invariant_of-self-2 : goal.invariant_of-self-2
invariant_of-self-2 c =
    let n : c.len-base.result ≡ length c.self.inside.log.items = c.len-base.ensures ∙ c.self.inside.log.ok.0 in
    let whole : firsts c.len-base.result c.self.inside.log.items ≡ c.self.inside.log.items = firsts_all c.len-base.result c.self.inside.log.items n in
    (take_done c.self.inside.frame c.self.inside.log.items c.self.inside.owners.items c.self.inside.spoilt.items c.self.inside.away.items c.self.inside.rows.items c.args.caller c.index_mut.result.now c.hold.new.self c.index_mut.ensures.value
    c.args.self.now c.self.view_is c.self.invariant c.args.lock (c.args.caller + 1) c.len-base.result c.broken_store-found.result (omega arith) whole (c.may_take.ensures.0 (search rules)) (search rules) (search rules) (c.in_ok-hold.ensures.held c.self.inside.log.items)).core

pub returns-clause-answer : goal.returns-clause-answer
returns-clause-answer c =
    let n : c.len-base.result ≡ length c.self.inside.log.items = c.len-base.ensures ∙ c.self.inside.log.ok.0 in
    let whole : firsts c.len-base.result c.self.inside.log.items ≡ c.self.inside.log.items = firsts_all c.len-base.result c.self.inside.log.items n in
    (take_done c.self.inside.frame c.self.inside.log.items c.self.inside.owners.items c.self.inside.spoilt.items c.self.inside.away.items c.self.inside.rows.items c.args.caller c.index_mut.result.now c.hold.new.self c.index_mut.ensures.value
    c.args.self.now c.self.view_is c.self.invariant c.args.lock (c.args.caller + 1) c.len-base.result c.broken_store-found.result (omega arith) whole (c.may_take.ensures.0 (search rules)) (search rules) (search rules) (c.in_ok-hold.ensures.held c.self.inside.log.items)).answer
