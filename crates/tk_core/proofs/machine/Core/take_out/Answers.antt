use Rattle.std.proofs.Common.{rules, ℕ, List, ap, sym, subst, ◌∙◌}
use Rattle.tk_core.specs.declared.machine.Row.{Row}
use Rattle.tk_core.specs.Needs.{MayTakeOut}
use Rattle.tk_core.specs.Program.{CoreState, AnyCaller, IsCore, caller_of}
use Rattle.tk_core.proofs.Rows.{in_map, unchanged, out_done}
use Rattle.tk_core.proofs.machine.Core.take_out.Goals as goal

pub index_mut-row-requires : goal.index_mut-row-requires
index_mut-row-requires c =
    let a : AnyCaller c.args.self.now c.args.caller (MayTakeOut c.args.self.now.frame c.args.store) = c.may_take_out.ensures.0 (search rules) in
    let l = c.self.inside.rows.ok.0 in
    let h = in_map (caller_of c.self.inside.log.items) c.self.inside.rows.items c.args.caller _ (subst (λ (s : CoreState). AnyCaller s c.args.caller (MayTakeOut s.frame c.args.store)) (sym c.self.view_is) a).1 in
    search rules

pub invariant_of-self : goal.invariant_of-self
invariant_of-self c =
    let old : Row = c.index_mut-row.result.now in
    let new : Row = record old { out = c.insert.new.self } in
    let a : AnyCaller c.args.self.now c.args.caller (MayTakeOut c.args.self.now.frame c.args.store) = c.may_take_out.ensures.0 (search rules) in
    let same = unchanged c.self.inside.frame c.self.inside.log.items c.self.inside.owners.items c.self.inside.spoilt.items c.self.inside.away.items c.self.inside.rows.items c.args.caller old new c.index_mut-row.ensures.value
    c.args.self.now c.self.view_is c.self.invariant (a.0, a.1, tt) (ap (λ (xs : List ℕ). record (caller_of c.self.inside.log.items old) { out = xs }) c.in_err-insert.ensures.items) in
    subst IsCore (c.self.view_is ∙ sym same) c.self.invariant

pub returns-in_err-insert-clause-want : goal.returns-in_err-insert-clause-want
returns-in_err-insert-clause-want c =
    let old : Row = c.index_mut-row.result.now in
    let new : Row = record old { out = c.insert.new.self } in
    let a : AnyCaller c.args.self.now c.args.caller (MayTakeOut c.args.self.now.frame c.args.store) = c.may_take_out.ensures.0 (search rules) in
    let same = unchanged c.self.inside.frame c.self.inside.log.items c.self.inside.owners.items c.self.inside.spoilt.items c.self.inside.away.items c.self.inside.rows.items c.args.caller old new c.index_mut-row.ensures.value
    c.args.self.now c.self.view_is c.self.invariant (a.0, a.1, tt) (ap (λ (xs : List ℕ). record (caller_of c.self.inside.log.items old) { out = xs }) c.in_err-insert.ensures.items) in
    search rules

pub invariant_of-self-2 : goal.invariant_of-self-2
invariant_of-self-2 c =
    let old : Row = c.index_mut-row.result.now in
    let new : Row = record old { out = c.insert.new.self } in
    let a : AnyCaller c.args.self.now c.args.caller (MayTakeOut c.args.self.now.frame c.args.store) = c.may_take_out.ensures.0 (search rules) in
    (out_done c.self.inside.frame c.self.inside.log.items c.self.inside.owners.items c.self.inside.spoilt.items c.self.inside.away.items c.self.inside.rows.items c.args.caller old new c.index_mut-row.ensures.value
    c.args.self.now c.self.view_is c.self.invariant c.args.store a (ap (λ (xs : List ℕ). record (caller_of c.self.inside.log.items old) { out = xs }) c.in_ok-insert.ensures.items)).core

pub returns-clause-answer : goal.returns-clause-answer
returns-clause-answer c =
    let old : Row = c.index_mut-row.result.now in
    let new : Row = record old { out = c.insert.new.self } in
    let a : AnyCaller c.args.self.now c.args.caller (MayTakeOut c.args.self.now.frame c.args.store) = c.may_take_out.ensures.0 (search rules) in
    (out_done c.self.inside.frame c.self.inside.log.items c.self.inside.owners.items c.self.inside.spoilt.items c.self.inside.away.items c.self.inside.rows.items c.args.caller old new c.index_mut-row.ensures.value
    c.args.self.now c.self.view_is c.self.invariant c.args.store a (ap (λ (xs : List ℕ). record (caller_of c.self.inside.log.items old) { out = xs }) c.in_ok-insert.ensures.items)).answer
