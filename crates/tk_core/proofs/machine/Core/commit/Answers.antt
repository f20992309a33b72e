use Rattle.std.proofs.Common.{rules, ◌≡◌, ◌<◌, ◌+◌, ◌-◌, [], ◌∷◌, ◌++◌, length, refl, ap, ◌∙◌, arith}
use Rattle.tk_core.specs.Program.{CoreState}
use Rattle.tk_core.proofs.CommitRows.{still_core, in_rows, room, undone, did, records_more}
use Rattle.tk_core.proofs.machine.Core.commit.Goals as goal

pub index_mut-row-requires : goal.index_mut-row-requires
index_mut-row-requires c =
    let low : c.args.caller < length c.self.inside.rows.items = in_rows c.self.inside.frame c.self.inside.log.items c.self.inside.owners.items c.self.inside.spoilt.items c.self.inside.away.items c.self.inside.rows.items c.self.invariant c.args.caller c.args.entry.now c.args.self.now c.self.view_is (c.in_ok-may_commit.ensures.may.0 c.if-not-branch.false) in
    let l = c.self.inside.rows.ok.0 in
    search rules

pub invariant_of-self : goal.invariant_of-self
invariant_of-self c =
    still_core c.self.inside.frame c.self.inside.log.items c.self.inside.owners.items c.self.inside.spoilt.items c.self.inside.away.items c.self.inside.rows.items c.self.invariant c.args.caller c.args.entry.now c.args.self.now c.self.view_is _
    (undone c.self.inside.frame c.self.inside.log.items c.self.inside.owners.items c.self.inside.spoilt.items c.self.inside.away.items c.self.inside.rows.items c.self.invariant c.args.caller c.args.entry.now c.args.self.now c.self.view_is
    (c.in_ok-may_commit.ensures.may.0 c.if-not-branch.false) c.index_mut-row.result.now (record c.index_mut-row.result.now { mine = c.reserve.new.self }) c.index_mut-row.ensures.value c.self.inside.log.items refl refl c.in_err-reserve.ensures.items)

pub returns-in_err-reserve-clause-want : goal.returns-in_err-reserve-clause-want
returns-in_err-reserve-clause-want c =
    let same = undone c.self.inside.frame c.self.inside.log.items c.self.inside.owners.items c.self.inside.spoilt.items c.self.inside.away.items c.self.inside.rows.items c.self.invariant c.args.caller c.args.entry.now c.args.self.now c.self.view_is
    (c.in_ok-may_commit.ensures.may.0 c.if-not-branch.false) c.index_mut-row.result.now (record c.index_mut-row.result.now { mine = c.reserve.new.self }) c.index_mut-row.ensures.value c.self.inside.log.items refl refl c.in_err-reserve.ensures.items in
    search rules

pub invariant_of-self-in_err-push_copy : goal.invariant_of-self-in_err-push_copy
invariant_of-self-in_err-push_copy c =
    still_core c.self.inside.frame c.self.inside.log.items c.self.inside.owners.items c.self.inside.spoilt.items c.self.inside.away.items c.self.inside.rows.items c.self.invariant c.args.caller c.args.entry.now c.args.self.now c.self.view_is _
    (undone c.self.inside.frame c.self.inside.log.items c.self.inside.owners.items c.self.inside.spoilt.items c.self.inside.away.items c.self.inside.rows.items c.self.invariant c.args.caller c.args.entry.now c.args.self.now c.self.view_is
    (c.in_ok-may_commit.ensures.may.0 c.if-not-branch.false) c.index_mut-row.result.now (record c.index_mut-row.result.now { mine = c.reserve.new.self }) c.index_mut-row.ensures.value c.push_copy.new.log.items c.in_err-push_copy.ensures.err refl c.in_ok-reserve.ensures.items)

pub returns-in_err-push_copy-clause-want : goal.returns-in_err-push_copy-clause-want
returns-in_err-push_copy-clause-want c =
    let same = undone c.self.inside.frame c.self.inside.log.items c.self.inside.owners.items c.self.inside.spoilt.items c.self.inside.away.items c.self.inside.rows.items c.self.invariant c.args.caller c.args.entry.now c.args.self.now c.self.view_is
    (c.in_ok-may_commit.ensures.may.0 c.if-not-branch.false) c.index_mut-row.result.now (record c.index_mut-row.result.now { mine = c.reserve.new.self }) c.index_mut-row.ensures.value c.push_copy.new.log.items c.in_err-push_copy.ensures.err refl c.in_ok-reserve.ensures.items in
    search rules

pub overflow_sub-row : goal.overflow_sub-row
overflow_sub-row c =
    let r : 0 < c.index_mut-row.result.now.allowance = room c.self.inside.frame c.self.inside.log.items c.self.inside.owners.items c.self.inside.spoilt.items c.self.inside.away.items c.self.inside.rows.items c.self.invariant c.args.caller c.args.entry.now c.args.self.now c.self.view_is
    (c.in_ok-may_commit.ensures.may.0 c.if-not-branch.false) c.index_mut-row.result.now c.index_mut-row.result.now c.index_mut-row.ensures.value in
    omega arith

pub invariant_of-self-2 : goal.invariant_of-self-2
invariant_of-self-2 c =
    (did c.self.inside.frame c.self.inside.log.items c.self.inside.owners.items c.self.inside.spoilt.items c.self.inside.away.items c.self.inside.rows.items c.self.invariant c.args.caller c.args.entry.now c.args.self.now c.self.view_is
    (c.in_ok-may_commit.ensures.may.0 c.if-not-branch.false) c.index_mut-row.result.now (record c.index_mut-row.result.now { allowance = c.index_mut-row.result.now.allowance - 1; seen = c.len-number.result + 1; base = c.len-number.result + 1; mine = c.push_reserved.new.self }) c.index_mut-row.ensures.value c.push_copy.new.log.items c.len-number.result c.in_ok-push_copy.ensures.ok (c.len-number.ensures ∙ c.self.inside.log.ok.0) refl (c.push_reserved.ensures.items ∙ ap (λ xs. xs ++ c.len-number.result ∷ []) c.in_ok-reserve.ensures.items)).core

pub returns-clause-answer : goal.returns-clause-answer
returns-clause-answer c =
    (did c.self.inside.frame c.self.inside.log.items c.self.inside.owners.items c.self.inside.spoilt.items c.self.inside.away.items c.self.inside.rows.items c.self.invariant c.args.caller c.args.entry.now c.args.self.now c.self.view_is
    (c.in_ok-may_commit.ensures.may.0 c.if-not-branch.false) c.index_mut-row.result.now (record c.index_mut-row.result.now { allowance = c.index_mut-row.result.now.allowance - 1; seen = c.len-number.result + 1; base = c.len-number.result + 1; mine = c.push_reserved.new.self }) c.index_mut-row.ensures.value c.push_copy.new.log.items c.len-number.result c.in_ok-push_copy.ensures.ok (c.len-number.ensures ∙ c.self.inside.log.ok.0) refl (c.push_reserved.ensures.items ∙ ap (λ xs. xs ++ c.len-number.result ∷ []) c.in_ok-reserve.ensures.items)).answer

pub returns-clause-records : goal.returns-clause-records
returns-clause-records c = λ _.
    let log : c.push_copy.new.log.items ≡ c.args.self.now.log ++ c.args.entry.now ∷ [] = c.in_ok-push_copy.ensures.ok ∙ ap (λ (s : CoreState). s.log ++ c.args.entry.now ∷ []) c.self.view_is in
    c.in_ok-may_commit.ensures.after c.if-not-branch.false ∙ records_more c.args.self.now c.args.entry.now c.self.inside.frame c.push_copy.new.log.items (ap (λ (s : CoreState). s.frame) c.self.view_is) log
