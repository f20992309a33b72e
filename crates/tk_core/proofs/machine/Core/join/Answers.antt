use Rattle.std.proofs.Common.{rules, ◌≡◌, sym, subst, get_or, ◌∙◌, arith}
use Rattle.tk_core.specs.declared.machine.Row.{Row}
use Rattle.tk_core.specs.Needs.{IsIdle}
use Rattle.tk_core.specs.Program.{CoreState, AnyCaller, IsCore, caller_of}
use Rattle.tk_core.proofs.Rows.{in_map}
use Rattle.tk_core.proofs.LockRows.{join_room, join_kept, join_done}
use Rattle.tk_core.proofs.machine.Core.join.Goals as goal

pub index_mut-requires : goal.index_mut-requires
index_mut-requires c =
    let may = c.may_join.ensures.0 (search rules) in
    let l = c.self.inside.rows.ok.0 in
    let h = in_map (caller_of c.self.inside.log.items) c.self.inside.rows.items c.args.other _ (subst (λ (s : CoreState). AnyCaller s c.args.other IsIdle) (sym c.self.view_is) may.2).1 in
    search rules

pub index_mut-requires-2 : goal.index_mut-requires-2
index_mut-requires-2 c =
    let may = c.may_join.ensures.0 (search rules) in
    let l = c.self.inside.rows.ok.0 in
    let h = in_map (caller_of c.self.inside.log.items) c.self.inside.rows.items c.args.caller _ (subst (λ (s : CoreState). AnyCaller s c.args.caller IsIdle) (sym c.self.view_is) may.1).1 in
    search rules

pub index_mut-requires-3 : goal.index_mut-requires-3
index_mut-requires-3 c =
    let may = c.may_join.ensures.0 (search rules) in
    let l = c.self.inside.rows.ok.0 in
    let h = in_map (caller_of c.self.inside.log.items) c.self.inside.rows.items c.args.other _ (subst (λ (s : CoreState). AnyCaller s c.args.other IsIdle) (sym c.self.view_is) may.2).1 in
    search rules

pub absorb-done-requires : goal.absorb-done-requires
absorb-done-requires c =
    let may = c.may_join.ensures.0 (search rules) in
    let gone : c.replace-gone.result ≡ get_or c.self.inside.rows.items c.args.other c.replace-gone.result = subst (λ (r : Row). r ≡ get_or c.self.inside.rows.items c.args.other r) (sym c.replace-gone.ensures.value) c.index_mut.ensures.value in
    let room = join_room c.self.inside.frame c.self.inside.log.items c.self.inside.owners.items c.self.inside.spoilt.items c.self.inside.away.items c.self.inside.rows.items c.args.caller c.args.other c.index_mut-2.result.now c.replace-gone.result c.replace-gone.new.dest c.index_mut-2.result.now c.replace-gone.result
    may.0 gone c.index_mut-2.ensures.value c.args.self.now c.self.view_is c.self.invariant may.1 may.2 in
    record { room = omega arith }

pub invariant_of-self : goal.invariant_of-self
invariant_of-self c =
    let may = c.may_join.ensures.0 (search rules) in
    let gone : c.replace-gone.result ≡ get_or c.self.inside.rows.items c.args.other c.replace-gone.result = subst (λ (r : Row). r ≡ get_or c.self.inside.rows.items c.args.other r) (sym c.replace-gone.ensures.value) c.index_mut.ensures.value in
    let want = c.in_err-done.ensures.want c.self.inside.log.items in
    let same = join_kept c.self.inside.frame c.self.inside.log.items c.self.inside.owners.items c.self.inside.spoilt.items c.self.inside.away.items c.self.inside.rows.items c.args.caller c.args.other c.index_mut-2.result.now c.replace-gone.result c.replace-gone.new.dest c.absorb-done.new.self c.absorb-done.new.other
    may.0 gone c.index_mut-2.ensures.value c.args.self.now c.self.view_is c.self.invariant may.1 may.2 want.0 want.1 in
    subst IsCore (c.self.view_is ∙ sym same) c.self.invariant

pub returns-in_err-done-clause-want : goal.returns-in_err-done-clause-want
returns-in_err-done-clause-want c =
    let may = c.may_join.ensures.0 (search rules) in
    let gone : c.replace-gone.result ≡ get_or c.self.inside.rows.items c.args.other c.replace-gone.result = subst (λ (r : Row). r ≡ get_or c.self.inside.rows.items c.args.other r) (sym c.replace-gone.ensures.value) c.index_mut.ensures.value in
    let want = c.in_err-done.ensures.want c.self.inside.log.items in
    let same = join_kept c.self.inside.frame c.self.inside.log.items c.self.inside.owners.items c.self.inside.spoilt.items c.self.inside.away.items c.self.inside.rows.items c.args.caller c.args.other c.index_mut-2.result.now c.replace-gone.result c.replace-gone.new.dest c.absorb-done.new.self c.absorb-done.new.other
    may.0 gone c.index_mut-2.ensures.value c.args.self.now c.self.view_is c.self.invariant may.1 may.2 want.0 want.1 in
    search rules

pub invariant_of-self-2 : goal.invariant_of-self-2
invariant_of-self-2 c =
    let may = c.may_join.ensures.0 (search rules) in
    let gone : c.replace-gone.result ≡ get_or c.self.inside.rows.items c.args.other c.replace-gone.result = subst (λ (r : Row). r ≡ get_or c.self.inside.rows.items c.args.other r) (sym c.replace-gone.ensures.value) c.index_mut.ensures.value in
    let all = c.in_ok-done.ensures.joined c.self.inside.log.items in
    (join_done c.self.inside.frame c.self.inside.log.items c.self.inside.owners.items c.self.inside.spoilt.items c.self.inside.away.items c.self.inside.rows.items c.args.caller c.args.other c.index_mut-2.result.now c.replace-gone.result c.replace-gone.new.dest c.absorb-done.new.self c.absorb-done.new.other
    may.0 gone c.index_mut-2.ensures.value c.args.self.now c.self.view_is c.self.invariant may.1 may.2 all.0 all.1).core

pub returns-clause-answer : goal.returns-clause-answer
returns-clause-answer c =
    let may = c.may_join.ensures.0 (search rules) in
    let gone : c.replace-gone.result ≡ get_or c.self.inside.rows.items c.args.other c.replace-gone.result = subst (λ (r : Row). r ≡ get_or c.self.inside.rows.items c.args.other r) (sym c.replace-gone.ensures.value) c.index_mut.ensures.value in
    let all = c.in_ok-done.ensures.joined c.self.inside.log.items in
    (join_done c.self.inside.frame c.self.inside.log.items c.self.inside.owners.items c.self.inside.spoilt.items c.self.inside.away.items c.self.inside.rows.items c.args.caller c.args.other c.index_mut-2.result.now c.replace-gone.result c.replace-gone.new.dest c.absorb-done.new.self c.absorb-done.new.other
    may.0 gone c.index_mut-2.ensures.value c.args.self.now c.self.view_is c.self.invariant may.1 may.2 all.0 all.1).answer
