use Rattle.std.proofs.Common.{rules, ◌≡◌, true, ◌-◌, ◌/◌, List, [], ◌∷◌, ◌++◌, None, length, get_or, ap, sym, subst, ◌∙◌}
use Rattle.tk_model.specs.declared.record.Entry.{Entry}
use Rattle.tk_core.specs.declared.machine.Row.{Row}
use Rattle.tk_core.specs.Moves.{kept_half, new_half}
use Rattle.tk_core.specs.Needs.{MaySplit}
use Rattle.tk_core.specs.Program.{CoreState, AnyCaller, caller_of}
use Rattle.tk_core.proofs.Rows.{in_map, same_row, split_done}
use Rattle.tk_core.proofs.machine.Core.split.Goals as goal

pub index-row-requires : goal.index-row-requires
index-row-requires c =
    let a : AnyCaller c.args.self.now c.args.caller (MaySplit (length c.args.self.now.callers)) = c.may_split.ensures.0 (search rules) in
    let h = in_map (caller_of c.self.inside.log.items) c.self.inside.rows.items c.args.caller _ (subst (λ (s : CoreState). AnyCaller s c.args.caller (MaySplit (length s.callers))) (sym c.self.view_is) a).1 in
    let l = c.self.inside.rows.ok.0 in
    search rules

pub index_mut-row-requires : goal.index_mut-row-requires
index_mut-row-requires c =
    let a : AnyCaller c.args.self.now c.args.caller (MaySplit (length c.args.self.now.callers)) = c.may_split.ensures.0 (search rules) in
    let h = in_map (caller_of c.self.inside.log.items) c.self.inside.rows.items c.args.caller _ (subst (λ (s : CoreState). AnyCaller s c.args.caller (MaySplit (length s.callers))) (sym c.self.view_is) a).1 in
    let l = c.self.inside.rows.ok.0 in
    let m = c.in_ok-push.ensures.len in
    search rules

pub invariant_of-self-2 : goal.invariant_of-self-2
invariant_of-self-2 c =
    let a : AnyCaller c.args.self.now c.args.caller (MaySplit (length c.args.self.now.callers)) = c.may_split.ensures.0 (search rules) in
    let h = in_map (caller_of c.self.inside.log.items) c.self.inside.rows.items c.args.caller _ (subst (λ (s : CoreState). AnyCaller s c.args.caller (MaySplit (length s.callers))) (sym c.self.view_is) a).1 in
    let log : List Entry = c.self.inside.log.items in
    let old : Row = c.index-row.result.now in
    let again : Row = c.index_mut-row.result.now in
    let added : Row = record { live = true; allowance = old.allowance / 2; held = c.new.result; want = None; out = c.new-2.result; seen = old.seen; base = old.base; mine = c.new-3.result; breaking = c.new-4.result; broke = c.new-5.result; met = c.new-6.result } in
    let snoc : c.push.new.self.items ≡ c.self.inside.rows.items ++ added ∷ [] = search rules in
    let value : again ≡ get_or (c.self.inside.rows.items ++ added ∷ []) c.args.caller again = c.index_mut-row.ensures.value ∙ ap (λ (rs : List Row). get_or rs c.args.caller again) snoc in
    let same : again ≡ old = same_row c.self.inside.rows.items c.args.caller added old again h c.index-row.ensures value in
    let new : Row = record again { allowance = old.allowance - old.allowance / 2 } in
    let kept : caller_of log new ≡ kept_half (caller_of log old) = ap (λ (r : Row). caller_of log (record r { allowance = old.allowance - old.allowance / 2 })) same in
    let half : caller_of log added ≡ new_half (caller_of log old) = search rules in
    (split_done c.self.inside.frame log c.self.inside.owners.items c.self.inside.spoilt.items c.self.inside.away.items c.self.inside.rows.items c.args.caller old new c.index-row.ensures
    c.args.self.now c.self.view_is c.self.invariant c.push.new.self.items added snoc a kept half).core

pub returns-clause-answer : goal.returns-clause-answer
returns-clause-answer c =
    let a : AnyCaller c.args.self.now c.args.caller (MaySplit (length c.args.self.now.callers)) = c.may_split.ensures.0 (search rules) in
    let h = in_map (caller_of c.self.inside.log.items) c.self.inside.rows.items c.args.caller _ (subst (λ (s : CoreState). AnyCaller s c.args.caller (MaySplit (length s.callers))) (sym c.self.view_is) a).1 in
    let log : List Entry = c.self.inside.log.items in
    let old : Row = c.index-row.result.now in
    let again : Row = c.index_mut-row.result.now in
    let added : Row = record { live = true; allowance = old.allowance / 2; held = c.new.result; want = None; out = c.new-2.result; seen = old.seen; base = old.base; mine = c.new-3.result; breaking = c.new-4.result; broke = c.new-5.result; met = c.new-6.result } in
    let snoc : c.push.new.self.items ≡ c.self.inside.rows.items ++ added ∷ [] = search rules in
    let value : again ≡ get_or (c.self.inside.rows.items ++ added ∷ []) c.args.caller again = c.index_mut-row.ensures.value ∙ ap (λ (rs : List Row). get_or rs c.args.caller again) snoc in
    let same : again ≡ old = same_row c.self.inside.rows.items c.args.caller added old again h c.index-row.ensures value in
    let new : Row = record again { allowance = old.allowance - old.allowance / 2 } in
    let kept : caller_of log new ≡ kept_half (caller_of log old) = ap (λ (r : Row). caller_of log (record r { allowance = old.allowance - old.allowance / 2 })) same in
    let half : caller_of log added ≡ new_half (caller_of log old) = search rules in
    (split_done c.self.inside.frame log c.self.inside.owners.items c.self.inside.spoilt.items c.self.inside.away.items c.self.inside.rows.items c.args.caller old new c.index-row.ensures
    c.args.self.now c.self.view_is c.self.invariant c.push.new.self.items added snoc a kept half).answer
