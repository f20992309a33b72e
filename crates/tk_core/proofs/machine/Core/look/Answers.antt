use Rattle.std.proofs.Common.{rules, ◌≡◌, length, sym, subst, ◌∙◌}
use Rattle.tk_core.specs.declared.machine.Row.{Row}
use Rattle.tk_core.specs.Needs.{MayLook}
use Rattle.tk_core.specs.declared.moves.Move.TheVariants as moves
use Rattle.tk_core.specs.Program.{CoreState, AnyCaller, firsts, caller_of}
use Rattle.tk_core.proofs.Rows.{refuses, in_map, look_done}
use Rattle.tk_core.proofs.Histories.{firsts_all}
use Rattle.tk_core.proofs.machine.Core.look.Goals as goal

pub returns-then-not-may_look : goal.returns-then-not-may_look
returns-then-not-may_look c = refuses (moves.Look c.args.caller) c.args.self.now (λ t s. absurd (cc (c.may_look.ensures.1 (s.caller, s.is_caller, s.needs), c.if-not-may_look.true)))

pub index_mut-row-requires : goal.index_mut-row-requires
index_mut-row-requires c =
    let a : AnyCaller c.args.self.now c.args.caller MayLook = c.may_look.ensures.0 (search rules) in
    let l = c.self.inside.rows.ok.0 in
    let h = in_map (caller_of c.self.inside.log.items) c.self.inside.rows.items c.args.caller _ (subst (λ (s : CoreState). AnyCaller s c.args.caller MayLook) (sym c.self.view_is) a).1 in
    search rules

pub invariant_of-self : goal.invariant_of-self
invariant_of-self c =
    let n : c.len-seen.result ≡ length c.self.inside.log.items = c.len-seen.ensures ∙ c.self.inside.log.ok.0 in
    let whole : firsts c.len-seen.result c.self.inside.log.items ≡ c.self.inside.log.items = firsts_all c.len-seen.result c.self.inside.log.items n in
    let old : Row = c.index_mut-row.result.now in
    let new : Row = record old { seen = c.len-seen.result; base = c.len-seen.result } in
    (look_done c.self.inside.frame c.self.inside.log.items c.self.inside.owners.items c.self.inside.spoilt.items c.self.inside.away.items c.self.inside.rows.items c.args.caller old new c.index_mut-row.ensures.value
    c.args.self.now c.self.view_is c.self.invariant (c.may_look.ensures.0 (search rules)) (λ t. record (caller_of c.self.inside.log.items old) { seen = whole t; base = whole t })).core

pub returns : goal.returns
returns c =
    let n : c.len-seen.result ≡ length c.self.inside.log.items = c.len-seen.ensures ∙ c.self.inside.log.ok.0 in
    let whole : firsts c.len-seen.result c.self.inside.log.items ≡ c.self.inside.log.items = firsts_all c.len-seen.result c.self.inside.log.items n in
    let old : Row = c.index_mut-row.result.now in
    let new : Row = record old { seen = c.len-seen.result; base = c.len-seen.result } in
    (look_done c.self.inside.frame c.self.inside.log.items c.self.inside.owners.items c.self.inside.spoilt.items c.self.inside.away.items c.self.inside.rows.items c.args.caller old new c.index_mut-row.ensures.value
    c.args.self.now c.self.view_is c.self.invariant (c.may_look.ensures.0 (search rules)) (λ t. record (caller_of c.self.inside.log.items old) { seen = whole t; base = whole t })).answer
