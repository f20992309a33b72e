use Rattle.std.proofs.Common.{rules, Some, refl, sym, subst}
use Rattle.tk_core.specs.declared.machine.Row.{Row}
use Rattle.tk_core.specs.Needs.{MayMiss}
use Rattle.tk_core.specs.declared.moves.Move.TheVariants as moves
use Rattle.tk_core.specs.Program.{CoreState, owner_of, AnyCaller, caller_of}
use Rattle.tk_core.proofs.Rows.{refuses, in_map, miss_done}
use Rattle.tk_core.proofs.machine.Core.miss.Goals as goal

pub returns-then-not-may_miss : goal.returns-then-not-may_miss
returns-then-not-may_miss c = refuses (moves.Miss c.args.caller c.args.lock) c.args.self.now (λ t s. absurd (cc (c.may_miss.ensures.1 (s.caller, s.is_caller, s.needs), c.if-not-may_miss.true)))

pub index_mut-row-requires : goal.index_mut-row-requires
index_mut-row-requires c =
    let a : AnyCaller c.args.self.now c.args.caller (MayMiss c.args.self.now.frame (owner_of c.args.self.now) c.args.lock) = c.may_miss.ensures.0 (search rules) in
    let l = c.self.inside.rows.ok.0 in
    let h = in_map (caller_of c.self.inside.log.items) c.self.inside.rows.items c.args.caller _ (subst (λ (s : CoreState). AnyCaller s c.args.caller (MayMiss s.frame (owner_of s) c.args.lock)) (sym c.self.view_is) a).1 in
    search rules

pub invariant_of-self : goal.invariant_of-self
invariant_of-self c =
    let old : Row = c.index_mut-row.result.now in
    let new : Row = record old { want = Some c.args.lock } in
    (miss_done c.self.inside.frame c.self.inside.log.items c.self.inside.owners.items c.self.inside.spoilt.items c.self.inside.away.items c.self.inside.rows.items c.args.caller old new c.index_mut-row.ensures.value
    c.args.self.now c.self.view_is c.self.invariant c.args.lock (c.may_miss.ensures.0 (search rules)) refl).core

pub returns : goal.returns
returns c =
    let old : Row = c.index_mut-row.result.now in
    let new : Row = record old { want = Some c.args.lock } in
    (miss_done c.self.inside.frame c.self.inside.log.items c.self.inside.owners.items c.self.inside.spoilt.items c.self.inside.away.items c.self.inside.rows.items c.args.caller old new c.index_mut-row.ensures.value
    c.args.self.now c.self.view_is c.self.invariant c.args.lock (c.may_miss.ensures.0 (search rules)) refl).answer
