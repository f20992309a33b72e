use Rattle.std.proofs.Common.{rules, ◌≡◌, ◌<◌, true, false, List, [], length, sym, ap, subst, ◌∙◌, arith, Decides}
use Rattle.std.proofs.lemmas.Result.{IfOk-weaker}
use Rattle.tk_model.specs.OrderedRecords.{OrderedRecords}
use Rattle.tk_model.specs.declared.record.Pair.{Pair}
use Rattle.tk_core.specs.Commits.{hand, MayMake}
use Rattle.tk_core.specs.Needs.{MayCommit}
use Rattle.tk_core.specs.Program.{CoreState, AnyCaller}
use Rattle.tk_core.specs.Rule.{map_after}
use Rattle.tk_core.proofs.CommitRows.{EveryMap, commit_needs}
use Rattle.tk_core.proofs.Rows.{nobody, decides}
use Rattle.tk_core.proofs.machine.Core.may_commit.Goals as goal

pub returns-then-at-len-clause-may : goal.returns-then-at-len-clause-may
returns-then-at-len-clause-may c =
    subst (λ (s : CoreState). Decides false (AnyCaller s c.args.caller (MayCommit s.frame EveryMap [] c.args.entry.now))) c.self.view_is
    (λ e. absurd (cc e), λ a. absurd (nobody c.self.inside.log.items c.self.inside.rows.items c.args.caller (MayCommit c.self.inside.frame EveryMap [] c.args.entry.now) (search rules) a))

pub returns-then-not-row-clause-may : goal.returns-then-not-row-clause-may
returns-then-not-row-clause-may c =
    subst (λ (s : CoreState). Decides false (AnyCaller s c.args.caller (MayCommit s.frame EveryMap [] c.args.entry.now))) c.self.view_is
    (decides c.self.inside.log.items c.self.inside.rows.items c.args.caller c.index-row.result.now (search rules) c.index-row.ensures (MayCommit c.self.inside.frame EveryMap [] c.args.entry.now) false (λ e. absurd (cc e)) (λ m. let e : c.index-row.result.now.live ≡ true = m.live in absurd (search rules)))

pub returns-then-row-eq0-clause-may : goal.returns-then-row-eq0-clause-may
returns-then-row-eq0-clause-may c =
    subst (λ (s : CoreState). Decides false (AnyCaller s c.args.caller (MayCommit s.frame EveryMap [] c.args.entry.now))) c.self.view_is
    (decides c.self.inside.log.items c.self.inside.rows.items c.args.caller c.index-row.result.now (search rules) c.index-row.ensures (MayCommit c.self.inside.frame EveryMap [] c.args.entry.now) false (λ e. absurd (cc e)) (λ m. let e : 0 < c.index-row.result.now.allowance = m.allowance in let z = c.if-row-eq0.true in absurd (omega arith)))

pub returns-clause-may : goal.returns-clause-may
returns-clause-may c =
    let room : 0 < c.index-row.result.now.allowance = let z = c.if-row-eq0.false in omega arith in
    let low : c.args.caller < length c.self.inside.rows.items = search rules in
    let pairs : c.args.records.now.pairs ≡ map_after c.self.inside.frame [] c.self.inside.log.items = ap (λ (r : OrderedRecords). r.pairs) c.requires ∙ ap (λ (s : CoreState). map_after s.frame [] s.log) (sym c.self.view_is) in
    IfOk-weaker c.may_make.result
    (λ b. Decides b (MayMake c.self.inside.frame (hand c.index-row.result.now) c.args.records.now.pairs c.args.entry.now))
    (λ b. Decides b (AnyCaller c.args.self.now c.args.caller (MayCommit c.args.self.now.frame EveryMap [] c.args.entry.now)))
    (λ b d.
    let t = commit_needs c.self.inside.frame c.self.inside.log.items c.self.inside.owners.items c.self.inside.spoilt.items c.self.inside.away.items c.self.inside.rows.items c.self.invariant c.args.caller c.index-row.result.now c.args.entry.now b low c.index-row.ensures c.if-not-row.false room
    (subst (λ (m : List Pair). Decides b (MayMake c.self.inside.frame (hand c.index-row.result.now) m c.args.entry.now)) pairs d) in
    subst (λ (s : CoreState). Decides b (AnyCaller s c.args.caller (MayCommit s.frame EveryMap [] c.args.entry.now))) c.self.view_is
    (decides c.self.inside.log.items c.self.inside.rows.items c.args.caller c.index-row.result.now low c.index-row.ensures (MayCommit c.self.inside.frame EveryMap [] c.args.entry.now) b t.0 t.1))
    c.may_make.ensures.may
