use Rattle.std.proofs.Common.{rules, ◌≡◌, true, false, length, map, sym, subst, ◌∙◌, arith, Decides}
use Rattle.tk_core.specs.Needs.{MaySplit}
use Rattle.tk_core.specs.Program.{CoreState, AnyCaller, caller_of}
use Rattle.tk_core.proofs.Rows.{nobody, decides, length_map, empty_list}
use Rattle.tk_core.proofs.machine.Core.may_split.Goals as goal

pub returns-then-at-len : goal.returns-then-at-len
returns-then-at-len c =
    subst (λ (s : CoreState). Decides false (AnyCaller s c.args.caller (MaySplit (length s.callers)))) c.self.view_is
    (λ e. absurd (cc e), λ a. absurd (nobody c.self.inside.log.items c.self.inside.rows.items c.args.caller (MaySplit (length (map (caller_of c.self.inside.log.items) c.self.inside.rows.items))) (search rules) a))

pub returns-then-not-row : goal.returns-then-not-row
returns-then-not-row c =
    subst (λ (s : CoreState). Decides false (AnyCaller s c.args.caller (MaySplit (length s.callers)))) c.self.view_is
    (decides c.self.inside.log.items c.self.inside.rows.items c.args.caller c.index-row.result.now (search rules) c.index-row.ensures (MaySplit (length (map (caller_of c.self.inside.log.items) c.self.inside.rows.items))) false (λ e. absurd (cc e)) (λ m. let e : c.index-row.result.now.live ≡ true = m.live in absurd (search rules)))

pub returns : goal.returns
returns c =
    let empty = empty_list c.index-row.result.now.held.items c.index-row.result.now.held.len c.index-row.result.now.held.ok.0 in
    subst (λ (s : CoreState). Decides c.is_empty.result (AnyCaller s c.args.caller (MaySplit (length s.callers)))) c.self.view_is
    (decides c.self.inside.log.items c.self.inside.rows.items c.args.caller c.index-row.result.now (search rules) c.index-row.ensures (MaySplit (length (map (caller_of c.self.inside.log.items) c.self.inside.rows.items))) c.is_empty.result
    (λ e. record {
      few = let l = length_map (caller_of c.self.inside.log.items) c.self.inside.rows.items in let o = c.self.inside.rows.ok.0 in let a = c.len-2.ensures in let b = c.if-len.false in omega arith;
      live = c.if-not-row.false;
      held = empty.0 (sym c.is_empty.ensures ∙ e);
    })
    (λ m. c.is_empty.ensures ∙ empty.1 m.held))
