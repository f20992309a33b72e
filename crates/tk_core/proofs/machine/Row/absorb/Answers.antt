use Rattle.std.proofs.Common.{rules, ◌+◌, ◌++◌, max, reverse, ap, ◌∙◌}
use Rattle.tk_core.specs.declared.machine.Row.{Row}
use Rattle.std.proofs.lemmas.List.{reverse-append}
use Rattle.tk_core.specs.Program.{caller_of, firsts, numbered}
use Rattle.tk_core.proofs.LockRows.{numbered_append, longer_max}
use Rattle.tk_core.proofs.machine.Row.absorb.Goals as goal

pub returns-clause-joined : goal.returns-clause-joined
returns-clause-joined c = λ log. (
  λ t. record (caller_of log c.args.self.now) {
    allowance = ap (λ (r : Row). c.args.self.now.allowance + r.allowance) c.replace-allowance.ensures.value t;
    seen = (ap (λ n. firsts n log) c.max-self.ensures ∙ ap (λ (r : Row). firsts (max c.args.self.now.seen r.seen) log) c.replace-allowance.ensures.value ∙ longer_max c.args.self.now.seen c.args.other.now.seen log) t;
    mine = (ap (λ (r : Row). numbered log (reverse r.mine.items)) c.replace-allowance.ensures.value ∙ ap (λ xs. numbered log (reverse xs)) (c.in_ok-append-3.ensures.items ∙ ap (λ xs. xs ++ c.args.self.now.mine.items) c.in_ok-reserve.ensures.items)
        ∙ ap (numbered log) (reverse-append c.args.other.now.mine.items c.args.self.now.mine.items) ∙ numbered_append log (reverse c.args.self.now.mine.items) (reverse c.args.other.now.mine.items)) t;
    broke = (c.in_ok-append-2.ensures.items ∙ ap (λ xs. xs ++ c.args.other.now.broke.items) c.in_ok-reserve-2.ensures.items) t;
    met = c.in_ok-append.ensures.items t;
  },
  (let b = c.blank-blank.ensures log in search rules),
)
