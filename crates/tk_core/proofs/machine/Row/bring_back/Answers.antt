use Rattle.std.proofs.Common.{rules, ◌≡◌, ◌&&◌, not, List, cond, ◌++◌, ◌∷◌, ap, sym, ◌∙◌}
use Rattle.std.specs.Option.{option_to_list}
use Rattle.tk_model.specs.declared.record.Entry.{Entry}
use Rattle.tk_core.specs.Caller.{knows_broken}
use Rattle.tk_core.specs.Program.{caller_of}
use Rattle.tk_core.proofs.LockRows.{led}
use Rattle.tk_core.proofs.machine.Row.bring_back.Goals as goal
use Rattle.tk_core.proofs.machine.Row.bring_back.Goals.{then-broken, else-broken}

pub returns-clause-back : goal.returns-clause-back
returns-clause-back c =
    let newly : (log : List Entry) → c.if-broken.newly ≡ (c.args.broken && not (knows_broken (caller_of log c.args.self.now) c.args.store)) = λ log. elim c.if-broken.branch [ then-broken w ↦ w.newly-is ∙ ap not (w.knows_broken.ensures log) ∙ ap (λ b. b && not (knows_broken (caller_of log c.args.self.now) c.args.store)) (sym w.if-broken.true) | else-broken w ↦ search rules ] in
    λ log t. record (caller_of log c.args.self.now) {
      out = c.remove_all.ensures t;
      breaking = (c.in_ok-put_first.ensures.put ∙ ap (λ o. option_to_list o ++ c.args.self.now.breaking.items) c.then_some.ensures ∙ led c.if-broken.newly c.args.store c.args.self.now.breaking.items
          ∙ ap (λ b. cond b (c.args.store ∷ c.args.self.now.breaking.items) c.args.self.now.breaking.items) (newly log)) t;
    }
