use Rattle.std.proofs.Common.{rules, ◌≡◌, true, sym, subst}
use Rattle.tk_core.specs.Lists.{has}
use Rattle.tk_core.specs.Program.{caller_of}
use Rattle.tk_core.proofs.LockRows.{give_live, give_holds}
use Rattle.tk_core.proofs.machine.Row.may_give.Goals as goal

pub returns-then-not-self : goal.returns-then-not-self
returns-then-not-self c = λ log. (λ e. absurd (cc e), λ m. let e : c.args.self.now.live ≡ true = give_live c.args.frame.now c.args.lock (caller_of log c.args.self.now) m in absurd (search rules))

pub returns-then-not-holds : goal.returns-then-not-holds
returns-then-not-holds c = λ log.
    (λ e. absurd (cc e), λ m. let h : has c.args.lock c.deref.result.now ≡ true = subst (λ xs. has c.args.lock xs ≡ true) (sym c.deref.ensures.value) (give_holds c.args.frame.now c.args.lock (caller_of log c.args.self.now) m) in absurd (cc (h, c.holds.ensures, c.if-not-holds.true)))

pub returns-else-store-frame : goal.returns-else-store-frame
returns-else-store-frame c = λ log. (λ e. absurd (search rules), λ m. absurd (let low = (m.1 c.in-Some.store (search rules)).store in search rules))
