use Rattle.std.proofs.Common.{◌≡◌, ◌+◌, ◌-◌, ◌≤◌, ◌∙◌, ap, ℕ, List, length, take, drop, subst, arith}
use Rattle.std.specs.Prelude.{Option, IfSome}
use Rattle.std.proofs.lemmas.List.{take_rest}
use Rattle.tk_hash.proofs.Fields.{told_change}
use Rattle.tk_hash.proofs.reading.change_at.Goals as goal

pub returns-clause-says : goal.returns-clause-says
returns-clause-says g c = λ h x.
    told_change h (g.D.Disk.image c.args.disk.now) x c.args.place c.saturating_add.result c.in_ok-front.front.kind c.in_ok-front.front.key c.in_ok-front.front.value c.in_ok-text.text.items (take c.in_ok-front.front.key c.deref.result.now) (take (length c.deref-2.result.now - c.in_ok-front.front.key) (drop c.in_ok-front.front.key c.deref-2.result.now)) c.in_ok-change_of.field-0
    (λ small. omega (arith, c.saturating_add.ensures)) (ap (λ (l : List ℕ). take c.in_ok-front.front.key l) c.deref.ensures.value)
    (take_rest c.deref-2.result.now c.in_ok-front.front.key ∙ ap (λ (l : List ℕ). drop c.in_ok-front.front.key l) c.deref-2.ensures.value)
    (c.in_ok-front.ensures.says h x)
    (subst (λ (o : Option (List ℕ)). IfSome o (λ f. c.saturating_add.result + (c.in_ok-front.front.key + c.in_ok-front.front.value) ≤ length f → c.in_ok-text.text.items ≡ take (c.in_ok-front.front.key + c.in_ok-front.front.value) (drop c.saturating_add.result f))) c.front_at.ensures.image c.in_ok-text.ensures.bytes)
    (c.in_ok-change_of.ensures x)
