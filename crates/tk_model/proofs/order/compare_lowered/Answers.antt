use Rattle.std.proofs.Common.{◌≡◌, ℕ, ◌+◌, arith, sym, ap, ◌∙◌, drop, get_or}
use Rattle.std.specs.Ordering.{nat_cmp}
use Rattle.std.specs.Char.{to_ascii_lowercase}
use Rattle.std.specs.declared.cmp.Ordering.{Ordering}
use Rattle.tk_model.proofs.Orders.{lowered_cmp, lowered_end, decided, undecided}
use Rattle.tk_model.proofs.order.compare_lowered.Goals as goal

compared : (o : Ordering) (x y a b : ℕ) → o ≡ nat_cmp x y → x ≡ to_ascii_lowercase a → y ≡ to_ascii_lowercase b → o ≡ nat_cmp (to_ascii_lowercase a) (to_ascii_lowercase b)
compared o x y a b e f g = e ∙ ap (λ z. nat_cmp z y) f ∙ ap (λ z. nat_cmp (to_ascii_lowercase a) z) g

pub returns-then-is_ne : goal.returns-then-is_ne
returns-then-is_ne c =
    decided c.args.a.now c.args.b.now c.loop-i.i c.cmp-found.result (omega arith) (omega arith)
    (compared _ _ _ (get_or c.args.a.now c.loop-i.i 0) (get_or c.args.b.now c.loop-i.i 0) c.cmp-found.ensures c.to_ascii_lowercase.ensures.value c.to_ascii_lowercase-in-loop-i.ensures.value)
    (sym c.is_ne.ensures ∙ c.if-is_ne.true)
    ∙ c.loop-i.invariant

pub loop-i-preserved : goal.loop-i-preserved
loop-i-preserved c =
    let goes : lowered_cmp (drop (c.loop-i.i + 1) c.args.a.now) (drop (c.loop-i.i + 1) c.args.b.now) ≡ lowered_cmp (drop c.loop-i.i c.args.a.now) (drop c.loop-i.i c.args.b.now) =
    undecided c.args.a.now c.args.b.now c.loop-i.i c.cmp-found.result (omega arith) (omega arith)
    (compared _ _ _ (get_or c.args.a.now c.loop-i.i 0) (get_or c.args.b.now c.loop-i.i 0) c.cmp-found.ensures c.to_ascii_lowercase.ensures.value c.to_ascii_lowercase-in-loop-i.ensures.value)
    (sym c.is_ne.ensures ∙ c.if-is_ne.false) in
    goes ∙ c.loop-i.invariant

pub returns : goal.returns
returns c = lowered_end c.args.a.now c.args.b.now c.loop-i.i c.cmp.result (omega arith) c.cmp.ensures ∙ c.loop-i.invariant
