use Rattle.std.proofs.Common.{◌∙◌, sym, ap, subst, arith}
use Rattle.std.proofs.lemmas.List.{take_all}
use Rattle.tk_disk.specs.Places.{IsAbsent}
use Rattle.std.specs.Prelude.{string_bytes}
use Rattle.std.proofs.lemmas.Slice.Eq.{bytes_eq-Decides}
use Rattle.tk_disk.proofs.Named.{named-here, absent-next, absent-held, differs}
use Rattle.tk_disk.proofs.places.find.Goals as goal

pub returns-then-eq-clause-place : goal.returns-then-eq-clause-place
returns-then-eq-clause-place g c =
    let is = (bytes_eq-Decides c.as_str.result.now c.args.name.now).0 (sym c.if-eq.ensures) in (
      c.loop-i-test.true,
      named-here c.args.places.now c.loop-i.i c.args.name.now c.index-places-i.result c.loop-i-test.true c.loop-i.invariant
          (ap (λ p. string_bytes p.name) (sym c.index-places-i.is) ∙ sym c.as_str.ensures.value ∙ is),
    )

pub loop-i-preserved : goal.loop-i-preserved
loop-i-preserved g c = absent-next c.args.places.now c.loop-i.i c.args.name.now c.index-places-i.result c.loop-i-test.true c.loop-i.invariant
    (λ is. differs c.as_str.result.now c.args.name.now c.if-eq.ensures (c.as_str.ensures.value ∙ ap (λ p. string_bytes p.name) c.index-places-i.is ∙ is))

pub returns-clause-none : goal.returns-clause-none
returns-clause-none g c = absent-held c.args.places.now c.args.name.now
    (subst (λ ps. IsAbsent ps c.args.name.now) (take_all c.loop-i.i c.args.places.now (omega arith)) c.loop-i.invariant)
