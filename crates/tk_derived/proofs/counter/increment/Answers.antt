use Rattle.std.proofs.Common.{◌≡◌, None, ap, ◌∙◌, ℤ, SFits, w64, to_z, of_z}
use Rattle.std.proofs.lemmas.Int.{to_z-of_z}
use Rattle.tk_status.specs.declared.Status.TheVariants.{Success}
use Rattle.tk_proc.specs.Increments.{Counting, counting_after, increment_reply}
use Rattle.tk_derived.specs.Rows.{increment_value}
use Rattle.tk_derived.proofs.GatedCalls.{derived_by, told_by}
use Rattle.tk_derived.proofs.RowLaws.{increment_replies}
use Rattle.tk_derived.proofs.counter.increment.Goals as goal

-- a counter that was just made
abbrev begun : ℤ → ℤ → Counting
begun n initial = record { by = n; initial = initial; status = Success; number = None }

begun_is : (p : Counting) (n initial : ℤ) → SFits w64 n → SFits w64 initial → p ≡ begun (to_z w64 (of_z w64 n)) (to_z w64 (of_z w64 initial)) → p ≡ begun n initial
begun_is p n initial a b e = e ∙ ap (λ z. begun z (to_z w64 (of_z w64 initial))) (to_z-of_z w64 n a) ∙ ap (begun n) (to_z-of_z w64 initial b)

pub returns-clause-derived : goal.returns-clause-derived
returns-clause-derived g c =
    let made = begun_is c.new-processor.result c.args.n c.args.initial c.ranges.n c.ranges.initial c.new-processor.ensures in
    rw c.replied-answer.ensures (derived_by (λ (p : Counting) k was. (increment_reply p.by p.initial was).action) (λ (p : Counting) k was. counting_after p (increment_reply p.by p.initial was))
    (record { called = c.process-made.ensures.called; turned = c.process-made.ensures.turned; same = λ was. ap (λ (p : Counting). (increment_reply p.by p.initial was).action) made; fair = increment_replies c.args.n c.args.initial })
    c.status.result (λ was e. c.status.ensures ∙ ap (λ (p : Counting). p.status) e ∙ ap (λ (p : Counting). (increment_reply p.by p.initial was).status) made))

pub returns-clause-out : goal.returns-clause-out
returns-clause-out g c =
    let made = begun_is c.new-processor.result c.args.n c.args.initial c.ranges.n c.ranges.initial c.new-processor.ensures in
    rw c.replied-answer.ensures (told_by (λ (p : Counting) k was. (increment_reply p.by p.initial was).action) (λ (p : Counting) k was. counting_after p (increment_reply p.by p.initial was))
    (record { called = c.process-made.ensures.called; turned = c.process-made.ensures.turned; same = λ was. ap (λ (p : Counting). (increment_reply p.by p.initial was).action) made; fair = increment_replies c.args.n c.args.initial })
    (increment_value c.args.n c.args.initial) c.status.result c.number.result c.args.out.now c.tell.new.out c.tell.ensures
    (λ was e. c.number.ensures ∙ ap (λ (p : Counting). p.number) e ∙ ap (λ (p : Counting). (increment_reply p.by p.initial was).number) made))
