use Rattle.std.proofs.lemmas.Option.{slice_get_read}
use Rattle.tk_skipfile.specs.declared.links.Links.{Links}
use Rattle.std.proofs.Common.{◌≡◌, ◌∙◌, ◌+◌, List, length, sym, ap, subst, refl, arith}
use Rattle.std.specs.Prelude.{slice_get, Some}
use Rattle.tk_skipfile.specs.declared.links.Expected.{Expected}
use Rattle.tk_skipfile.proofs.Judging.{Judged, none_judged, judged_none, judged_right, judged_wrong, all_judged}
use Rattle.tk_skipfile.proofs.links.Links.arrive.Goals as goal

pub returns-then-index-self-clause-follows : goal.returns-then-index-self-clause-follows
returns-then-index-self-clause-follows c rows places f whole known =
    none_judged rows places c.args.place c.args.self.now f (whole ∙ sym known) (omega (arith, known, c.if-index-self.true))

pub loop-level-init : goal.loop-level-init
loop-level-init c = record { judged = λ rows places f whole known. judged_none rows places c.args.place c.args.self.now f (whole ∙ sym known); expected = refl; count = refl }

pub loop-level-preserved : goal.loop-level-preserved
loop-level-preserved c =
    let i = c.loop-level.invariant in
    let level = c.loop-level.level in
    let e = c.index.result.now in
    let l = c.args.self.now in
    let place = c.args.place in
    let got : slice_get l.expected.items level ≡ Some e =
    ap (λ (xs : List Expected). slice_get xs level) (sym i.expected) ∙ slice_get_read c.loop-level.self.expected.items (length c.loop-level.self.expected.items) level e refl (omega (arith, c.loop-level-test.true, c.len-level-end.ensures, ap length i.expected)) c.index.ensures in
    elim c.if-target-index.branch [
      | goal.then-target-index+then-link-place w ↦ record {
        judged = λ rows places f whole known.
            subst (λ (s : Links). Judged rows places place (level + 1) s) (sym w.self-is)
            (judged_wrong rows places place l f (whole ∙ sym known) level (level + 1) e c.loop-level.self w.lower.new.self refl got (w.if-target-index.true ∙ sym known) w.if-link-place.true (omega (arith, known, c.requires)) (omega (arith, known, c.if-index-self.false))
            i.count (w.lower.ensures.count ∙ i.count) w.lower.ensures.fault (i.judged rows places f whole known));
        expected = ap (λ (s : Links). s.expected.items) w.self-is ∙ w.lower.ensures.expected ∙ i.expected;
        count = ap (λ (s : Links). s.count) w.self-is ∙ w.lower.ensures.count ∙ i.count;
      }
      | goal.else-target-index w ↦ record {
        judged = λ rows places f whole known.
            let right : e.target ≡ length places → e.link ≡ place = λ here. elim w.else-target-index.branch [
              | goal.else-target-index-via-then-target-index+else-link-place v ↦ v.if-link-place.false
              | goal.else-target-index-via-else-target-index v ↦ absurd (v.if-target-index.false (here ∙ known))
            ] in
            subst (λ (s : Links). Judged rows places place (level + 1) s) (sym w.self-is)
            (judged_right rows places place l f (whole ∙ sym known) level (level + 1) e c.loop-level.self refl got right i.count (i.judged rows places f whole known));
        expected = ap (λ (s : Links). s.expected.items) w.self-is ∙ i.expected;
        count = ap (λ (s : Links). s.count) w.self-is ∙ i.count;
      }
    ]

pub returns-clause-follows : goal.returns-clause-follows
returns-clause-follows c rows places f whole known =
    let i = c.loop-level.invariant in
    all_judged rows places c.args.place c.args.self.now f (whole ∙ sym known) c.loop-level.level c.loop-level.self i.count i.expected (omega (arith, c.loop-level-test.false, c.len-level-end.ensures)) (i.judged rows places f whole known)
