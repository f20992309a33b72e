use Rattle.std.proofs.Common.{◌≡◌, ◌-◌, ◌∙◌, ℕ, List, [], ◌++◌, length, drop, append_assoc, refl, sym, ap, subst, length-append, arith}
use Rattle.std.proofs.lemmas.List.{drop_at}
use Rattle.tk_skipfile.specs.Opening.{Stops, spelled}
use Rattle.tk_skipfile.specs.Walking.{linked_of, Takes}
use Rattle.tk_skipfile.proofs.Walks.{takes_none, takes_more, takes_shorter}
use Rattle.tk_skipfile.proofs.walker.Walker.take.Goals as goal

pub loop-here-init : goal.loop-here-init
loop-here-init c = record { takes = λ xs at. takes_none xs c.args.self.now c.args.bytes.now at; place = refl; front = ([], refl); count = refl; levels = refl }

pub pass-requires-clause-end : goal.pass-requires-clause-end
pass-requires-clause-end c =
    omega (arith, takes_shorter _ _ _ _ _ c.in-Some.ensures.text, c.loop-here.invariant.place, c.requires.end)

pub loop-here-smaller : goal.loop-here-smaller
loop-here-smaller c = omega (arith, takes_shorter _ _ _ _ _ c.in-Some.ensures.text)

pub loop-here-preserved : goal.loop-here-preserved
loop-here-preserved c =
    let i = c.loop-here.invariant in
    let x = linked_of c.in-Some.here in
    record {
      takes = λ xs at.
          let t = i.takes xs at in
          takes_more xs c.args.self.now c.loop-here.self c.pass.new.self c.args.bytes.now c.loop-here.rest.now c.in-Some.here.rest.now x t c.in-Some.here.height c.in-Some.ensures.text
          (c.in_ok-pass.ensures.at _ t.at (c.in-Some.ensures.found _ t.at) (c.in-Some.ensures.more _ t.at)) at;
      place = omega (arith, takes_shorter _ _ _ _ _ c.in-Some.ensures.text, i.place, c.in_ok-pass.ensures.place);
      front = (
        i.front.0 ++ spelled x c.loop-here.self.place,
        i.front.1 ∙ ap (λ (l : List ℕ). i.front.0 ++ l) c.in-Some.ensures.text.text ∙ sym (append_assoc i.front.0 (spelled x c.loop-here.self.place) c.in-Some.here.rest.now),
      );
      count = c.pass.ensures.count ∙ i.count;
      levels = c.pass.ensures.levels ∙ i.levels;
    }

rest_is : (bytes rest front : List ℕ) → bytes ≡ front ++ rest → drop (length bytes - length rest) bytes ≡ rest
rest_is bytes rest front is =
    ap (drop (length bytes - length rest)) is ∙ drop_at front rest (length bytes - length rest) (omega (arith, ap length is, length-append front rest))

pub overflow_sub-result : goal.overflow_sub-result
overflow_sub-result c =
    let f = c.loop-here.invariant.front in
    omega (arith, ap length f.1, length-append f.0 c.loop-here.rest.now)

pub returns-clause-takes : goal.returns-clause-takes
returns-clause-takes c xs at =
    let f = c.loop-here.invariant.front in
    subst (Takes xs c.args.self.now c.loop-here.self c.args.bytes.now) (sym (rest_is c.args.bytes.now c.loop-here.rest.now f.0 f.1)) (c.loop-here.invariant.takes xs at)

pub returns-clause-stops : goal.returns-clause-stops
returns-clause-stops c xs at =
    let f = c.loop-here.invariant.front in
    subst (Stops c.loop-here.self.links.count xs) (sym (rest_is c.args.bytes.now c.loop-here.rest.now f.0 f.1)) (c.in_default.ensures.none xs at)

pub returns-clause-place : goal.returns-clause-place
returns-clause-place c =
    let f = c.loop-here.invariant.front in
    omega (arith, ap length f.1, length-append f.0 c.loop-here.rest.now, c.loop-here.invariant.place)
