use Rattle.std.proofs.Common.{◌+◌, ℕ, List, [], ◌∷◌, ◌++◌, drop, sym, ap, ◌∙◌, arith, append_assoc}
use Rattle.std.proofs.lemmas.List.{append-nil, drop_all}
use Rattle.tk_model.specs.declared.record.Pair.{Pair}
use Rattle.tk_skipfile.specs.SkipText.{size_of, places_from, end_from}
use Rattle.tk_skipfile.proofs.TextSteps.{held_at, cut, end_behind}
use Rattle.tk_skipfile.proofs.places.places_of.Goals as goal

pub size_of-place-requires-clause-key : goal.size_of-place-requires-clause-key
size_of-place-requires-clause-key c =
    let held = held_at c.args.pairs.now c.loop-i.i c.index-pairs-i.result c.requires.held c.loop-i-test.true c.index-pairs-i.is in
    omega (arith, held.0, c.len.ensures)

pub size_of-place-requires-clause-value : goal.size_of-place-requires-clause-value
size_of-place-requires-clause-value c =
    let held = held_at c.args.pairs.now c.loop-i.i c.index-pairs-i.result c.requires.held c.loop-i-test.true c.index-pairs-i.is in
    omega (arith, held.1, c.len-in-loop-i.ensures)

pub overflow_add-place : goal.overflow_add-place
overflow_add-place c =
    let p = c.index-pairs-i.result in
    let rest = drop (c.loop-i.i + 1) c.args.pairs.now in
    let size = c.size_of-place.ensures.value p (sym c.len.ensures) (sym c.len-in-loop-i.ensures) in
    let most = end_behind c.args.levels (c.loop-i.i + 1) (c.loop-i.place + size_of c.args.levels c.loop-i.i p) rest in
    let here = ap (λ (l : List Pair). end_from c.args.levels c.loop-i.i c.loop-i.place l) (cut c.args.pairs.now c.loop-i.i p c.loop-i-test.true c.index-pairs-i.is) in
    omega (arith, size, most, here, c.loop-i.invariant.end, c.requires.end)

pub loop-i-preserved : goal.loop-i-preserved
loop-i-preserved c =
    let p = c.index-pairs-i.result in
    let levels = c.args.levels in
    let i = c.loop-i.i in
    let rest = drop (i + 1) c.args.pairs.now in
    let size = c.size_of-place.ensures.value p (sym c.len.ensures) (sym c.len-in-loop-i.ensures) in
    let here = cut c.args.pairs.now i p c.loop-i-test.true c.index-pairs-i.is in
    record {
      places =
          ap (λ (n : ℕ). c.push.new.self.items ++ places_from levels (i + 1) (c.loop-i.place + n) rest) size
          ∙ ap (λ (l : List ℕ). l ++ places_from levels (i + 1) (c.loop-i.place + size_of levels i p) rest) c.in_ok-push.ensures.items
          ∙ append_assoc c.loop-i.places.items (c.loop-i.place ∷ []) (places_from levels (i + 1) (c.loop-i.place + size_of levels i p) rest)
          ∙ sym (ap (λ (l : List Pair). c.loop-i.places.items ++ places_from levels i c.loop-i.place l) here)
          ∙ c.loop-i.invariant.places;
      end =
          ap (λ (n : ℕ). end_from levels (i + 1) (c.loop-i.place + n) rest) size
          ∙ sym (ap (λ (l : List Pair). end_from levels i c.loop-i.place l) here)
          ∙ c.loop-i.invariant.end;
    }

pub returns : goal.returns
returns c =
    sym (append-nil c.loop-i.places.items)
    ∙ sym (ap (λ (l : List Pair). c.loop-i.places.items ++ places_from c.args.levels c.loop-i.i c.loop-i.place l) (drop_all c.loop-i.i c.args.pairs.now c.loop-i-test.false))
    ∙ c.loop-i.invariant.places
