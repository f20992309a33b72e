use Rattle.std.proofs.Common.{◌∙◌, ℕ, List, [], ◌∷◌, ◌++◌, refl, sym, ap, arith}
use Rattle.tk_skipfile.specs.SkipText.{header_size}
use Rattle.tk_skipfile.specs.Opening.{rows_in, known_places}
use Rattle.tk_skipfile.specs.Walking.{linked_of}
use Rattle.tk_skipfile.proofs.Judging.{length-words_in}
use Rattle.tk_skipfile.proofs.Walks.{size_is, passed, meets_there, length-places, length-rows-more}
use Rattle.tk_skipfile.proofs.walker.Walker.pass.Goals as goal

pub overflow_add-size-4 : goal.overflow_add-size-4
overflow_add-size-4 c = omega (arith, c.requires.end, size_is c.args.here.now c.requires.long)

pub overflow_add-self-2 : goal.overflow_add-self-2
overflow_add-self-2 c = omega (arith, c.requires.end, size_is c.args.here.now c.requires.long)

pub returns-clause-place : goal.returns-clause-place
returns-clause-place c = omega (arith, size_is c.args.here.now c.requires.long)

pub returns-clause-at : goal.returns-clause-at
returns-clause-at c xs at s more =
    let x = linked_of c.args.here.now in
    let w = c.args.self.now in
    let here = c.args.here.now in
    let met = c.meet_all.ensures.follows (rows_in xs) (known_places header_size xs) at.links (meets_there xs x w here.height at s (sym (length-words_in here.height 0 here.links.now))) in
    passed xs x w _ at s more (record {
      levels = refl;
      count = c.arrive.ensures.count ∙ c.meet_all.ensures.count;
      index = refl;
      place = omega (arith, size_is here c.requires.long);
      last = c.in_ok-extend.ensures.ok ∙ ap (λ (l : List ℕ). l ++ here.key.now) c.clear.ensures;
      links = c.arrive.ensures.follows (rows_in xs ++ x.links ∷ []) (known_places header_size xs) met
          (omega (arith, length-rows-more xs x, at.index)) (omega (arith, length-places header_size xs, at.index));
    })
