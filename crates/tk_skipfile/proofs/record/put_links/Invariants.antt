use Rattle.std.proofs.Common.{◌≡◌, ◌+◌, ◌-◌, ◌++◌}
use Rattle.tk_append.specs.Pieces.{words_text}
use Rattle.tk_skipfile.specs.SkipText.{links_of, links_from}
use Rattle.tk_skipfile.proofs.record.put_links.Given as goal

abbrev pub invariant-loop-level : goal.invariant-loop-level
invariant-loop-level l =
    l.out ++ words_text (links_from (l.height + 1 - l.level) l.level l.places l.i) ≡ l.fn.out ++ words_text (links_of l.levels l.places l.i)
