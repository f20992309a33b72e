use Rattle.std.proofs.Common.{◌≡◌, ℕ, List, length}
use Rattle.tk_skipfile.specs.Walking.{Follows}
use Rattle.tk_skipfile.proofs.Judging.{Judged}
use Rattle.tk_skipfile.proofs.links.Links.arrive.Given as goal

abbrev pub invariant-loop-level : goal.invariant-loop-level
invariant-loop-level l = record {
  judged : (rows : List (List ℕ)) (places : List ℕ) → Follows rows places l.initial.self → length rows ≡ l.index → length places ≡ l.index → Judged rows places l.place l.level l.self;
  expected : l.self.expected.items ≡ l.initial.self.expected.items;
  count : l.self.count ≡ l.initial.self.count;
}
