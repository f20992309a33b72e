use Rattle.std.proofs.Common.{◌≡◌, ℕ, List, [], ◌∷◌, ◌++◌, length}
use Rattle.tk_skipfile.specs.Walking.{Follows, MeetsAll, words_in}
use Rattle.tk_skipfile.proofs.links.Links.meet_all.Given as goal

abbrev pub invariant-loop-level : goal.invariant-loop-level
invariant-loop-level l = record {
  follows : (rows : List (List ℕ)) (places : List ℕ) → Follows rows places l.initial.self → MeetsAll rows places l.height l.index l.owner → Follows (rows ++ words_in l.level 0 l.links ∷ []) places l.self;
  room : length l.self.expected.items ≡ length l.initial.self.expected.items;
  count : l.self.count ≡ l.initial.self.count;
}
