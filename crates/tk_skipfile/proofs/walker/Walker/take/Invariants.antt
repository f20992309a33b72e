use Rattle.std.proofs.Common.{◌≡◌, ◌+◌, ◌++◌, ℕ, List, length}
use Rattle.tk_skipfile.specs.Opening.{Linked}
use Rattle.tk_skipfile.specs.Walking.{IsAt, Takes}
use Rattle.tk_skipfile.proofs.walker.Walker.take.Given as goal

abbrev pub invariant-loop-here : goal.invariant-loop-here
invariant-loop-here l = record {
  takes : (xs : List Linked) → IsAt xs l.initial.self → Takes xs l.initial.self l.self l.bytes l.rest;
  place : l.self.place + length l.rest ≡ l.initial.self.place + length l.bytes;
  front : (front : List ℕ) × (l.bytes ≡ front ++ l.rest);
  count : l.self.links.count ≡ l.initial.self.links.count;
  levels : l.self.levels ≡ l.initial.self.levels;
}

abbrev pub decreases-loop-here : goal.decreases-loop-here
decreases-loop-here l = length l.rest
