use Rattle.std.proofs.Common.{◌≡◌, ℕ, ◌-◌, ◌<◌, ◌≤◌, length, get_or}
use Rattle.tk_hash.proofs.reading.next_filled.Given as goal

abbrev pub invariant-loop-at : goal.invariant-loop-at
invariant-loop-at l = record {
  least : l.fn.from ≤ l.at;
  most : l.at ≤ length l.heads;
  empty : (i : ℕ) → l.fn.from ≤ i → i < l.at → get_or l.heads i 0 ≡ 0;
}

abbrev pub decreases-loop-at : goal.decreases-loop-at
decreases-loop-at l = length l.heads - l.at
