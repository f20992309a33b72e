use Rattle.std.proofs.Common.{◌≡◌, ◌≤◌, ◌+◌, ◌^◌, true, drop}
use Rattle.tk_block.specs.Text.{base_of}
use Rattle.tk_block.specs.Layout.{end_of}
use Rattle.tk_append.specs.Fresh.{fresh_bodies}
use Rattle.tk_restore.proofs.restore.has_room.Given as goal

abbrev pub invariant-loop-pair : goal.invariant-loop-pair
invariant-loop-pair l = record {
  rest : end_of l.size (fresh_bodies 0 true (drop l.pair-index l.pairs)) ≡ end_of (base_of l.head.p) (fresh_bodies 0 true l.pairs);
  bound : l.size ≤ 2 ^ 40 + 2 ^ 26;
}
