use Rattle.std.proofs.Common.{◌≡◌, ◌≤◌, ◌+◌, ◌*◌, ◌^◌, drop}
use Rattle.tk_update.specs.Blocks.{blocks_after, end_behind}
use Rattle.tk_update.proofs.plain.PlainBlocks.apply.Given as goal

abbrev pub invariant-loop-change : goal.invariant-loop-change
invariant-loop-change l =
    (blocks_after l.self-inside.base l.group.number (drop l.change-index l.change-items) l.after ≡ blocks_after l.self-inside.base l.group.number l.change-items l.initial.after)
    × (end_behind l.self-inside.base l.after ≤ 2 ^ 40 + l.change-index * 2 ^ 26)
