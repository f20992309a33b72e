use Rattle.std.proofs.Common.{◌≡◌, take}
use Rattle.tk_mem.specs.Undo.{undone}
use Rattle.tk_mem.proofs.change.take_back.Given as goal

abbrev pub invariant-loop-left : goal.invariant-loop-left
invariant-loop-left l = record {
  items : l.undo.items ≡ take l.left l.fn.undo.items;
  back : undone l.undo.items l.table ≡ undone l.fn.undo.items l.fn.table;
}
