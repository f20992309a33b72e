use Rattle.std.proofs.Common.{◌≡◌, take}
use Rattle.tk_core.specs.Commits.{records_of}
use Rattle.tk_core.specs.Program.{state_of}
use Rattle.tk_core.specs.Steps.{Runs}
use Rattle.tk_core.proofs.machine.Core.run.Given as goal

abbrev pub invariant-loop-next : goal.invariant-loop-next
invariant-loop-next l = record {
  frame : l.self.frame ≡ l.fn.self.frame;
  count : l.done ≡ l.next-index;
  records : l.records ≡ records_of l.self;
  runs : Runs l.fn.self.frame (take l.next-index l.moves) (state_of l.fn.self) (state_of l.self);
}
