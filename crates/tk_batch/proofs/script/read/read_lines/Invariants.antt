use Rattle.std.proofs.Common.{length}
use Rattle.tk_batch.specs.Script.{line_in}
use Rattle.tk_batch.specs.Woven.{HaveWorkers}
use Rattle.tk_batch.proofs.Lines.{ReadSoFar}
use Rattle.tk_batch.proofs.script.read.read_lines.Given as goal

abbrev pub invariant-loop-rest : goal.invariant-loop-rest
invariant-loop-rest l = record {
  read : ReadSoFar (line_in l.rules) l.most l.fn.text l.rest l.lines;
  workers : HaveWorkers l.rules.workers l.lines;
}

abbrev pub decreases-loop-rest : goal.decreases-loop-rest
decreases-loop-rest l = length l.rest
