use Rattle.std.proofs.Common.{◌+◌, ◌≤◌, drop, vec_len, vec_capacity}
use Rattle.tk_disk.specs.Redone.{redone}
use Rattle.tk_disk.specs.Replay.{spent}
use Rattle.tk_disk.proofs.Redoing.{Redoes}
use Rattle.tk_disk.proofs.tape.redo.Given as goal

abbrev pub invariant-loop-step : goal.invariant-loop-step
invariant-loop-step l = record {
  redoes : Redoes l.left (drop l.step-index l.steps) l.store l.file.items (vec_len l.initial.file + spent l.steps) (redone l.keep l.steps l.fn.store l.initial.file.items);
  capacity : vec_capacity l.initial.file ≤ vec_capacity l.file;
}
