use Rattle.std.proofs.Common.{length}
use Rattle.tk_mem.specs.Loading.{IsLoaded}
use Rattle.tk_mem.proofs.Readings.{Taken}
use Rattle.tk_mem.proofs.load.Loading.take.Given as goal

abbrev pub invariant-loop-here : goal.invariant-loop-here
invariant-loop-here l = record {
  loaded : IsLoaded l.of l.self;
  taken : Taken l.fn.self.records l.self.records l.bytes l.rest;
}

abbrev pub decreases-loop-here : goal.decreases-loop-here
decreases-loop-here l = length l.rest
