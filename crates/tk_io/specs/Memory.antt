-- Sources and sinks in memory, as contracts see them.
use Rattle.std.specs.Prelude.{ℕ, List}

pub record SourceState : Type 0 where
  -- what is left to read
  pub left : List ℕ
  -- the numbers of the calls that fail
  pub failing : List ℕ
  -- how many calls there were, which is the number of the next
  pub calls : ℕ
  -- how many failed
  pub faults : ℕ

pub record SinkState : Type 0 where
  -- what was written
  pub held : List ℕ
  pub failing : List ℕ
  pub calls : ℕ
  pub faults : ℕ
