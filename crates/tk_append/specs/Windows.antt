-- A window over a file, by the bytes that it has.
use Rattle.std.specs.Prelude.{ℕ, ◌-◌, List, length, slice_range}
use Rattle.tk_append.specs.declared.window.Window.{Window}

-- the bytes that were read and not yet passed
abbrev pub items : Window → List ℕ
items w = slice_range w.buffer.items w.start w.end

-- how many bytes fit behind them
abbrev pub room : Window → ℕ
room w = length w.buffer.items - w.end
