use Rattle.std.proofs.Common.{◌≡◌, ℕ, ◌+◌, ◌≤◌, List, ◌++◌, length, take}
use Rattle.std.specs.Prelude.{IfSome}
use Rattle.std.specs.Option.{is_some}
use Rattle.tk_block.specs.Layout.{laid, end_of, texts}
use Rattle.tk_append.specs.Fresh.{fresh_bodies}
use Rattle.tk_append.specs.Untorn.{WritesNoHeader}
use Rattle.tk_append.specs.Pieces.{Holds}
use Rattle.tk_append.proofs.blocks.put_records.Given as goal

abbrev pub invariant-loop-i : goal.invariant-loop-i
invariant-loop-i g l = record {
  text : (text : List ℕ) → Holds (g.D.Disk.image l.initial.disk) l.initial.at l.initial.waiting text
      → Holds (g.D.Disk.image l.disk) l.at l.waiting (text ++ texts (laid (l.initial.at + length l.initial.waiting) (take l.i (fresh_bodies l.number l.each l.pairs))) l.links);
  here : IfSome (g.D.Disk.image l.disk) (λ f. length f ≡ l.at);
  end : l.at + length l.waiting ≡ end_of (l.initial.at + length l.initial.waiting) (take l.i (fresh_bodies l.number l.each l.pairs));
  behind : l.initial.at ≤ l.at;
  no_header : WritesNoHeader g.D.Disk.past g.D.Disk.moment g.D.Disk.left_with l.initial.disk l.disk;
  told : is_some (g.D.Disk.image l.disk) ≡ is_some (g.D.Disk.image l.initial.disk);
  count : g.D.Disk.fault_count l.disk ≡ g.D.Disk.fault_count l.initial.disk;
}
