use Rattle.std.proofs.Common.{◌≡◌, ◌≤◌, ℕ, ◌+◌, List, ◌++◌, length, drop}
use Rattle.std.specs.Prelude.{IfSome}
use Rattle.std.specs.Option.{is_some}
use Rattle.tk_append.specs.Pieces.{Holds}
use Rattle.tk_skipfile.specs.HeaderLast.{WritesNoWord}
use Rattle.tk_skipfile.specs.SkipText.{texts_from, end_from}
use Rattle.tk_skipfile.proofs.write.put_records.Given as goal

abbrev pub invariant-loop-i : goal.invariant-loop-i
invariant-loop-i g l = record {
  text : (text : List ℕ) → Holds (g.D.Disk.image l.initial.disk) l.initial.at l.initial.waiting text
      → (front : List ℕ) × Holds (g.D.Disk.image l.disk) l.at l.waiting (text ++ front)
      × (front ++ texts_from l.levels l.places l.i (l.at + length l.waiting) (drop l.i l.pairs) ≡ texts_from l.levels l.places 0 (l.initial.at + length l.initial.waiting) l.pairs);
  here : IfSome (g.D.Disk.image l.disk) (λ f. length f ≡ l.at);
  end : end_from l.levels l.i (l.at + length l.waiting) (drop l.i l.pairs) ≡ end_from l.levels 0 (l.initial.at + length l.initial.waiting) l.pairs;
  behind : l.initial.at ≤ l.at;
  no_word : WritesNoWord g.D.Disk.past g.D.Disk.moment g.D.Disk.left_with l.initial.disk l.disk;
  told : is_some (g.D.Disk.image l.disk) ≡ is_some (g.D.Disk.image l.initial.disk);
  count : g.D.Disk.fault_count l.disk ≡ g.D.Disk.fault_count l.initial.disk;
}
