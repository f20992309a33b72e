use Rattle.std.proofs.Common.{◌≡◌, ℕ, ◌+◌, ◌≤◌, ◌*◌, List, ◌++◌, length, take}
use Rattle.std.specs.Prelude.{IfSome}
use Rattle.std.specs.Option.{is_some}
use Rattle.tk_append.specs.Untorn.{WritesNoHeader}
use Rattle.tk_append.specs.Pieces.{Holds, words_text}
use Rattle.tk_append.proofs.blocks.put_words.Given as goal

abbrev pub invariant-loop-word : goal.invariant-loop-word
invariant-loop-word g l = record {
  text : (text : List ℕ) → Holds (g.D.Disk.image l.initial.disk) l.initial.at l.initial.waiting text → Holds (g.D.Disk.image l.disk) l.at l.waiting (text ++ words_text (take l.word-index l.words));
  here : IfSome (g.D.Disk.image l.disk) (λ f. length f ≡ l.at);
  end : l.at + length l.waiting ≡ l.initial.at + length l.initial.waiting + 8 * l.word-index;
  behind : l.initial.at ≤ l.at;
  no_header : WritesNoHeader g.D.Disk.past g.D.Disk.moment g.D.Disk.left_with l.initial.disk l.disk;
  told : is_some (g.D.Disk.image l.disk) ≡ is_some (g.D.Disk.image l.initial.disk);
  count : g.D.Disk.fault_count l.disk ≡ g.D.Disk.fault_count l.initial.disk;
}
