use Rattle.std.proofs.Common.{◌≡◌, ◌+◌, length}
use Rattle.std.specs.Prelude.{IfSome}
use Rattle.std.specs.List.{flat_map}
use Rattle.std.specs.Option.{is_some}
use Rattle.tk_model.specs.Records.{AllHeld}
use Rattle.tk_model.specs.RecordText.{record_text}
use Rattle.tk_store.specs.PairsLeft.{pairs_left}
use Rattle.tk_mem.specs.Undo.{records_size}
use Rattle.tk_mem.specs.Writing.{text_so_far, with_more}
use Rattle.tk_mem.proofs.write.Pieces.put_records.Given as goal

abbrev pub invariant-loop-pair : goal.invariant-loop-pair
invariant-loop-pair g l = record {
  text : with_more (flat_map record_text (pairs_left l.rest)) (text_so_far (g.D.Disk.image l.disk) l.self)
      ≡ with_more (flat_map record_text (pairs_left l.left)) (text_so_far (g.D.Disk.image l.fn.disk) l.fn.self);
  here : IfSome (g.D.Disk.image l.disk) (λ f. length f ≡ l.self.place);
  end : l.self.place + l.self.used + records_size (pairs_left l.rest) ≡ l.fn.self.place + l.fn.self.used + records_size (pairs_left l.left);
  held : AllHeld (pairs_left l.rest);
  told : is_some (g.D.Disk.image l.disk) ≡ is_some (g.D.Disk.image l.fn.disk);
  taken : g.D.Disk.taken_count l.disk ≡ g.D.Disk.taken_count l.fn.disk;
  count : g.D.Disk.fault_count l.disk ≡ g.D.Disk.fault_count l.fn.disk;
}

abbrev pub decreases-loop-pair : goal.decreases-loop-pair
decreases-loop-pair g l = length (pairs_left l.rest)
