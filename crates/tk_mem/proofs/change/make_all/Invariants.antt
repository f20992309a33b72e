use Rattle.std.proofs.Common.{◌≡◌, length}
use Rattle.tk_model.specs.Records.{after, HasNoClear}
use Rattle.tk_model.specs.declared.record.Order.TheVariants.{Hash}
use Rattle.tk_store.specs.Store.{AllFitWithin}
use Rattle.tk_mem.specs.Undo.{undone, text_size}
use Rattle.tk_mem.proofs.change.make_all.Given as goal

abbrev pub invariant-loop-change : goal.invariant-loop-change
invariant-loop-change l = record {
  whole : after Hash l.changes l.fn.table ≡ after Hash l.rest l.table;
  back : undone l.undo.items l.table ≡ undone l.fn.undo.items l.fn.table;
  size : l.size ≡ text_size l.table;
  fit : AllFitWithin 33554431 l.rest;
  no_clear : HasNoClear l.rest;
}

abbrev pub decreases-loop-change : goal.decreases-loop-change
decreases-loop-change l = length l.rest
