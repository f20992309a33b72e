use Rattle.std.proofs.Common.{rules, ◌≡◌, [], refl}
use Rattle.std.specs.Prelude.{IfOk}
use Rattle.tk_model.specs.Records.{first_within, replay}
use Rattle.tk_model.specs.declared.record.Order.TheVariants.{Hash}
use Rattle.tk_hash.proofs.HashKeeps.{same_read, file_at, told_with, shelf_at, still_at, read_on, stood_on}
use Rattle.tk_hash.proofs.store.HashStoreSeqStore.next.Goals as goal

pub first_record-requires-clause-file : goal.first_record-requires-clause-file
first_record-requires-clause-file g c = file_at g.D.Disk.image g.D.Disk.may_leave g.D.Disk.past c.args.self.now c.disk.result.now _ c.requires.whole c.disk.ensures.value c.head.ensures c.deref.ensures.value c.end.ensures

pub returns-clause-value : goal.returns-clause-value
returns-clause-value g c =
    told_with g.D.Disk.image g.D.Disk.may_leave g.D.Disk.past c.args.self.now c.disk.result.now c.head.result.now c.requires.whole c.disk.ensures.value c.head.ensures (λ h gs. replay Hash gs [])
    (λ m. IfOk c.first_record.result (λ found. found ≡ first_within Hash c.args.bound.now m)) c.first_record.ensures.value

pub returns-clause-looks : goal.returns-clause-looks
returns-clause-looks g c = record {
  same_nature = search rules;
  same_shown = search rules;
  keeps = λ first since hard st.
      read_on g.D.Disk.image g.D.Disk.may_leave g.D.Disk.past g.D.Disk.moment g.D.Disk.left_since g.D.Disk.left_with c.args.self.now _ first since hard
      (same_read g.D.Disk.image c.args.self.now _ c.disk.result.now c.disk.ensures.value (λ unclosed. unclosed) refl refl refl refl refl refl refl refl (λ known. known) refl c.first_record.ensures.image)
      (shelf_at g.D.Disk.image g.D.Disk.may_leave g.D.Disk.past c.args.self.now c.first_record.new.shelf c.disk.result.now c.head.result.now c.disk.ensures.value c.head.ensures c.first_record.ensures.shelf)
      (still_at g.D.Disk.image g.D.Disk.may_leave g.D.Disk.past g.D.Disk.moment g.D.Disk.left_since g.D.Disk.left_with _ _ _ c.disk.ensures.value c.first_record.ensures.still) st;
  keeps_since = λ t n first since hard st.
      stood_on g.D.Disk.image g.D.Disk.may_leave g.D.Disk.past g.D.Disk.moment g.D.Disk.left_since g.D.Disk.left_with g.met.D.Disk.since_with c.args.self.now _ t n first since hard
      (same_read g.D.Disk.image c.args.self.now _ c.disk.result.now c.disk.ensures.value (λ unclosed. unclosed) refl refl refl refl refl refl refl refl (λ known. known) refl c.first_record.ensures.image)
      (shelf_at g.D.Disk.image g.D.Disk.may_leave g.D.Disk.past c.args.self.now c.first_record.new.shelf c.disk.result.now c.head.result.now c.disk.ensures.value c.head.ensures c.first_record.ensures.shelf)
      (still_at g.D.Disk.image g.D.Disk.may_leave g.D.Disk.past g.D.Disk.moment g.D.Disk.left_since g.D.Disk.left_with _ _ _ c.disk.ensures.value c.first_record.ensures.still) st;
  writes_nothing = record { same = search rules; still = still_at g.D.Disk.image g.D.Disk.may_leave g.D.Disk.past g.D.Disk.moment g.D.Disk.left_since g.D.Disk.left_with _ _ _ c.disk.ensures.value c.first_record.ensures.still };
  later = search rules;
  more_taken = search rules;
}
