use Rattle.std.proofs.Common.{rules, ◌+◌, ◌≤◌, [], refl}
use Rattle.std.specs.Prelude.{IfOk}
use Rattle.tk_model.specs.Records.{find, replay}
use Rattle.tk_model.specs.declared.record.Order.TheVariants.{Hash}
use Rattle.tk_store.specs.Store.{GivesInto}
use Rattle.tk_hash.specs.Chain.{cost_in}
use Rattle.tk_hash.proofs.HashKeeps.{same_read, told_by, still_at, read_on, stood_on, shelf_same, file_at, length-lent}
use Rattle.tk_hash.proofs.store.HashStoreSeqStore.get_into.Goals as goal

pub get_value_into-requires-clause-file : goal.get_value_into-requires-clause-file
get_value_into-requires-clause-file g c = file_at g.D.Disk.image g.D.Disk.may_leave g.D.Disk.past c.args.self.now c.disk.result.now _ c.requires.whole c.disk.ensures.value c.head.ensures c.deref.ensures.value c.end.ensures

pub returns-clause-value : goal.returns-clause-value
returns-clause-value g c =
    told_by g.D.Disk.image g.D.Disk.may_leave g.D.Disk.past c.args.self.now c.disk.result.now c.head.result.now c.requires.whole c.disk.ensures.value c.head.ensures (λ h gs. replay Hash gs [])
    (λ d m. IfOk c.get_value_into.result (GivesInto (find c.args.key.now m) c.args.into.now c.get_value_into.new.into)) c.get_value_into.ensures.value

pub returns-clause-cost : goal.returns-clause-cost
returns-clause-cost g c =
    told_by g.D.Disk.image g.D.Disk.may_leave g.D.Disk.past c.args.self.now c.disk.result.now c.head.result.now c.requires.whole c.disk.ensures.value c.head.ensures (λ h gs. cost_in h gs c.args.key.now)
    (λ d most. g.D.Disk.taken_count c.get_value_into.new.disk ≤ g.D.Disk.taken_count d + most) c.get_value_into.ensures.cost

pub returns-clause-looks : goal.returns-clause-looks
returns-clause-looks g c = record {
  same_nature = search rules;
  same_shown = search rules;
  keeps = λ first since hard st.
      read_on g.D.Disk.image g.D.Disk.may_leave g.D.Disk.past g.D.Disk.moment g.D.Disk.left_since g.D.Disk.left_with c.args.self.now _ first since hard
      (same_read g.D.Disk.image c.args.self.now _ c.disk.result.now c.disk.ensures.value (λ unclosed. unclosed) refl refl refl refl refl refl refl refl (λ known. known) (length-lent c.args.self.now.buffer c.get_value_into.new.buffer) c.get_value_into.ensures.image)
      (shelf_same g.D.Disk.image c.args.self.now)
      (still_at g.D.Disk.image g.D.Disk.may_leave g.D.Disk.past g.D.Disk.moment g.D.Disk.left_since g.D.Disk.left_with _ _ _ c.disk.ensures.value c.get_value_into.ensures.still) st;
  keeps_since = λ t n first since hard st.
      stood_on g.D.Disk.image g.D.Disk.may_leave g.D.Disk.past g.D.Disk.moment g.D.Disk.left_since g.D.Disk.left_with g.met.D.Disk.since_with c.args.self.now _ t n first since hard
      (same_read g.D.Disk.image c.args.self.now _ c.disk.result.now c.disk.ensures.value (λ unclosed. unclosed) refl refl refl refl refl refl refl refl (λ known. known) (length-lent c.args.self.now.buffer c.get_value_into.new.buffer) c.get_value_into.ensures.image)
      (shelf_same g.D.Disk.image c.args.self.now)
      (still_at g.D.Disk.image g.D.Disk.may_leave g.D.Disk.past g.D.Disk.moment g.D.Disk.left_since g.D.Disk.left_with _ _ _ c.disk.ensures.value c.get_value_into.ensures.still) st;
  writes_nothing = record { same = search rules; still = still_at g.D.Disk.image g.D.Disk.may_leave g.D.Disk.past g.D.Disk.moment g.D.Disk.left_since g.D.Disk.left_with _ _ _ c.disk.ensures.value c.get_value_into.ensures.still };
  later = search rules;
  more_taken = search rules;
}
