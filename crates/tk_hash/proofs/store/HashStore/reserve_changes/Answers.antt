use Rattle.std.proofs.Common.{◌≡◌, ℕ, List, ◌++◌, ◌^◌, [], length, refl, sym, ◌∙◌, ap, subst, arith}
use Rattle.tk_block.specs.declared.head.StaticHead.{StaticHead}
use Rattle.tk_block.specs.Blocks.{group_bodies}
use Rattle.tk_block.specs.Layout.{laid, links_of}
use Rattle.tk_model.specs.Records.{after, replay}
use Rattle.tk_model.specs.declared.record.Order.TheVariants.{Hash}
use Rattle.tk_append.specs.Chains.{HeadsAre}
use Rattle.tk_append.specs.Log.{blocks_of}
use Rattle.std.specs.Prelude.{IfSome}
use Rattle.tk_append.specs.FileText.{IsFile}
use Rattle.tk_append.specs.LogParts.{log_disk, log_head, log_end}
use Rattle.tk_hash.specs.Plan.{with_heads, FitHeads}
use Rattle.tk_hash.proofs.Extents.{ends_sum}
use Rattle.tk_hash.proofs.HashKeeps.{same_read, shelf_same, still_at, still_on, read_on, stood_on, file_at, key_at, length-lent}
use Rattle.tk_hash.proofs.HashGrows.{planned}
use Rattle.tk_hash.proofs.store.HashStore.reserve_changes.Goals as goal

pub plan_changes-requires-clause-end : goal.plan_changes-requires-clause-end
plan_changes-requires-clause-end g c = rw c.end.ensures (omega (arith, ends_sum 0 (log_end c.args.self.now.log) c.args.changes.now, c.requires.end))

pub plan_changes-requires-clause-file : goal.plan_changes-requires-clause-file
plan_changes-requires-clause-file g c = file_at g.D.Disk.image g.D.Disk.may_leave g.D.Disk.past c.args.self.now c.disk.result.now _ c.requires.whole c.disk.ensures.value c.head.ensures c.deref.ensures.value c.end.ensures

pub plan_changes-requires-clause-found : goal.plan_changes-requires-clause-found
plan_changes-requires-clause-found g c = key_at g.D.Disk.image g.D.Disk.may_leave g.D.Disk.past c.args.self.now c.disk.result.now c.head.result.now c.requires.whole c.disk.ensures.value c.head.ensures

pub reserve_text-requires-clause-end : goal.reserve_text-requires-clause-end
reserve_text-requires-clause-end g c = omega (arith, ends_sum 0 (log_end c.args.self.now.log) c.args.changes.now, c.requires.end)

pub returns-in_err-plan-clause-stands : goal.returns-in_err-plan-clause-stands
returns-in_err-plan-clause-stands g c first since hard st =
    read_on g.D.Disk.image g.D.Disk.may_leave g.D.Disk.past g.D.Disk.moment g.D.Disk.left_since g.D.Disk.left_with c.args.self.now _ first since hard
    (same_read g.D.Disk.image c.args.self.now _ c.disk.result.now c.disk.ensures.value (λ unclosed. unclosed) refl refl refl refl refl refl refl refl (λ known. known) (length-lent c.args.self.now.buffer c.plan_changes.new.buffer) c.plan_changes.ensures.image)
    (shelf_same g.D.Disk.image c.args.self.now)
    (still_at g.D.Disk.image g.D.Disk.may_leave g.D.Disk.past g.D.Disk.moment g.D.Disk.left_since g.D.Disk.left_with _ _ _ c.disk.ensures.value c.plan_changes.ensures.still) st

pub returns-in_err-plan-clause-since : goal.returns-in_err-plan-clause-since
returns-in_err-plan-clause-since g c t n first since hard st =
    stood_on g.D.Disk.image g.D.Disk.may_leave g.D.Disk.past g.D.Disk.moment g.D.Disk.left_since g.D.Disk.left_with g.met.D.Disk.since_with c.args.self.now _ t n first since hard
    (same_read g.D.Disk.image c.args.self.now _ c.disk.result.now c.disk.ensures.value (λ unclosed. unclosed) refl refl refl refl refl refl refl refl (λ known. known) (length-lent c.args.self.now.buffer c.plan_changes.new.buffer) c.plan_changes.ensures.image)
    (shelf_same g.D.Disk.image c.args.self.now)
    (still_at g.D.Disk.image g.D.Disk.may_leave g.D.Disk.past g.D.Disk.moment g.D.Disk.left_since g.D.Disk.left_with _ _ _ c.disk.ensures.value c.plan_changes.ensures.still) st

pub returns-in_err-reserve_text-clause-stands : goal.returns-in_err-reserve_text-clause-stands
returns-in_err-reserve_text-clause-stands g c first since hard st =
    read_on g.D.Disk.image g.D.Disk.may_leave g.D.Disk.past g.D.Disk.moment g.D.Disk.left_since g.D.Disk.left_with c.args.self.now _ first since hard
    (same_read g.D.Disk.image c.args.self.now _ c.disk.result.now c.disk.ensures.value (λ unclosed. unclosed) c.reserve_text.ensures.head c.reserve_text.ensures.end refl refl refl refl refl refl (λ known. known) (length-lent c.args.self.now.buffer c.plan_changes.new.buffer) (ap g.D.Disk.image c.reserve_text.ensures.disk ∙ c.plan_changes.ensures.image))
    (shelf_same g.D.Disk.image c.args.self.now) (still_on g.D.Disk.image g.D.Disk.may_leave g.D.Disk.past g.D.Disk.moment g.D.Disk.left_since g.D.Disk.left_with _ _ _ _ c.disk.ensures.value c.reserve_text.ensures.disk c.plan_changes.ensures.still) st

pub returns-in_err-reserve_text-clause-since : goal.returns-in_err-reserve_text-clause-since
returns-in_err-reserve_text-clause-since g c t n first since hard st =
    stood_on g.D.Disk.image g.D.Disk.may_leave g.D.Disk.past g.D.Disk.moment g.D.Disk.left_since g.D.Disk.left_with g.met.D.Disk.since_with c.args.self.now _ t n first since hard
    (same_read g.D.Disk.image c.args.self.now _ c.disk.result.now c.disk.ensures.value (λ unclosed. unclosed) c.reserve_text.ensures.head c.reserve_text.ensures.end refl refl refl refl refl refl (λ known. known) (length-lent c.args.self.now.buffer c.plan_changes.new.buffer) (ap g.D.Disk.image c.reserve_text.ensures.disk ∙ c.plan_changes.ensures.image))
    (shelf_same g.D.Disk.image c.args.self.now) (still_on g.D.Disk.image g.D.Disk.may_leave g.D.Disk.past g.D.Disk.moment g.D.Disk.left_since g.D.Disk.left_with _ _ _ _ c.disk.ensures.value c.reserve_text.ensures.disk c.plan_changes.ensures.still) st

pub returns-clause-reserved_group : goal.returns-clause-reserved_group
returns-clause-reserved_group g c =
    let links = c.in_ok-plan.plan.links in
    let heads = c.in_ok-plan.plan.heads in
    let count = c.in_ok-plan.plan.count in
    let changes = c.args.changes.now in
    let log = c.reserve_text.new.self in
    let was = c.args.self.now.count in
    let bytes : g.D.Disk.image (log_disk log) ≡ g.D.Disk.image c.disk.result.now = ap g.D.Disk.image c.reserve_text.ensures.disk ∙ c.plan_changes.ensures.image in
    let head : log_head log ≡ c.head.result.now = c.reserve_text.ensures.head ∙ sym c.head.ensures in
    let end : log_end log ≡ c.end.result = c.reserve_text.ensures.end ∙ sym c.end.ensures in
    record {
      some = c.requires.some;
      heads = subst (λ (h : StaticHead). FitHeads (2 ^ h.p) heads) (sym head) c.in_ok-plan.ensures.fit;
      links = links;
      ready = c.in_ok-reserve_text.ensures.reserved_text;
      ends = λ number. rw c.reserve_text.ensures.end (omega (arith, ends_sum number (log_end c.args.self.now.log) changes, c.requires.end));
      links_are = λ number groups. planned (λ h e. links ≡ links_of h.p (blocks_of h groups) (laid e (group_bodies number changes))) groups _ _ _ _ _ _ bytes head end (c.in_ok-plan.ensures.links number groups);
      heads_are = λ number groups. planned (λ h e. HeadsAre h.p (with_heads heads c.args.self.now.heads.items) (blocks_of h groups ++ laid e (group_bodies number changes))) groups _ _ _ _ _ _ bytes head end
          (subst (λ (l : List ℕ). IfSome (g.D.Disk.image c.disk.result.now) (λ f. IsFile c.head.result.now f groups → HeadsAre c.head.result.now.p (with_heads heads l) (blocks_of c.head.result.now groups ++ laid c.end.result (group_bodies number changes)))) c.deref.ensures.value
          (c.in_ok-plan.ensures.heads number groups));
      count_is = λ groups. planned (λ h e. was ≡ length (replay Hash groups []) → count ≡ length (after Hash changes (replay Hash groups []))) groups _ _ _ _ _ _ bytes head end (c.in_ok-plan.ensures.count groups);
    }

pub returns-clause-stands : goal.returns-clause-stands
returns-clause-stands g c first since hard st =
    read_on g.D.Disk.image g.D.Disk.may_leave g.D.Disk.past g.D.Disk.moment g.D.Disk.left_since g.D.Disk.left_with c.args.self.now _ first since hard
    (same_read g.D.Disk.image c.args.self.now _ c.disk.result.now c.disk.ensures.value (λ unclosed. unclosed) c.reserve_text.ensures.head c.reserve_text.ensures.end refl refl refl refl refl refl (λ known. known) (length-lent c.args.self.now.buffer c.plan_changes.new.buffer) (ap g.D.Disk.image c.reserve_text.ensures.disk ∙ c.plan_changes.ensures.image))
    (shelf_same g.D.Disk.image c.args.self.now) (still_on g.D.Disk.image g.D.Disk.may_leave g.D.Disk.past g.D.Disk.moment g.D.Disk.left_since g.D.Disk.left_with _ _ _ _ c.disk.ensures.value c.reserve_text.ensures.disk c.plan_changes.ensures.still) st

pub returns-clause-since : goal.returns-clause-since
returns-clause-since g c t n first since hard st =
    stood_on g.D.Disk.image g.D.Disk.may_leave g.D.Disk.past g.D.Disk.moment g.D.Disk.left_since g.D.Disk.left_with g.met.D.Disk.since_with c.args.self.now _ t n first since hard
    (same_read g.D.Disk.image c.args.self.now _ c.disk.result.now c.disk.ensures.value (λ unclosed. unclosed) c.reserve_text.ensures.head c.reserve_text.ensures.end refl refl refl refl refl refl (λ known. known) (length-lent c.args.self.now.buffer c.plan_changes.new.buffer) (ap g.D.Disk.image c.reserve_text.ensures.disk ∙ c.plan_changes.ensures.image))
    (shelf_same g.D.Disk.image c.args.self.now) (still_on g.D.Disk.image g.D.Disk.may_leave g.D.Disk.past g.D.Disk.moment g.D.Disk.left_since g.D.Disk.left_with _ _ _ _ c.disk.ensures.value c.reserve_text.ensures.disk c.plan_changes.ensures.still) st
