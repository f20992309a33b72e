-- The two halves of a restoring, and the whole.
use Rattle.std.proofs.Common.{◌≡◌, ℕ, List, [], inl, inr, refl, sym, ◌∙◌, ap, subst, arith}
use Rattle.std.specs.Prelude.{length, Option, Some, None, IfSome, IfErr, IsSomeAnd, Result, Ok, Err}
use Rattle.std.specs.Io.{StartsWith}
use Rattle.tk_disk.specs.Past.{Past}
use Rattle.tk_disk.specs.Crash.{LeavesOnly}
use Rattle.tk_model.specs.declared.record.Order.TheVariants.{Hash}
use Rattle.tk_model.specs.declared.record.Pair.{Pair}
use Rattle.tk_model.specs.declared.error.OpenError.{OpenError}
use Rattle.tk_model.specs.declared.error.OpenError.TheVariants as errors
use Rattle.tk_model.specs.Records.{replay}
use Rattle.tk_block.specs.Text.{static_at}
use Rattle.tk_block.specs.declared.head.StaticHead.{StaticHead}
use Rattle.tk_append.specs.Fresh.{IsFreshMoment, fresh_groups, fresh_text}
use Rattle.tk_append.specs.Read.{IsOutside, TellsResult}
use Rattle.tk_append.specs.Restored.{groups_in}
use Rattle.tk_append.specs.Untorn.{IsKnownHeader}
use Rattle.tk_restore.specs.declared.restore.Restoration.{Restoration}
use Rattle.tk_restore.specs.Reading.{IsReadFrom}
use Rattle.tk_restore.specs.Restoration.{IsAppending, IsRestoredFrom, IsRestoringMoment, OnRefusal, restored_head, restored_file}
use Rattle.tk_restore.proofs.Fresh.{records_are, file_same}

-- what was read is of the image
pub read_is : (image : Option (List ℕ)) (found : Option StaticHead) (h : StaticHead) (pairs : List Pair) → found ≡ Some h → IfSome image (λ f. found ≡ static_at f) → IfSome image IsAppending → IfSome image (λ f. pairs ≡ replay Hash (groups_in h f) [])
    → IfSome image (λ f. IsReadFrom f (record { head = restored_head h; pairs = pairs }))
read_is None found h pairs some is appending records = tt
read_is (Some f) found h pairs some is appending records = record { was = h; header = sym is ∙ some; head_is = refl; appending = appending; records = records ∙ records_are h f (sym is ∙ some) }

text_from : (image : List ℕ) (r : Restoration) → (read : IsReadFrom image r) → fresh_text r.head 0 r.pairs ≡ restored_file read.was image
text_from image r read = ap (λ (h : StaticHead). fresh_text h 0 r.pairs) read.head_is ∙ file_same read.was image r.pairs read.header read.appending read.records

-- what was written is restored from it
pub written_from : (image : List ℕ) (old new : Option (List ℕ)) (r : Restoration) (count : ℕ) → IsReadFrom image r → IfSome old (λ _. new ≡ Some (fresh_text r.head 0 r.pairs)) → count ≡ length r.pairs
    → IfSome old (λ _. IsSomeAnd new (λ file. IsRestoredFrom image file count))
written_from image None new r count read written counted = tt
written_from image (Some e) new r count read written counted =
    subst (λ (o : Option (List ℕ)). IsSomeAnd o (λ f. IsRestoredFrom image f count)) (sym written)
    (record { head = read.was; was = read.header; is = text_from image r read; counted = counted ∙ ap (λ (l : List Pair). length l) read.records })

-- and so at each moment
moment_from : (image : List ℕ) (r : Restoration) (before : Past) → IsReadFrom image r → (x : Past × List ℕ) → IsFreshMoment r.head (fresh_groups r.head.kind 0 r.pairs) (fresh_text r.head 0 r.pairs) before x → IsRestoringMoment image before x
moment_from image r before read x fresh k there known = elim (fresh k there known) [
  | inl old ↦ inl old
  | inr whole ↦ inr (record { head = read.was; was = read.header; starts = subst (StartsWith x.1) (text_from image r read) whole.0 })
]

pub moments_from : {D : Type 0} (moment : D → ℕ) (left_with : D → ℕ → Past × List ℕ → Type 0) (old new : D) (before : Past) (image : List ℕ) (r : Restoration) (o : Option (List ℕ)) → IsReadFrom image r
    → IfSome o (λ _. LeavesOnly moment left_with old new (IsFreshMoment r.head (fresh_groups r.head.kind 0 r.pairs) (fresh_text r.head 0 r.pairs) before)) → IfSome o (λ _. LeavesOnly moment left_with old new (IsRestoringMoment image before))
moments_from moment left_with old new before image r None read only = tt
moments_from moment left_with old new before image r (Some f) read only = record {
  later = only.later;
  each = λ x l. moment_from image r before read x (only.each x l);
  before = λ t x le l. elim (only.before t x le l) [ inl was ↦ inl was | inr fresh ↦ inr (moment_from image r before read x fresh) ];
}

-- a disk that no call wrote to
pub unwritten : {D : Type 0} (past : D → Past) (moment : D → ℕ) (may_leave : D → List ℕ → Type 0) (left_with : D → ℕ → Past × List ℕ → Type 0)
    → ((disk : D) (x : Past × List ℕ) → left_with disk (moment disk) x → (x.0 ≡ past disk) × may_leave disk x.1)
    → (d : D) (from to : Option (List ℕ)) → IfSome from (λ image. IfSome to (λ _. LeavesOnly moment left_with d d (IsRestoringMoment image (past d))))
unwritten past moment may_leave left_with only d None to = tt
unwritten past moment may_leave left_with only d (Some image) None = tt
unwritten past moment may_leave left_with only d (Some image) (Some f) = record {
  later = omega arith;
  each = λ x l k there known. inl (subst (λ (p : Past). IsKnownHeader p k) (only d x l).0 known);
  before = λ t x le l. inl l;
}

-- a fault or want of memory says nothing of the image
pub outside_tells : (result : Result ℕ OpenError) (fault : Option OpenError) → fault ≡ None → IfErr result IsOutside → TellsResult result fault
outside_tells (Ok n) fault none outside = none
outside_tells (Err errors.NotADatabase) fault none outside = absurd outside
outside_tells (Err (errors.BrokenAt place)) fault none outside = absurd outside
outside_tells (Err errors.Fault) fault none outside = tt
outside_tells (Err errors.NoMemory) fault none outside = tt

pub outside_unrefused : (result : Result ℕ OpenError) (P : Type 0) → IfErr result IsOutside → IfErr result (λ e. OnRefusal e P)
outside_unrefused (Ok n) P outside = tt
outside_unrefused (Err errors.NotADatabase) P outside = absurd outside
outside_unrefused (Err (errors.BrokenAt place)) P outside = absurd outside
outside_unrefused (Err errors.Fault) P outside = tt
outside_unrefused (Err errors.NoMemory) P outside = tt

-- a refusal before anything was written
pub refused_before : (e : OpenError) (P : Type 0) → P → OnRefusal e (Unit {0}) → OnRefusal e P
refused_before errors.NotADatabase P p refused = p
refused_before (errors.BrokenAt place) P p refused = (refused.0, p)
refused_before errors.Fault P p refused = tt
refused_before errors.NoMemory P p refused = tt
