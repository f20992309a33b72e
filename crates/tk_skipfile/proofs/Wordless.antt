-- What is written behind the front, or zeros in front, make no word known.
use Rattle.std.proofs.Common.{◌≡◌, ◌⊎◌, inl, inr, ⊎_elim, ℕ, ◌<◌, ◌++◌, List, length, get_or, ap, subst, ◌∙◌, arith}
use Rattle.std.specs.Prelude.{Option, Some, None, IfSome, Result, Ok, Err, OnOk, OnErr, drop, replicate}
use Rattle.std.specs.Io.{StartsWith}
use Rattle.tk_disk.specs.Crash.{Elapses, PastOnly}
use Rattle.tk_disk.specs.Past.{Past, with_write, settled_on, Writes}
use Rattle.tk_model.specs.declared.record.Pair.{Pair}
use Rattle.std.proofs.lemmas.List.{drop_at}
use Rattle.tk_disk.specs.declared.disk.DiskError.{DiskError}
use Rattle.tk_append.proofs.PastSteps.{past_held, past_then, past_weaker}
use Rattle.tk_append.proofs.Nameless.{any_and}
use Rattle.tk_skipfile.specs.SkipText.{skip_word, records_text}
use Rattle.tk_skipfile.specs.HeaderLast.{WritesWord, HasKnownWord, NoNewWord, WritesNoWord, IsSkipMoment}

none_new : (old new : Past) → new ≡ old → NoNewWord old new
none_new old new same known = subst HasKnownWord same known

known_more : (p : Past) (at : ℕ) (bytes : List ℕ) → HasKnownWord (with_write at bytes p) → HasKnownWord p ⊎ WritesWord (record { at = at; bytes = bytes })
known_more p at bytes (inl fixed) = inl (inl fixed)
known_more p at bytes (inr any) = ⊎_elim (λ there. inl (inr there)) (λ last. inr last) (any_and WritesWord p.writes _ any)

none_written : (at : ℕ) (bytes : List ℕ) (old new : Past) → (WritesWord (record { at = at; bytes = bytes }) → ⊥) → Writes at bytes old new → NoNewWord old new
none_written at bytes old new none (inl same) = none_new old new same
none_written at bytes old new none (inr written) = λ known.
    ⊎_elim (λ there. there) (λ here. absurd (none here)) (known_more old at bytes (subst HasKnownWord written known))

pub none_behind : (at : ℕ) (bytes : List ℕ) (old new : Past) → 0 < at → Writes at bytes old new → NoNewWord old new
none_behind at bytes old new behind written = none_written at bytes old new (λ here. omega (arith, behind, here.0)) written

-- zero bytes are no word
zeros_differ : StartsWith (replicate 32 0) skip_word → ⊥
zeros_differ same = let first : 0 ≡ 84 = ap (λ (l : List ℕ). get_or l 0 0) same in omega (arith, first)

pub none_zero : (bytes : List ℕ) (old new : Past) → bytes ≡ replicate 32 0 → Writes 0 bytes old new → NoNewWord old new
none_zero bytes old new zero written = none_written 0 bytes old new (λ here. zeros_differ (subst (λ (l : List ℕ). StartsWith l skip_word) zero here.1)) written

module _ {D : Type 0} (past_of : D → Past) (moment : D → ℕ) (left_with : D → ℕ → Past × List ℕ → Type 0) where
  pub wordless_joined : (old mid new : D) → WritesNoWord past_of moment left_with old mid → WritesNoWord past_of moment left_with mid new → WritesNoWord past_of moment left_with old new
  wordless_joined old mid new first second = record {
    now = λ known. first.now (second.now known);
    each = past_then moment left_with old mid new (NoNewWord (past_of old)) (NoNewWord (past_of mid)) first.each second.each (λ p more known. first.now (more known));
  }

module _ {D : Type 0} (may_leave : D → List ℕ → Type 0) (past_of : D → Past) (moment : D → ℕ) (left_with : D → ℕ → Past × List ℕ → Type 0)
    (only_with : (disk : D) (x : Past × List ℕ) → left_with disk (moment disk) x → (x.0 ≡ past_of disk) × may_leave disk x.1) where
  pub wordless_start : (disk : D) → WritesNoWord past_of moment left_with disk disk
  wordless_start disk = record {
    now = λ known. known;
    each = record { later = omega arith; each = λ x left. none_new (past_of disk) x.0 (only_with disk x left).0; before = λ t x le left. inl left };
  }

  pub wordless_called : (old new : D) → Elapses (moment old) (moment new) (left_with old) (left_with new) (λ x. (x.0 ≡ past_of new) × may_leave new x.1) → NoNewWord (past_of old) (past_of new)
      → WritesNoWord past_of moment left_with old new
  wordless_called old new pasts none = record { now = none; each = past_held may_leave moment past_of left_with only_with old new (NoNewWord (past_of old)) pasts (λ known. known) none }

none_settled : (rest : List ℕ) (now : Past) → now ≡ settled_on (replicate 32 0 ++ rest) → HasKnownWord now → ⊥
none_settled rest now is known = ⊎_elim
    (λ (same : StartsWith (replicate 32 0 ++ rest) skip_word). let first : 0 ≡ 84 = ap (λ (l : List ℕ). get_or l 0 0) same in absurd (omega (arith, first)))
    (λ none. absurd none) (subst HasKnownWord is known)

-- nor does the hard synchronisation of zeros in front
pub synced_none : {T : Type 0} (r : Result T DiskError) (old synced : Option (List ℕ)) (rest : List ℕ) (was now : Past) → IfSome old (λ _. synced ≡ Some (replicate 32 0 ++ rest))
    → IfSome synced (λ f. OnOk r (now ≡ settled_on f)) → OnErr r (now ≡ was) → IfSome old (λ _. NoNewWord was now)
synced_none r None synced rest was now written settled failed = tt
synced_none (Ok u) (Some x) synced rest was now written settled failed = λ known.
    absurd (none_settled rest now (subst (λ (o : Option (List ℕ)). IfSome o (λ f. now ≡ settled_on f)) written settled) known)
synced_none (Err e) (Some x) synced rest was now written settled failed = none_new was now failed

-- ---- the records are durable

abbrev pub IsBehind : List Pair → Past → Type 0
IsBehind pairs p = drop 32 p.fixed ≡ records_text pairs

pub settled_behind : (pairs : List Pair) (front : List ℕ) (image : Option (List ℕ)) (p : Past) → length front ≡ 32 → image ≡ Some (front ++ records_text pairs) → IfSome image (λ f. p ≡ settled_on f) → IsBehind pairs p
settled_behind pairs front image p long is settled =
    ap (λ (q : Past). drop 32 q.fixed) (subst (λ (o : Option (List ℕ)). IfSome o (λ f. p ≡ settled_on f)) is settled) ∙ drop_at front (records_text pairs) 32 long

pub written_behind : (pairs : List Pair) (at : ℕ) (bytes : List ℕ) (old new : Past) → IsBehind pairs old → Writes at bytes old new → IsBehind pairs new
written_behind pairs at bytes old new behind (inl same) = ap (λ (q : Past). drop 32 q.fixed) same ∙ behind
written_behind pairs at bytes old new behind (inr written) = ap (λ (q : Past). drop 32 q.fixed) written ∙ behind

pub synced_behind : {T : Type 0} (r : Result T DiskError) (pairs : List Pair) (front : List ℕ) (image : Option (List ℕ)) (old new : Past) → length front ≡ 32 → image ≡ Some (front ++ records_text pairs)
    → IfSome image (λ f. OnOk r (new ≡ settled_on f)) → OnErr r (new ≡ old) → IsBehind pairs old → IsBehind pairs new
synced_behind (Ok u) pairs front image old new long is settled failed behind = settled_behind pairs front image new long is settled
synced_behind (Err e) pairs front image old new long is settled failed behind = ap (λ (q : Past). drop 32 q.fixed) failed ∙ behind

module _ {D : Type 0} (may_leave : D → List ℕ → Type 0) (past_of : D → Past) (moment : D → ℕ) (left_with : D → ℕ → Past × List ℕ → Type 0)
    (only_with : (disk : D) (x : Past × List ℕ) → left_with disk (moment disk) x → (x.0 ≡ past_of disk) × may_leave disk x.1) where
  -- before the header
  pub records_moments : (pairs : List Pair) (start disk : D) → WritesNoWord past_of moment left_with start disk → PastOnly moment left_with start disk (IsSkipMoment pairs (past_of start))
  records_moments pairs start disk none =
      past_weaker moment left_with start disk (IsSkipMoment pairs (past_of start)) (NoNewWord (past_of start)) none.each (λ p more known. inl (more known))

  -- a call behind the records' synchronisation
  pub header_moments : (pairs : List Pair) (before : Past) (old new : D) → Elapses (moment old) (moment new) (left_with old) (left_with new) (λ x. (x.0 ≡ past_of new) × may_leave new x.1)
      → IsBehind pairs (past_of old) → IsBehind pairs (past_of new) → PastOnly moment left_with old new (IsSkipMoment pairs before)
  header_moments pairs before old new pasts was now =
      past_held may_leave moment past_of left_with only_with old new (IsSkipMoment pairs before) pasts (λ known. inr was) (λ known. inr now)
