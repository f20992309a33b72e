-- What is left of a file that is made.
use Rattle.std.proofs.Common.{◌≡◌, ◌≢◌, ◌⊎◌, ⊎_elim, ℕ, ◌+◌, ◌≤◌, ◌<◌, ◌^◌, Bool, true, List, [], ◌∷◌, length, replicate, refl, sym, ◌∙◌, ap, subst, inl, inr, arith}
use Rattle.std.specs.Prelude.{Option, Some, None, IfSome, slice_index, map}
use Rattle.std.specs.Io.{StartsWith}
use Rattle.std.proofs.lemmas.Bool.{cases_lt}
use Rattle.std.proofs.lemmas.List.{append-nil, drop_all, length-append, length-map, length-replicate}
use Rattle.tk_model.specs.Records.{replay}
use Rattle.tk_model.specs.declared.record.Order.TheVariants.{Hash}
use Rattle.tk_model.specs.declared.record.Change.TheVariants.{Put}
use Rattle.tk_model.specs.declared.record.Group.{Group}
use Rattle.tk_model.specs.declared.record.Pair.{Pair}
use Rattle.tk_model.specs.declared.record.ShardOf.{ShardOf}
use Rattle.tk_model.specs.declared.error.OpenError.{OpenError}
use Rattle.tk_disk.specs.Past.{Past, settled_on}
use Rattle.tk_disk.specs.Crash.{Elapses, LeavesOnly, PastOnly}
use Rattle.tk_disk.specs.Folder.{SameHistory, or_empty}
use Rattle.tk_block.specs.declared.block.Body.{Body}
use Rattle.tk_block.specs.declared.head.StaticHead.{StaticHead}
use Rattle.tk_block.specs.Blocks.{body_of, extent_of, group_bodies}
use Rattle.tk_block.specs.Layout.{bodies_of, end_of, file_text}
use Rattle.tk_block.specs.Text.{base_of, closing_front, closing_text, static_at, static_text}
use Rattle.tk_block.proofs.Grammar.{statics, length-static_text}
use Rattle.tk_block.proofs.Layouts.{length-group_bodies}
use Rattle.tk_append.specs.Fresh.{IsFreshMoment, fresh_groups, fresh_next, fresh_text, together}
use Rattle.tk_append.specs.FairPast.{IsFairPast}
use Rattle.tk_append.specs.Opening.{first_fault}
use Rattle.tk_append.specs.LogParts.{open_mark, with_closing}
use Rattle.tk_append.specs.LogPasts.{Marks}
use Rattle.tk_append.specs.Untorn.{IsKnownHeader, NoNewHeader}
use Rattle.tk_append.proofs.Checked.{short_file, no_static}
use Rattle.tk_append.proofs.FreshEnds.{fresh_accepted}
use Rattle.tk_append.proofs.FreshPasts.{none_settled}
use Rattle.tk_append.proofs.Nameless.{none_behind}
use Rattle.tk_append.proofs.Reopened.{count_upto}
use Rattle.tk_restore.specs.Restoration.{IsRestoringMoment, BeginsRestored, restored_head, restored_records, restored_size}
use Rattle.tk_restore.proofs.Fresh.{together_leaves, records_rising}
use Rattle.tk_util.specs.declared.words.FileCommand.{FileCommand}
use Rattle.tk_util.specs.declared.words.FileCommand.TheVariants as asked
use Rattle.tk_util.specs.Asked.{file_said}
use Rattle.tk_util.specs.Calls.{alone}
use Rattle.tk_util.specs.Making.{KnowsNoHeader, OpensWhole, IsSettingMoment, IsRestoredMoment, IsUnmadeMoment, IsMakingMoment, AtEachMoment, Makes}
use Rattle.tk_util.specs.Ran.{new_head, set_groups, set_text, IsRestored, restore_fault}
use Rattle.tk_util.specs.Words.{Command, Get, Set, Remove, Restore}
use Rattle.tk_util.proofs.Restoring.{no_fault, short_enough}

-- ---- what an opening accepts

fails : (o : Option OpenError) (e : OpenError) → o ≡ Some e → o ≡ None → ⊥
fails o e some none = cc

-- a file that an opening accepts has a header
module _ (kinds : List ℕ) (writable : Bool) (shard : ShardOf) (f : List ℕ) (none : first_fault kinds writable shard f ≡ None) where
  header_of : (o : Option StaticHead) → 64 ≤ length f → static_at f ≡ o → (k : StaticHead) × (static_at f ≡ Some k)
  header_of None long is = absurd (fails _ _ (no_static kinds writable shard f long is) none)
  header_of (Some k) long is = (k, is)

  accepted_header : (k : StaticHead) × (static_at f ≡ Some k)
  accepted_header = elim (cases_lt (length f) 64) [
    | inl short ↦ absurd (fails _ _ (short_file kinds writable shard f short) none)
    | inr long ↦ header_of (static_at f) long refl
  ]

-- where no header became known but that of a whole file, an opening accepts only this
opens_whole : (IsFile : List ℕ → Type 0) (before : Past) (x : Past × List ℕ)
    → ((k : StaticHead) → static_at x.1 ≡ Some k → IsKnownHeader x.0 k → IsKnownHeader before k ⊎ ((kinds : List ℕ) (writable : Bool) (shard : ShardOf) → first_fault kinds writable shard x.1 ≡ None → IsFile x.1))
    → OpensWhole IsFile before x
opens_whole IsFile before x moment none known kinds writable shard accepts =
    let h = accepted_header kinds writable shard x.1 accepts in
    ⊎_elim (λ was. absurd (none h.0 was)) (λ whole. whole kinds writable shard accepts) (moment h.0 h.1 (known h.0 h.1))

none_known : KnowsNoHeader (settled_on [])
none_known k known = none_settled [] (settled_on []) k refl refl known

-- a past in which nothing but a header was written
abbrev header_past : (p : ℕ) (k : StaticHead) → Past
header_past p k = record { fixed = replicate {A = ℕ} (base_of p) 0; least = base_of p; writes = record { at = 0; bytes = static_text k } ∷ [] }

header_fair : (h k : StaticHead) (groups : List Group) → IsFairPast h groups (header_past h.p k)
header_fair h k groups = record {
  count = 0;
  stood = record { size = length-replicate {A = ℕ} (base_of h.p) 0; blocks = drop_all (base_of h.p) (replicate {A = ℕ} (base_of h.p) 0) (omega (arith, length-replicate {A = ℕ} (base_of h.p) 0)) };
  writes = (inl (omega (arith, length-static_text k)), tt);
}

header_known : (p : ℕ) (k : StaticHead) (f : List ℕ) → static_at f ≡ Some k → IsKnownHeader (header_past p k) k
header_known p k f there = inr (inl (refl, ap static_at (sym (append-nil (static_text k))) ∙ statics.again k [] (statics.found f k there).0))

same_header : (k j : StaticHead) → Some k ≡ Some j → k ≡ j
same_header k j is = cc

-- what begins with the file of groups, and is accepted, is this file
front_whole : (h : StaticHead) (groups : List Group) (count next : ℕ) (f : List ℕ) → end_of (base_of h.p) (bodies_of groups) < 2 ^ 64 → count < 2 ^ 64 → next < 2 ^ 64
    → (k : StaticHead) → static_at f ≡ Some k → StartsWith f (file_text h groups count next) → (kinds : List ℕ) (writable : Bool) (shard : ShardOf) → first_fault kinds writable shard f ≡ None → f ≡ file_text h groups count next
front_whole h groups count next f size small low k there starts kinds writable shard accepts =
    fresh_accepted kinds writable shard h groups count next (settled_on []) (header_past h.p k) f size small low (λ j _ _. inr (starts, header_fair h k groups)) none_known
    (λ j is. subst (λ (s : StaticHead). IsKnownHeader (header_past h.p k) s) (same_header k j (sym there ∙ is)) (header_known h.p k f there)) accepts

-- ---- the file of one record

extent_small : (b : Body) → length b.key < 2 ^ 16 → length b.value ≤ 16777215 → extent_of b ≤ 2 ^ 26
extent_small b k v = omega (arith, k, v)

set_small : (key value : List ℕ) → length key < 2 ^ 16 → length value ≤ 16777215 → end_of (base_of 10) (bodies_of (set_groups key value)) < 2 ^ 64
set_small key value k v =
    let b : Body = body_of 0 (Put (record { key = key; value = value })) true in
    let small : base_of 10 + extent_of b < 2 ^ 64 = omega (arith, extent_small b k v) in
    small

module _ (key value : List ℕ) (k : length key < 2 ^ 16) (v : length value ≤ 16777215) where
  setting : (before : Past) (x : Past × List ℕ) → IsFreshMoment new_head (set_groups key value) (set_text key value) before x → IsSettingMoment key value before x
  setting before x moment =
      (moment, λ none known kinds writable shard accepts. fresh_accepted kinds writable shard new_head (set_groups key value) 1 1 before x.0 x.1 (set_small key value k v) (omega arith) (omega arith) moment none known accepts)

-- where nothing was written
setting_as_before : (key value : List ℕ) (before : Past) (x : Past × List ℕ) → x.0 ≡ before → IsSettingMoment key value before x
setting_as_before key value before x is =
    let was : (h : StaticHead) → IsKnownHeader x.0 h → IsKnownHeader before h = λ h known. subst (λ (p : Past). IsKnownHeader p h) is known in
    (λ h _ known. inl (was h known), opens_whole (λ f. f ≡ set_text key value) before x (λ h _ known. inl (was h known)))

-- ---- the file to which an image is restored

few_records : (ps : List Pair) (base : ℕ) → base + length ps ≤ end_of base (bodies_of (together 0 ps))
few_records [] base = omega arith
few_records (p ∷ ps) base =
    let bodies = bodies_of (together 0 (p ∷ ps)) in
    omega (arith, count_upto base bodies, length-append (group_bodies 0 (map Put (p ∷ ps))) [], length-group_bodies 0 (map Put (p ∷ ps)), length-map (p ∷ ps) Put)

next_small : (ps : List Pair) → fresh_next 0 ps ≤ 1
next_small [] = omega arith
next_small (p ∷ ps) = omega arith

module _ (image : List ℕ) (sound : restore_fault image ≡ None) where
  restored_whole : (x : List ℕ) (k : StaticHead) → static_at x ≡ Some k → BeginsRestored image x → (kinds : List ℕ) (writable : Bool) (shard : ShardOf) → first_fault kinds writable shard x ≡ None → IsRestored image (Some x)
  restored_whole x k there b kinds writable shard accepts =
      let all = restored_records image in
      let size : restored_size b.head image ≤ 2 ^ 40 = short_enough (restored_size b.head image) (no_fault image b.head b.was sound).1 in
      let count : length (replay Hash (together 0 all) []) ≡ length all = ap (λ (l : List Pair). length l) (together_leaves all (records_rising image)) in
      record {
        head = b.head;
        was = b.was;
        is = ap (λ (f : List ℕ). Some f)
            (front_whole (restored_head b.head) (together 0 all) (length (replay Hash (together 0 all) [])) (fresh_next 0 all) x (omega (arith, size)) (omega (arith, size, count, few_records all (base_of b.head.p))) (omega (arith, next_small all))
            k there b.starts kinds writable shard accepts);
      }

  restored_moment : (before : Past) (x : Past × List ℕ) → IsRestoringMoment image before x → IsRestoredMoment image before x
  restored_moment before x moment =
      (moment, opens_whole (λ f. IsRestored image (Some f)) before x (λ k there known. ⊎_elim (λ was. inl was) (λ b. inr (restored_whole x.1 k there b)) (moment k there known)))

restoring_as_before : (image : List ℕ) (before : Past) (x : Past × List ℕ) → x.0 ≡ before → IsRestoringMoment image before x
restoring_as_before image before x is = λ h _ known. inl (subst (λ (p : Past). IsKnownHeader p h) is known)

restored_as_before : (image : List ℕ) (before : Past) (x : Past × List ℕ) → x.0 ≡ before → IsRestoredMoment image before x
restored_as_before image before x is =
    let was : (h : StaticHead) → IsKnownHeader x.0 h → IsKnownHeader before h = λ h known. subst (λ (p : Past). IsKnownHeader p h) is known in
    (λ h _ known. inl (was h known), opens_whole (λ f. IsRestored image (Some f)) before x (λ h _ known. inl (was h known)))

-- ---- a file that is not made

unmade : (before : Past) (x : Past × List ℕ) → NoNewHeader before x.0 → IsUnmadeMoment before x
unmade before x none = opens_whole (λ f. ⊥) before x (λ k _ known. inl (none k known))

unmade_as_before : (before : Past) (x : Past × List ℕ) → x.0 ≡ before → IsUnmadeMoment before x
unmade_as_before before x is = unmade before x (λ k known. subst (λ (p : Past). IsKnownHeader p k) is known)

mark_begins : slice_index (with_closing open_mark []) 0 ≡ 0
unfolding closing_text closing_front
mark_begins = refl

-- the mark of an empty file is no header
marked_empty : (old new : Past) → Marks open_mark (Some []) old new → NoNewHeader old new
marked_empty old new (inl writes) = none_behind 32 (closing_text open_mark) old new (omega arith) writes
marked_empty old new (inr is) = λ k known. absurd (none_settled (with_closing open_mark []) new k mark_begins is known)

-- an empty file is not opened
pub empty_refused : (o : Option (List ℕ)) (writable : Bool) (P : Type 0) → IfSome o (λ f. first_fault (1 ∷ []) writable alone f ≡ None) → IfSome o (λ f. f ≡ [] → P)
empty_refused None writable P none = tt
empty_refused (Some f) writable P none = λ empty. absurd (fails _ _ (short_file (1 ∷ []) writable alone f (omega (arith, ap (λ (l : List ℕ). length l) empty))) none)

pub unopened_unmade : {D : Type 0} (past : D → Past) (moment : D → ℕ) (left_with : D → ℕ → Past × List ℕ → Type 0) (o : Option (List ℕ)) (old new : D) → PastOnly moment left_with old new (Marks open_mark o (past old))
    → IfSome o (λ f. f ≡ [] → AtEachMoment (IsUnmadeMoment (past old)) (moment old) (moment new) (left_with new))
unopened_unmade past moment left_with None old new only = tt
unopened_unmade past moment left_with (Some f) old new only = λ empty. record {
  later = only.later;
  each = λ x l. unmade (past old) x (marked_empty (past old) x.0 (subst (λ (b : List ℕ). Marks open_mark (Some b) (past old) x.0) empty (only.each x l)));
}

-- ---- through the calls of a disk

-- a file that has bytes
pub never_made : (o : Option (List ℕ)) (P : Type 0) → IfSome o (λ f. f ≢ []) → IfSome o (λ f. f ≡ [] → P)
never_made None P bytes = tt
never_made (Some f) P bytes = λ empty. absurd (bytes empty)

module _ {D : Type 0} (may_leave : D → List ℕ → Type 0) (past : D → Past) (moment : D → ℕ) (left_with : D → ℕ → Past × List ℕ → Type 0) (only_with : (disk : D) (x : Past × List ℕ) → left_with disk (moment disk) x → (x.0 ≡ past disk) × may_leave disk x.1) where
  abbrev Passes : (old new : D) → Type 0
  Passes old new = Elapses (moment old) (moment new) (left_with old) (left_with new) (λ x. (x.0 ≡ past new) × may_leave new x.1)

  abbrev Each : (P : Past × List ℕ → Type 0) (old new : D) → Type 0
  Each P old new = AtEachMoment P (moment old) (moment new) (left_with new)

  past_stays : (old new : D) → past new ≡ past old → Passes old new → (x : Past × List ℕ) → left_with new (moment old) x → x.0 ≡ past old
  past_stays old new same time x l = ⊎_elim (λ was. (only_with old x was).0) (λ now. now.0 ∙ same) (time.nothing_else (moment old) x (omega arith) l)

  -- a reading
  read : (P : Past × List ℕ → Type 0) (old new : D) → past new ≡ past old → Passes old new → ((x : Past × List ℕ) → x.0 ≡ past old → P x) → Each P old new
  read P old new same time still = record { later = time.later; each = λ x l. still x (past_stays old new same time x l) }

  -- a writing behind it
  written : (P Q : Past × List ℕ → Type 0) (old mid new : D) → past mid ≡ past old → Passes old mid → ((x : Past × List ℕ) → x.0 ≡ past old → P x) → LeavesOnly moment left_with mid new Q → ((x : Past × List ℕ) → Q x → P x) → Each P old new
  written P Q old mid new same time still only more = record {
    later = omega (arith, time.later, only.later);
    each = λ x l. ⊎_elim (λ was. still x (past_stays old mid same time x was)) (λ q. more x q) (only.before (moment old) x time.later l);
  }

  pub set_read : (key value : List ℕ) (o : Option (List ℕ)) (old new : D) → past new ≡ past old → Passes old new → IfSome o (λ f. f ≡ [] → Each (IsSettingMoment key value (past old)) old new)
  set_read key value None old new same time = tt
  set_read key value (Some f) old new same time = λ empty. read _ old new same time (setting_as_before key value (past old))

  pub set_written : (key value : List ℕ) → length key < 2 ^ 16 → length value ≤ 16777215 → (pairs : List Pair) → pairs ≡ record { key = key; value = value } ∷ [] → (o m : Option (List ℕ)) (old mid new : D) → m ≡ o → past mid ≡ past old → Passes old mid
      → IfSome m (λ _. LeavesOnly moment left_with mid new (IsFreshMoment new_head (fresh_groups 1 0 pairs) (fresh_text new_head 0 pairs) (past mid))) → IfSome o (λ f. f ≡ [] → Each (IsSettingMoment key value (past old)) old new)
  set_written key value k v pairs one None m old mid new is same time only = tt
  set_written key value k v pairs one (Some f) m old mid new is same time only =
      let Fresh : Past → Past × List ℕ → Type 0 = λ p. IsFreshMoment new_head (set_groups key value) (set_text key value) p in
      let told : IfSome m (λ _. LeavesOnly moment left_with mid new (Fresh (past mid))) =
      subst (λ (ps : List Pair). IfSome m (λ _. LeavesOnly moment left_with mid new (IsFreshMoment new_head (fresh_groups 1 0 ps) (fresh_text new_head 0 ps) (past mid)))) one only in
      let there : LeavesOnly moment left_with mid new (Fresh (past mid)) = subst (λ (q : Option (List ℕ)). IfSome q (λ _. LeavesOnly moment left_with mid new (Fresh (past mid)))) is told in
      λ empty.
      written _ (Fresh (past old)) old mid new same time (setting_as_before key value (past old)) (subst (λ (p : Past). LeavesOnly moment left_with mid new (Fresh p)) same there) (setting key value k v (past old))

  pub restore_read : (image : List ℕ) (o : Option (List ℕ)) (old new : D) → past new ≡ past old → Passes old new → IfSome o (λ f. f ≡ [] → Each (IsRestoringMoment image (past old)) old new)
  restore_read image None old new same time = tt
  restore_read image (Some f) old new same time = λ empty. read _ old new same time (restoring_as_before image (past old))

  pub restore_written : (image : List ℕ) (o m : Option (List ℕ)) (old mid new : D) → m ≡ o → past mid ≡ past old → Passes old mid → IfSome m (λ _. LeavesOnly moment left_with mid new (IsRestoringMoment image (past mid)))
      → IfSome o (λ f. f ≡ [] → Each (IsRestoringMoment image (past old)) old new)
  restore_written image None m old mid new is same time only = tt
  restore_written image (Some f) m old mid new is same time only =
      let there : LeavesOnly moment left_with mid new (IsRestoringMoment image (past mid)) = subst (λ (q : Option (List ℕ)). IfSome q (λ _. LeavesOnly moment left_with mid new (IsRestoringMoment image (past mid)))) is only in
      λ empty.
      written _ (IsRestoringMoment image (past old)) old mid new same time (restoring_as_before image (past old)) (subst (λ (p : Past). LeavesOnly moment left_with mid new (IsRestoringMoment image p)) same there) (λ x q. q)

-- ---- through a folder

module _ (m0 m1 m2 m3 : ℕ) (left first last leaves : List ℕ → Type 0) (was was1 since since1 : ℕ → List ℕ → Type 0) (p p1 q q1 : Past) (was_with was_with1 with with1 : ℕ → Past × List ℕ → Type 0)
    (taken : SameHistory m0 m1 left first was was1 p p1 was_with was_with1) (given : SameHistory m2 m3 last leaves since since1 q q1 with with1) where
  -- on a disk that was taken out of its folder and given back
  through : (P : Past → Past × List ℕ → Type 0) → AtEachMoment (P p1) m1 m2 with → AtEachMoment (P p) m0 m3 with1
  through P done = record {
    later = omega (arith, taken.moment, given.moment, done.later);
    each = λ x l. subst (λ (b : Past). P b x) taken.past (done.each x (subst (λ (t : ℕ). with t x) (sym taken.moment) (given.pasts m0 x l)));
  }

  command_through : (command : Command) (files : List ℕ → Option (List ℕ)) → Makes command files p1 m1 m2 with → Makes command files p m0 m3 with1
  command_through (Get c) files done = tt
  command_through (Set c) files done = through (IsSettingMoment c.key c.value) done
  command_through (Remove c) files done = through IsUnmadeMoment done
  command_through (Restore c) files done = through (IsRestoredMoment (or_empty (files c.from))) done

  pub taken_makes : (command : Command) (files : List ℕ → Option (List ℕ)) (f : List ℕ) (o : Option (List ℕ)) → o ≡ Some f → IfSome o (λ g. g ≡ [] → Makes command files p1 m1 m2 with) → f ≡ [] → Makes command files p m0 m3 with1
  taken_makes command files f o is done empty = command_through command files (subst (λ (a : Option (List ℕ)). IfSome a (λ g. g ≡ [] → Makes command files p1 m1 m2 with)) is done empty)

  pub taken_restores : (image f : List ℕ) (o : Option (List ℕ)) → o ≡ Some f → IfSome o (λ g. g ≡ [] → AtEachMoment (IsRestoringMoment image p1) m1 m2 with) → f ≡ [] → AtEachMoment (IsRestoringMoment image p) m0 m3 with1
  taken_restores image f o is done empty =
      through (IsRestoringMoment image) (subst (λ (a : Option (List ℕ)). IfSome a (λ g. g ≡ [] → AtEachMoment (IsRestoringMoment image p1) m1 m2 with)) is done empty)

module _ (m0 m1 : ℕ) (left leaves : List ℕ → Type 0) (was since : ℕ → List ℕ → Type 0) (p q : Past) (was_with with : ℕ → Past × List ℕ → Type 0) (same : SameHistory m0 m1 left leaves was since p q was_with with)
    (only_with : (x : Past × List ℕ) → was_with m0 x → (x.0 ≡ p) × left x.1) where
  -- of a file that was not written
  kept : (P : Past × List ℕ → Type 0) → ((x : Past × List ℕ) → x.0 ≡ p → P x) → AtEachMoment P m0 m1 with
  kept P still = record { later = omega (arith, same.moment); each = λ x l. still x (only_with x (same.pasts m0 x l)).0 }

  pub untaken_makes : (a : FileCommand) (files : List ℕ → Option (List ℕ)) → Makes (file_said a) files p m0 m1 with
  untaken_makes (asked.Get c) files = tt
  untaken_makes (asked.Set c) files = kept _ (setting_as_before c.key.now c.value.now p)
  untaken_makes (asked.Remove c) files = kept _ (unmade_as_before p)

  pub untaken_restores : (image : List ℕ) → AtEachMoment (IsRestoringMoment image p) m0 m1 with
  untaken_restores image = kept _ (restoring_as_before image p)

  pub unread_restores : (image : List ℕ) → AtEachMoment (IsRestoredMoment image p) m0 m1 with
  unread_restores image = kept _ (restored_as_before image p)

-- behind a step that left the history as it was
pub restores_after : (image : List ℕ) → restore_fault image ≡ None → (m0 m1 m2 : ℕ) (left leaves : List ℕ → Type 0) (was since : ℕ → List ℕ → Type 0) (p q : Past) (was_with with last : ℕ → Past × List ℕ → Type 0)
    → SameHistory m0 m1 left leaves was since p q was_with with → AtEachMoment (IsRestoringMoment image q) m1 m2 last → AtEachMoment (IsRestoredMoment image p) m0 m2 last
restores_after image sound m0 m1 m2 left leaves was since p q was_with with last same done = record {
  later = omega (arith, same.moment, done.later);
  each = λ x l. restored_moment image sound p x (subst (λ (b : Past). IsRestoringMoment image b x) same.past (done.each x (subst (λ (t : ℕ). last t x) (sym same.moment) l)));
}

-- one step after another
pub histories_joined : (m0 m1 m2 : ℕ) (l0 l1 l2 : List ℕ → Type 0) (s0 s1 s2 : ℕ → List ℕ → Type 0) (p0 p1 p2 : Past) (w0 w1 w2 : ℕ → Past × List ℕ → Type 0) → SameHistory m0 m1 l0 l1 s0 s1 p0 p1 w0 w1 → SameHistory m1 m2 l1 l2 s1 s2 p1 p2 w1 w2
    → SameHistory m0 m2 l0 l2 s0 s2 p0 p2 w0 w2
histories_joined m0 m1 m2 l0 l1 l2 s0 s1 s2 p0 p1 p2 w0 w1 w2 a b = record {
  moment = b.moment ∙ a.moment;
  crash = λ c l. a.crash c (b.crash c l);
  time = λ t c l. a.time t c (b.time t c l);
  keeps = λ t c l. b.keeps t c (a.keeps t c l);
  past = b.past ∙ a.past;
  pasts = λ t x l. a.pasts t x (b.pasts t x l);
  keeps_pasts = λ t x l. b.keeps_pasts t x (a.keeps_pasts t x l);
}

-- what a file holds in the end is an image of one of the moments
pub made_in_the_end : (c : Command) (files : List ℕ → Option (List ℕ)) (before now : Past) (m0 m1 : ℕ) (with : ℕ → Past × List ℕ → Type 0) (o : Option (List ℕ)) → Makes c files before m0 m1 with
    → ((f : List ℕ) → o ≡ Some f → m0 ≤ m1 → with m0 (now, f)) → IfSome o (λ f. IsMakingMoment c files before (now, f))
made_in_the_end c files before now m0 m1 with None makes counts = tt
made_in_the_end (Get c) files before now m0 m1 with (Some f) makes counts = tt
made_in_the_end (Set c) files before now m0 m1 with (Some f) makes counts = makes.each (now, f) (counts f refl makes.later)
made_in_the_end (Remove c) files before now m0 m1 with (Some f) makes counts = makes.each (now, f) (counts f refl makes.later)
made_in_the_end (Restore c) files before now m0 m1 with (Some f) makes counts = makes.each (now, f) (counts f refl makes.later)
