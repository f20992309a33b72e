-- What a crash leaves of a change to a file on which nothing was pending.
use Rattle.std.proofs.Common.{◌≡◌, ◌≢◌, ℕ, ◌≤◌, ◌<◌, ◌^◌, Bool, true, false, inl, inr, List, [], ◌∷◌, ◌++◌, length, take, drop, refl, sym, ◌∙◌, ap, subst, arith, append_assoc}
use Rattle.std.specs.Prelude.{Option, Some, None, IfSome}
use Rattle.std.specs.Int.{w64, to_be_bytes, from_be_bytes}
use Rattle.std.specs.Option.{is_some}
use Rattle.std.proofs.lemmas.List.{append-nil, take_at, drop_at, length-append}
use Rattle.std.proofs.lemmas.Nat.{from_be_bytes-to_be_bytes_8}
use Rattle.tk_model.specs.Records.{replay}
use Rattle.tk_model.specs.Entries.{group_of}
use Rattle.tk_model.specs.declared.record.Order.TheVariants.{Hash}
use Rattle.tk_model.specs.declared.record.Pair.{Pair}
use Rattle.tk_model.specs.declared.record.Group.{Group}
use Rattle.tk_model.specs.declared.record.Change.{Change}
use Rattle.tk_model.specs.declared.record.Action.{Action}
use Rattle.tk_proc.specs.Replies.{Reply}
use Rattle.tk_proc.specs.Runs.{is_long}
use Rattle.tk_disk.specs.Past.{Past, settled_on}
use Rattle.tk_disk.specs.Crash.{Torn, LeavesOnly, PastOnly, OnlyReads}
use Rattle.tk_disk.specs.Folder.{SameHistory}
use Rattle.tk_block.specs.Text.{static_at, static_text, closing_text, closing_front, base_of}
use Rattle.tk_block.specs.Layout.{bodies_of, end_of, file_text, heads_text}
use Rattle.tk_block.specs.declared.closing.Closing.{Closing}
use Rattle.tk_block.specs.declared.head.StaticHead.{StaticHead}
use Rattle.tk_block.proofs.Grammar.{statics, length-static_text, length-closing_text}
use Rattle.tk_store.specs.Store.{StoreConstants}
use Rattle.tk_store.specs.OneRecord.{call_changes}
use Rattle.tk_append.specs.FairPast.{IsFairPast}
use Rattle.tk_append.specs.FileText.{text_of, IsFile}
use Rattle.tk_append.specs.Log.{AreGroups, blocks_of, closed_text}
use Rattle.tk_append.specs.LogParts.{log_end, open_mark, with_closing}
use Rattle.tk_append.specs.LogPasts.{Marks}
use Rattle.tk_append.specs.Opening.{first_fault}
use Rattle.tk_append.specs.Restored.{groups_in, groups_text, restored_groups, IsKept}
use Rattle.tk_append.specs.Untorn.{IsUntornBy}
use Rattle.tk_append.proofs.Fair.{fair_restores}
use Rattle.tk_append.proofs.FairPasts.{fair_written, fair_settled}
use Rattle.tk_append.proofs.Reopened.{opens_closed}
use Rattle.tk_append.proofs.Restoring.{reads_back, torn_kept, file_kept}
use Rattle.tk_hash.specs.declared.store.HashStore.{HashStore}
use Rattle.tk_hash.specs.Hash.{HashStands, HashKeptSince, RestoresTo, opening, groups_held, map_in, hash_disk, hash_head, hash_constants}
use Rattle.tk_hash.specs.HashLaws.{file_of, length-text_of}
use Rattle.tk_hash.proofs.Fairness.{has_groups}
use Rattle.tk_util.specs.Calls.{alone}
use Rattle.tk_util.specs.CutShort.{IsSettledSince, RestoresFront, IsOpenable, IsCutMoment, IsCutShort, IsCutShortSince, CutsCommandShort}
use Rattle.tk_util.specs.Interrupted.{MayAdd}
use Rattle.tk_util.specs.Making.{AtEachMoment}
use Rattle.tk_util.specs.Ran.{reply_changes}
use Rattle.tk_util.specs.Words.{Command, Get, Set, Remove, Restore}
use Rattle.tk_util.proofs.CallSteps.{same_p, known, Opened}
use Rattle.tk_util.proofs.Endings.{told_call}
use Rattle.tk_util.proofs.Interrupting.{untorn_by, take_none, restores_either}
use Rattle.tk_util.proofs.Replies.{changes_same}
use Rattle.tk_util.proofs.Sparing.{SafeSince, unmapped, always, has_header}

-- ---- a closed file is of one header, one list of groups and one next number

abbrev closing_of : StaticHead → List Group → (next : ℕ) → Closing
closing_of h groups next = record { size = end_of (base_of h.p) (bodies_of groups); count = length (replay Hash groups []); next = next }

closed_as : (h : StaticHead) (groups : List Group) (next : ℕ) → closed_text h groups next ≡ text_of h (closing_of h groups next) groups
unfolding file_text
closed_as h groups next = refl

header_there : (h : StaticHead) (f : List ℕ) (groups : List Group) → IsFile h f groups → static_at f ≡ Some h
header_there h f groups file =
    let rest : List ℕ = heads_text h.p (blocks_of h groups) ++ groups_text h groups in
    ap static_at (file.text ∙ append_assoc (static_text h) (closing_text file.closing) rest) ∙ statics.again h (closing_text file.closing ++ rest) (file.header, file.generation)

one_header : (a b : StaticHead) → Some a ≡ Some b → a ≡ b
one_header a b is = cc is

closing_there : (h : StaticHead) (groups : List Group) (next : ℕ) → take 32 (drop 32 (closed_text h groups next)) ≡ closing_text (closing_of h groups next)
closing_there h groups next =
    let closing : List ℕ = closing_text (closing_of h groups next) in
    let rest : List ℕ = heads_text h.p (blocks_of h groups) ++ groups_text h groups in
    ap (λ (l : List ℕ). take 32 (drop 32 l)) (closed_as h groups next ∙ append_assoc (static_text h) closing rest)
    ∙ ap (λ (l : List ℕ). take 32 l) (drop_at (static_text h) (closing ++ rest) 32 (length-static_text h))
    ∙ take_at closing rest 32 (length-closing_text (closing_of h groups next))

next_part : (c : Closing) → take 8 (drop 16 (closing_text c)) ≡ to_be_bytes w64 c.next
unfolding closing_text closing_front
next_part c = refl

one_next : (c d : Closing) → c.next < 2 ^ 64 → d.next < 2 ^ 64 → closing_text c ≡ closing_text d → c.next ≡ d.next
one_next c d small low same =
    sym (from_be_bytes-to_be_bytes_8 c.next small)
    ∙ ap (λ (l : List ℕ). from_be_bytes w64 l) (sym (next_part c) ∙ ap (λ (l : List ℕ). take 8 (drop 16 l)) same ∙ next_part d)
    ∙ from_be_bytes-to_be_bytes_8 d.next low

module _ (f : List ℕ) (a b : StaticHead) (gs hs : List Group) (first : IsFile a f gs) (second : IsFile b f hs) where
  same_header : a ≡ b
  same_header = one_header a b (sym (header_there a f gs first) ∙ header_there b f hs second)

  same_groups : gs ≡ hs
  same_groups = sym (reads_back a f gs first) ∙ ap (λ (h : StaticHead). groups_in h f) same_header ∙ reads_back b f hs second

  same_next : (n m : ℕ) → n < 2 ^ 64 → m < 2 ^ 64 → f ≡ closed_text a gs n → f ≡ closed_text b hs m → n ≡ m
  same_next n m small low one other =
      one_next (closing_of a gs n) (closing_of b hs m) small low
      (sym (closing_there a gs n) ∙ ap (λ (l : List ℕ). take 32 (drop 32 l)) (sym one ∙ other) ∙ closing_there b hs m)

-- the file with another closing part
other_closing : (h : StaticHead) (old new : Closing) (groups : List Group) → with_closing new (text_of h old groups) ≡ text_of h new groups
other_closing h old new groups =
    let rest : List ℕ = heads_text h.p (blocks_of h groups) ++ groups_text h groups in
    let first : take 32 (text_of h old groups) ≡ static_text h =
    ap (λ (l : List ℕ). take 32 l) (append_assoc (static_text h) (closing_text old) rest) ∙ take_at (static_text h) (closing_text old ++ rest) 32 (length-static_text h) in
    let last : drop 64 (text_of h old groups) ≡ rest =
    drop_at (static_text h ++ closing_text old) rest 64 (omega (arith, length-append (static_text h) (closing_text old), length-static_text h, length-closing_text old)) in
    ap (λ (l : List ℕ). l ++ (closing_text new ++ drop 64 (text_of h old groups))) first
    ∙ ap (λ (l : List ℕ). static_text h ++ (closing_text new ++ l)) last
    ∙ sym (append_assoc (static_text h) (closing_text new) rest)

marked_file : (h : StaticHead) (f : List ℕ) (groups : List Group) (c : Closing) → IsFile h f groups → IsFile h (with_closing c f) groups
marked_file h f groups c file =
    let text : with_closing c f ≡ text_of h c groups = ap (λ (l : List ℕ). with_closing c l) file.text ∙ other_closing h file.closing c groups in
    record {
      header = file.header;
      generation = file.generation;
      legal = file.legal;
      size = omega (arith, file.size, ap length file.text, length-text_of h file.closing groups, ap length text, length-text_of h c groups);
      closing = c;
      text = text;
    }

openable_file : (f : List ℕ) → (file : IsOpenable f) → IsFile file.h f file.groups
openable_file f file =
    file_of file.h (closing_of file.h file.groups file.next) file.groups file.next (end_of (base_of file.h.p) (bodies_of file.groups)) f file.may.head file.may.generation file.may.legal (omega (arith, file.may.number)) refl file.may.size
    (file.text ∙ closed_as file.h file.groups file.next)

openable_bytes : (f : List ℕ) → IsOpenable f → f ≢ []
openable_bytes f file =
    has_header f (record {
      accepted = subst (λ (x : List ℕ). first_fault (1 ∷ []) true alone x ≡ None) (sym file.text) (opens_closed (1 ∷ []) true alone file.h file.groups file.next file.may);
      head = file.h;
      groups = file.groups;
      next = file.next;
      file = file.text;
    })

-- ---- what is restored

front_restored : (next : ℕ) (changes : List Change) (groups : List Group) (c : List ℕ) → RestoresTo groups (group_of next changes) 0 c → RestoresFront groups (group_of next changes) c
front_restored next changes groups c r = record { groups = r; records = restores_either next changes groups (group_of next changes) c (inr refl) r }

-- what restores to the groups alone
with_more : (groups more : List Group) (c : List ℕ) → restored_groups c ≡ groups → RestoresTo groups more 0 c
with_more groups more c is = record { count = 0; least = omega arith; most = omega arith; front = is ∙ sym (append-nil groups) }

-- what restores to what a call may add restores to what it adds
added_restored : (next : ℕ) (changes : List Change) (groups since : List Group) (c : List ℕ) → MayAdd next changes since → RestoresTo groups since 0 c → RestoresTo groups (group_of next changes) 0 c
added_restored next changes groups since c (inl none) r =
    with_more groups (group_of next changes) c (r.front ∙ ap (λ (l : List Group). groups ++ l) (ap (λ (l : List Group). take r.count l) none ∙ take_none r.count) ∙ append-nil groups)
added_restored next changes groups since c (inr is) r = subst (λ (l : List Group). RestoresTo groups l 0 c) is r

module _ (f : List ℕ) (h : StaticHead) (groups : List Group) (file : IsFile h f groups) where
  -- the file, with the closing part torn
  torn_file : (c : List ℕ) → Torn 32 32 f c → IsKept h groups c
  torn_file c torn = torn_kept h groups f c 32 32 (file_kept h f groups file) torn (inl (omega arith, omega arith))

  same_file : (c : List ℕ) → c ≡ f → IsKept h groups c
  same_file c is = subst (λ (l : List ℕ). IsKept h groups l) (sym is) (file_kept h f groups file)

  -- where nothing was written
  settled_fair : (p : Past) → p ≡ settled_on f → IsFairPast h groups p
  settled_fair p is = subst (λ (q : Past). IsFairPast h groups q) (sym is) (fair_settled h groups f (has_groups h f groups file))

  -- where the file may have been marked
  marked_fair : (old p : Past) → old ≡ settled_on f → Marks open_mark (Some f) old p → IsFairPast h groups p
  marked_fair old p was (inl (inl same)) = settled_fair p (same ∙ was)
  marked_fair old p was (inl (inr is)) =
      subst (λ (q : Past). IsFairPast h groups q) (sym is) (fair_written h groups old 32 (closing_text open_mark) (settled_fair old was) (inl (omega (arith, length-closing_text open_mark))))
  marked_fair old p was (inr is) = subst (λ (q : Past). IsFairPast h groups q) (sym is) (fair_settled h groups (with_closing open_mark f) (has_groups h (with_closing open_mark f) groups (marked_file h f groups open_mark file)))

  restored : (p : Past) (c : List ℕ) → IsKept h groups c → IsFairPast h groups p → IsUntornBy h p c → restored_groups c ≡ groups
  restored p c kept fair untorn =
      let alone : groups ++ [] ≡ groups = append-nil groups in
      let r = fair_restores h groups [] (2 ^ 64) p c file.header file.generation (subst (λ (l : List Group). AreGroups 0 (2 ^ 64) l) (sym alone) file.legal) (omega arith) kept (subst (λ (l : List Group). IsFairPast h l p) (sym alone) fair) untorn in
      r.2 ∙ ap (λ (l : List Group). groups ++ l) (take_none r.0) ∙ alone

-- a moment at which the groups are kept, and nothing else was written
kept_moment : (changes : List Group → List Change) (f : List ℕ) (file : IsOpenable f) (x : Past × List ℕ) → IsKept file.h file.groups x.1 → IsFairPast file.h file.groups x.0 → IsCutMoment changes f file x
kept_moment changes f file x kept fair = λ untorn.
    front_restored file.next (changes file.groups) file.groups x.1 (with_more file.groups (group_of file.next (changes file.groups)) x.1 (restored f file.h file.groups (openable_file f file) x.0 x.1 kept fair untorn))

-- a moment at which nothing was written
still_moment : (changes : List Group → List Change) (f : List ℕ) (file : IsOpenable f) (x : Past × List ℕ) → x.0 ≡ settled_on f → x.1 ≡ f → IsCutMoment changes f file x
still_moment changes f file x past image =
    let is : IsFile file.h f file.groups = openable_file f file in
    kept_moment changes f file x (same_file f file.h file.groups is x.1 image) (settled_fair f file.h file.groups is x.0 past)

-- ---- calls on a disk

module _ {D : Type 0} (image : D → Option (List ℕ)) (may_leave : D → List ℕ → Type 0) (past : D → Past) (moment : D → ℕ) (left_since : D → ℕ → List ℕ → Type 0) (left_with : D → ℕ → Past × List ℕ → Type 0) where
  -- a store over a closed file
  store_file : (s : HashStore D) (f : List ℕ) (groups : List Group) → HashStands image may_leave past s (opening groups) [] 0 → f ≡ closed_text (hash_head s) groups s.next → IsFile (hash_head s) f groups
  store_file s f groups st is =
      let same : groups ≡ st.groups = ap groups_held st.held in
      file_of (hash_head s) (closing_of (hash_head s) groups s.next) groups s.next (log_end s.log) f st.header st.generation (subst (λ (l : List Group). AreGroups 0 s.next l) (sym same) st.legal) (omega (arith, st.later, st.top))
      (st.end_is ∙ ap (λ (l : List Group). end_of (base_of (hash_head s).p) (bodies_of l)) (append-nil st.groups ∙ sym same)) st.end_fits (is ∙ closed_as (hash_head s) groups s.next)

  module _ (back : (d : D) (t : ℕ) (x : Past × List ℕ) → left_with d t x → left_since d t x.1) where
    -- nothing was written since the time
    still_since : (changes : List Group → List Change) (f : List ℕ) (disk : D) (t : ℕ) → t ≤ moment disk → IsSettledSince f (left_since disk t) (left_with disk t) → (file : IsOpenable f) → AtEachMoment (IsCutMoment changes f file) t (moment disk) (left_with disk)
    still_since changes f disk t le settled file = record { later = le; each = λ x l. still_moment changes f file x (settled.unwritten x l) (settled.only x.1 (back disk t x l)) }

    -- the same disk
    pub same_cut : (o : Option (List ℕ)) (changes : List Group → List Change) (disk : D) → IfSome o (λ f. IsCutShortSince changes f (moment disk) (moment disk) (left_since disk) (left_with disk) (left_with disk))
    same_cut None changes disk = tt
    same_cut (Some f) changes disk = λ t le settled file. still_since changes f disk t le settled file

  module _ (counts_now : (d : D) (t : ℕ) (c : List ℕ) → t ≤ moment d → may_leave d c → left_since d t c) (counts_with : (d : D) (t : ℕ) (c : List ℕ) → t ≤ moment d → may_leave d c → left_with d t (past d, c)) where
    -- a disk that was read at most
    settled_read : (f : List ℕ) (old new : D) (t : ℕ) → t ≤ moment old → OnlyReads may_leave moment left_since past left_with old new → IsSettledSince f (left_since old t) (left_with old t) → IsSettledSince f (left_since new t) (left_with new t)
    settled_read f old new t le reads settled = record {
      unwritten = λ x l. elim (reads.pasts.nothing_else t x le l) [
        | inl was ↦ settled.unwritten x was
        | inr now ↦ now.0 ∙ (reads.past ∙ settled.unwritten (past old, x.1) (counts_with old t x.1 le (reads.crash x.1 now.1)))
      ];
      only = λ c l. elim (reads.time.nothing_else t c le l) [ inl was ↦ settled.only c was | inr now ↦ settled.only c (counts_now old t c le (reads.crash c now)) ];
    }

    pub looked_cut : ((d : D) (t : ℕ) (x : Past × List ℕ) → left_with d t x → left_since d t x.1) → (o : Option (List ℕ)) (changes : List Group → List Change) (old new : D) → IfSome o (λ f. f ≢ [] → OnlyReads may_leave moment left_since past left_with old new)
        → IfSome o (λ f. IsCutShortSince changes f (moment old) (moment new) (left_since old) (left_with old) (left_with new))
    looked_cut back None changes old new reads = tt
    looked_cut back (Some f) changes old new reads = λ t le settled file.
        let read = reads (openable_bytes f file) in
        still_since back changes f new t (omega (arith, le, read.time.later)) (settled_read f old new t le read settled) file

    -- a call behind a reading
    pub behind_cut : (o : Option (List ℕ)) (changes : List Group → List Change) (old mid new : D) → IfSome o (λ f. f ≢ [] → OnlyReads may_leave moment left_since past left_with old mid) → IfSome o (λ f. f ≢ [] → image mid ≡ o)
        → IfSome (image mid) (λ f. IsCutShortSince changes f (moment mid) (moment new) (left_since mid) (left_with mid) (left_with new))
        → IfSome o (λ f. IsCutShortSince changes f (moment old) (moment new) (left_since old) (left_with old) (left_with new))
    behind_cut None changes old mid new reads same done = tt
    behind_cut (Some f) changes old mid new reads same done = λ t le settled file.
        let bytes : f ≢ [] = openable_bytes f file in
        let read = reads bytes in
        subst (λ (x : Option (List ℕ)). IfSome x (λ f. IsCutShortSince changes f (moment mid) (moment new) (left_since mid) (left_with mid) (left_with new))) (same bytes) done
        t (omega (arith, le, read.time.later)) (settled_read f old mid t le read settled) file

    module _ (reads_left : (d : D) (f : List ℕ) → image d ≡ Some f → may_leave d f) (f : List ℕ) (disk new : D) (is : image disk ≡ Some f)
        (torn : LeavesOnly moment left_since disk new (λ c. (d : List ℕ) × may_leave disk d × Torn 32 32 d c)) (marks : PastOnly moment left_with disk new (Marks open_mark (Some f) (past disk)))
        (t : ℕ) (le : t ≤ moment disk) (settled : IsSettledSince f (left_since disk t) (left_with disk t)) (h : StaticHead) (groups : List Group) (file : IsFile h f groups) where
      -- an opening that marks a file leaves its groups
      marked_kept : (c : List ℕ) → left_since new t c → IsKept h groups c
      marked_kept c l = elim (torn.before t c le l) [
        | inl was ↦ same_file f h groups file c (settled.only c was)
        | inr x ↦ torn_file f h groups file c (subst (λ (d : List ℕ). Torn 32 32 d c) (settled.only x.0 (counts_now disk t x.0 le x.1)) x.2)
      ]

      -- and writes nothing else
      opened_fair : (x : Past × List ℕ) → left_with new t x → IsFairPast h groups x.0
      opened_fair x l = elim (marks.before t x le l) [
        | inl was ↦ settled_fair f h groups file x.0 (settled.unwritten x was)
        | inr now ↦ marked_fair f h groups file (past disk) x.0 (settled.unwritten (past disk, f) (counts_with disk t f le (reads_left disk f is))) now
      ]

    module _ (reads_left : (d : D) (f : List ℕ) → image d ≡ Some f → may_leave d f) (back : (d : D) (t : ℕ) (x : Past × List ℕ) → left_with d t x → left_since d t x.1) where
      -- of a file that was not opened
      pub unopened_cut : (a : Option (List ℕ)) (changes : List Group → List Change) (disk new : D) → image disk ≡ a
          → LeavesOnly moment left_since disk new (λ c. (d : List ℕ) × may_leave disk d × Torn 32 32 d c) → PastOnly moment left_with disk new (Marks open_mark a (past disk))
          → IfSome a (λ f. IsCutShortSince changes f (moment disk) (moment new) (left_since disk) (left_with disk) (left_with new))
      unopened_cut None changes disk new is torn marks = tt
      unopened_cut (Some f) changes disk new is torn marks = λ t le settled file.
          let whole : IsFile file.h f file.groups = openable_file f file in
          record {
            later = omega (arith, le, torn.later);
            each = λ x l.
                kept_moment changes f file x (marked_kept reads_left f disk new is torn marks t le settled file.h file.groups whole x.1 (back new t x l))
                (opened_fair reads_left f disk new is torn marks t le settled file.h file.groups whole x l);
          }

      -- a store that was opened is as it was kept since a time since which nothing had been written
      opened_since : (f : List ℕ) (disk : D) (s : HashStore D) (groups : List Group) → image disk ≡ Some f → HashStands image may_leave past s (opening groups) [] 0 → f ≡ closed_text (hash_head s) groups s.next
          → LeavesOnly moment left_since disk (hash_disk s) (λ c. (d : List ℕ) × may_leave disk d × Torn 32 32 d c) → PastOnly moment left_with disk (hash_disk s) (Marks open_mark (Some f) (past disk))
          → (t : ℕ) → t ≤ moment disk → IsSettledSince f (left_since disk t) (left_with disk t) → HashKeptSince image may_leave past moment left_since left_with s t 0 (opening groups) [] 0
      opened_since f disk s groups is st text torn marks t le settled =
          let h : StaticHead = hash_head s in
          let whole : IsFile h f groups = store_file s f groups st text in
          let none : groups ++ [] ≡ groups = append-nil groups in
          let kept : (c : List ℕ) → left_since (hash_disk s) t c → IsKept h groups c = marked_kept reads_left f disk (hash_disk s) is torn marks t le settled h groups whole in
          let fair : (x : Past × List ℕ) → left_with (hash_disk s) t x → IsFairPast h groups x.0 = opened_fair reads_left f disk (hash_disk s) is torn marks t le settled h groups whole in
          record {
            stands = st;
            safe = record {
              within = omega arith;
              each = λ may. always (image (hash_disk s)) ((x : Past × List ℕ) → left_with (hash_disk s) t x → IsUntornBy h x.0 x.1 → RestoresTo groups [] 0 x.1)
                  (λ x l untorn. with_more groups [] x.1 (restored f h groups whole x.0 x.1 (kept x.1 (back (hash_disk s) t x l)) (fair x l) untorn));
              fair = λ may. always (image (hash_disk s)) ((x : Past × List ℕ) → left_with (hash_disk s) t x → IsFairPast h (groups ++ []) x.0) (λ x l. subst (λ (gs : List Group). IsFairPast h gs x.0) (sym none) (fair x l));
              kept = λ may. always (image (hash_disk s)) ((c : List ℕ) → left_since (hash_disk s) t c → IsKept h (groups ++ []) c) (λ c l. subst (λ (gs : List Group). IsKept h gs c) (sym none) (kept c l));
            };
            least = omega arith;
            before = omega (arith, le, torn.later);
          }

      -- of a file that was opened
      pub opened_cut : (a : Option (List ℕ)) (disk : D) (s u : HashStore D) (v : D) (w : Bool) (changes : List Pair → List Change)
          → image disk ≡ a → Opened image may_leave past s a → s.writable ≡ w → w ≡ true → is_some (image (hash_disk s)) ≡ is_some a → v ≡ hash_disk u
          → is_some (map_in image u) ≡ is_some (map_in image s) → hash_constants u ≡ hash_constants s → (w ≡ true → s.next ≤ 2 ^ 62)
          → LeavesOnly moment left_since disk (hash_disk s) (λ c. (d : List ℕ) × may_leave disk d × Torn 32 32 d c) → PastOnly moment left_with disk (hash_disk s) (Marks open_mark a (past disk)) → moment (hash_disk s) ≤ moment (hash_disk u)
          → ((groups : List Group) (t : ℕ) → HashKeptSince image may_leave past moment left_since left_with s t 0 (opening groups) [] 0 → IfSome (image (hash_disk s)) (λ f. SafeSince image may_leave past moment left_since left_with s u t groups (changes (replay Hash groups []))))
          → IfSome a (λ f. IsCutShortSince (λ groups. changes (replay Hash groups [])) f (moment disk) (moment v) (left_since disk) (left_with disk) (left_with v))
      opened_cut None disk s u v w changes is opened mode may told same still constants low torn marks last safe = tt
      opened_cut (Some f) disk s u v w changes is opened mode may told same still constants low torn marks last safe = λ t le settled file.
          let groups : List Group = opened.0 in
          let h : StaticHead = hash_head s in
          let one : IsFile h f groups = store_file s f groups opened.1 opened.2 in
          let whole : IsFile file.h f file.groups = openable_file f file in
          let all : SafeSince image may_leave past moment left_since left_with s u t groups (changes (replay Hash groups [])) = known (image (hash_disk s)) _ told (safe groups t (opened_since f disk s groups is opened.1 opened.2 torn marks t le settled)) in
          let there : is_some (image (hash_disk u)) ≡ true = unmapped _ _ (image (hash_disk s)) (image (hash_disk u)) still ∙ told in
          let each : (x : Past × List ℕ) → left_with (hash_disk u) t x → IsUntornBy (hash_head u) x.0 x.1 → RestoresTo groups all.0 0 x.1 =
          known (image (hash_disk u)) _ there (all.2.each (ap (λ (n : StoreConstants). n.writable) constants ∙ (mode ∙ may))) in
          let p : file.h.p ≡ (hash_head u).p = ap (λ (k : StaticHead). k.p) (same_header f file.h h file.groups groups whole one) ∙ same_p h (hash_head u) (ap (λ (n : StoreConstants). n.header) (sym constants)) in
          let next : s.next ≡ file.next = same_next f h file.h groups file.groups one whole s.next file.next (omega (arith, low may)) file.may.number opened.2 file.text in
          let gs : groups ≡ file.groups = same_groups f h file.h groups file.groups one whole in
          subst (λ (d : D). AtEachMoment (IsCutMoment (λ (l : List Group). changes (replay Hash l [])) f file) t (moment d) (left_with d)) (sym same) (record {
            later = omega (arith, le, torn.later, last);
            each = λ x l untorn. front_restored file.next (changes (replay Hash file.groups [])) file.groups x.1
                (subst (λ (k : List Group). RestoresTo k (group_of file.next (changes (replay Hash k []))) 0 x.1) gs
                (subst (λ (n : ℕ). RestoresTo groups (group_of n (changes (replay Hash groups []))) 0 x.1) next
                (added_restored s.next (changes (replay Hash groups [])) groups all.0 x.1 all.1 (each x l (untorn_by file.h (hash_head u) x.0 x.1 p untorn)))));
          })

  -- from the start of the call on
  pub cut_from_start : ((d : D) (c : List ℕ) → left_since d (moment d) c → may_leave d c) → ((d : D) (x : Past × List ℕ) → left_with d (moment d) x → (x.0 ≡ past d) × may_leave d x.1)
      → (o : Option (List ℕ)) (changes : List Group → List Change) (old new : D) → IfSome o (λ f. IsCutShortSince changes f (moment old) (moment new) (left_since old) (left_with old) (left_with new))
      → IfSome o (λ f. IsCutShort changes f (moment old) (moment new) (past old) (may_leave old) (left_with new))
  cut_from_start only with None changes old new done = tt
  cut_from_start only with (Some f) changes old new done = λ settled file.
      done (moment old) (omega arith) (record { unwritten = λ x l. (with old x l).0 ∙ settled.unwritten; only = λ c l. settled.only c (only old c l) }) file

-- ---- the call of a ready processor

changed_cut : (f : List ℕ) (before now : ℕ) (was : ℕ → List ℕ → Type 0) (was_with with : ℕ → Past × List ℕ → Type 0) (a b : List Group → List Change) → ((groups : List Group) → a groups ≡ b groups) → IsCutShortSince a f before now was was_with with
    → IsCutShortSince b f before now was was_with with
changed_cut f before now was was_with with a b same done = λ t le settled file.
    let m = done t le settled file in
    record { later = m.later; each = λ x l untorn. subst (λ (cs : List Change). RestoresFront file.groups (group_of file.next cs) x.1) (same file.groups) (m.each x l untorn) }

module _ {P : Type 0} (acts : P → List ℕ → Option (List ℕ) → Action) (reply : Option (List ℕ) → Reply) (key : List ℕ) (old : P) (agree : (was : Option (List ℕ)) → acts old key was ≡ (reply was).action)
    (fits : (was : Option (List ℕ)) → is_long (reply was).action ≡ false) where
  pub reply_cut : (o : Option (List ℕ)) (before now : ℕ) (was : ℕ → List ℕ → Type 0) (was_with with : ℕ → Past × List ℕ → Type 0)
      → IfSome o (λ f. IsCutShortSince (λ groups. call_changes acts old key (replay Hash groups [])) f before now was was_with with) → IfSome o (λ f. IsCutShortSince (λ groups. reply_changes reply groups key) f before now was was_with with)
  reply_cut None before now was was_with with done = tt
  reply_cut (Some f) before now was was_with with done = changed_cut f before now was was_with with _ _ (changes_same acts (λ p k w. p) reply key old agree fits) done

-- ---- through a folder

module _ (m0 m1 m2 m3 : ℕ) (left first last leaves : List ℕ → Type 0) (was was1 since since1 : ℕ → List ℕ → Type 0) (p p1 q q1 : Past) (was_with was_with1 with with1 : ℕ → Past × List ℕ → Type 0)
    (taken : SameHistory m0 m1 left first was was1 p p1 was_with was_with1) (given : SameHistory m2 m3 last leaves since since1 q q1 with with1) where
  -- a call on a disk that was taken out of its folder and given back
  cut_through : (changes : List Group → List Change) (f : List ℕ) → IsCutShort changes f m1 m2 p1 first with → IsCutShort changes f m0 m3 p left with1
  cut_through changes f done = λ settled file.
      let m = done (record { unwritten = taken.past ∙ settled.unwritten; only = λ c l. settled.only c (taken.crash c l) }) file in
      record { later = omega (arith, taken.moment, given.moment, m.later); each = λ x l. m.each x (subst (λ (k : ℕ). with k x) (sym taken.moment) (given.pasts m0 x l)) }

  command_cut : (command : Command) (f : List ℕ) → CutsCommandShort command f m1 m2 p1 first with → CutsCommandShort command f m0 m3 p left with1
  command_cut (Get c) f done = tt
  command_cut (Set c) f done = cut_through _ f done
  command_cut (Remove c) f done = cut_through _ f done
  command_cut (Restore c) f done = tt

  pub taken_cut : (command : Command) (f : List ℕ) (o : Option (List ℕ)) → o ≡ Some f → IfSome o (λ g. CutsCommandShort command g m1 m2 p1 first with) → CutsCommandShort command f m0 m3 p left with1
  taken_cut command f o is done = command_cut command f (told_call o f (λ g. CutsCommandShort command g m1 m2 p1 first with) is done)

module _ (f : List ℕ) (m0 m1 : ℕ) (left leaves : List ℕ → Type 0) (was since : ℕ → List ℕ → Type 0) (p q : Past) (was_with with : ℕ → Past × List ℕ → Type 0) (same : SameHistory m0 m1 left leaves was since p q was_with with)
    (only : (x : Past × List ℕ) → was_with m0 x → (x.0 ≡ p) × left x.1) where
  -- a disk that was not taken
  cut_untaken : (changes : List Group → List Change) → IsCutShort changes f m0 m1 p left with
  cut_untaken changes = λ settled file. record {
    later = omega (arith, same.moment);
    each = λ x l. let then = only x (same.pasts m0 x l) in still_moment changes f file x (then.0 ∙ settled.unwritten) (settled.only x.1 then.1);
  }

  pub untaken_cut : (command : Command) → CutsCommandShort command f m0 m1 p left with
  untaken_cut (Get c) = tt
  untaken_cut (Set c) = cut_untaken _
  untaken_cut (Remove c) = cut_untaken _
  untaken_cut (Restore c) = tt
