-- A hash store after a group, after a sync, and after another closing part.
use Rattle.std.proofs.Common.{◌≡◌, inl, inr, ℕ, ◌+◌, ◌*◌, ◌<◌, ◌≤◌, ◌^◌, Bool, true, false, List, [], ◌∷◌, ◌++◌, length, take, refl, sym, ◌∙◌, ap, subst, arith, length-append, append_assoc}
use Rattle.std.specs.Prelude.{◌≢◌, Option, Some, None, IfSome, MatchOption, Result, Ok, Err, OnOk, OnErr, if◌then◌else◌, sum_by}
use Rattle.std.specs.Option.{option_map, is_some}
use Rattle.std.proofs.lemmas.List.{append-nil, take_all, take-append-le, length-replicate}
use Rattle.std.proofs.lemmas.Option.{IfSome_then}
use Rattle.std.proofs.lemmas.Bool.Decides.{nat_tests}
use Rattle.tk_disk.specs.Past.{Past, Writes}
use Rattle.tk_disk.specs.Crash.{Torn, Follows, Within, Only, LeavesOnly, PastOnly}
use Rattle.tk_model.specs.declared.record.Order.TheVariants.{Hash}
use Rattle.tk_model.specs.declared.record.Pair.{Pair}
use Rattle.tk_model.specs.declared.record.Group.{Group}
use Rattle.tk_model.specs.declared.record.Change.{Change}
use Rattle.tk_model.specs.Records.{after, replay, AllFit, IsClearAlone}
use Rattle.tk_store.specs.Store.{StoreConstants, First, Groups, groups_made_by, extents_need, extent_of, UnlessFault}
use Rattle.tk_store.specs.declared.error.StoreError.{StoreError}
use Rattle.tk_store.specs.declared.error.StoreError.TheVariants as errors
use Rattle.tk_disk.specs.declared.disk.DiskError.{DiskError}
use Rattle.tk_store.proofs.Mem.{replay_more, floor_more}
use Rattle.tk_block.specs.declared.head.StaticHead.{StaticHead}
use Rattle.tk_block.specs.declared.closing.Closing.{Closing}
use Rattle.tk_block.specs.Text.{base_of, is_static}
use Rattle.tk_block.specs.Blocks.{group_bodies}
use Rattle.tk_block.specs.Layout.{end_of, bodies_of, group_text}
use Rattle.tk_block.proofs.Groups.{end_behind}
use Rattle.tk_append.specs.Chains.{HeadsAre}
use Rattle.tk_append.specs.Log.{AreGroups, blocks_of, closed_text}
use Rattle.tk_append.specs.LogParts.{log_disk, log_head, log_end, with_closing}
use Rattle.tk_append.specs.FileText.{text_of, text_with, IsFile}
use Rattle.tk_append.specs.Restored.{IsKept}
use Rattle.tk_append.specs.FairPast.{IsFairPast}
use Rattle.tk_append.proofs.LogSteps.{end_more}
use Rattle.tk_append.proofs.Restoring.{file_kept}
use Rattle.tk_hash.specs.Fair.{KeepsFair}
use Rattle.tk_hash.specs.Hash.{groups_held, floor_of, opening, map_in, KeepsGroups, IsReservedGroup, HashReserved, HashStands, HashKeptSince}
use Rattle.tk_hash.specs.HashLaws.{groups_joined, length-text_of, is_file, all_legal, kept_held, fair_held, file_of}
use Rattle.tk_hash.specs.declared.store.HashStore.{HashStore}
use Rattle.tk_hash.specs.declared.store.ReservedGroup.{ReservedGroup}
use Rattle.tk_hash.specs.declared.plan.NewHeads.{NewHeads}
use Rattle.tk_hash.specs.declared.plan.NewHeads.TheVariants.{Cleared, Renewed}
use Rattle.tk_hash.proofs.GroupChained.{length-with_new}
use Rattle.tk_hash.specs.Plan.{with_heads}
use Rattle.tk_hash.specs.declared.shelf.Shelf.{Shelf}
use Rattle.tk_hash.specs.Seek.{KnowsHeads, IsShelf}
use Rattle.tk_hash.proofs.Keeping.{front_ends, keeps_torn, keeps_joined}
use Rattle.tk_hash.proofs.Fairness.{fair_write, fair_joined, fair_settles, fair_closes, group_fair}
use Rattle.tk_append.specs.LogPasts.{Settles, Closes}
use Rattle.tk_hash.proofs.HashKeeps.{SameFile, KeepsShelf, carried, carried_both, rested, shelf_same, heads_known, heads_stand, key_known, key_stands, none_known, done, map_is}
use Rattle.tk_hash.proofs.HashTexts.{PutsHeads, file_more, heads_behind, closed_there, closed_now, closed_still}

-- a header's p
pub head_small : (h : StaticHead) → is_static h ≡ true → h.p ≤ 24
head_small h is = grind (arith, nat_tests)

count_more : (o new : Option (List ℕ)) (P : List ℕ → Type 0) (A B : Type 0) → is_some new ≡ is_some o → IfSome o P → IfSome o (λ f. A) → IfSome o (λ f. P f → A → B) → IfSome new (λ f. B)
count_more None None P A B told file was go = tt
count_more None (Some g) P A B told file was go = absurd (cc)
count_more (Some f) None P A B told file was go = tt
count_more (Some f) (Some g) P A B told file was go = go file was

always_there : (o : Option (List ℕ)) → IfSome o (λ f. Unit {0})
always_there None = tt
always_there (Some f) = tt

-- new heads are as many
pub length-with_heads : (fresh : NewHeads) (heads : List ℕ) → length (with_heads fresh heads) ≡ length heads
length-with_heads Cleared heads = length-replicate (length heads) 0
length-with_heads (Renewed ns) heads = length-with_new ns.items heads

pub shelf_none : (o : Option (List ℕ)) (h : StaticHead) (groups : List Group) (shelf : Option Shelf) → shelf ≡ None → IfSome o (λ f. IsShelf h groups shelf)
shelf_none None h groups shelf is = tt
shelf_none (Some f) h groups shelf is = subst (λ (x : Option Shelf). IsShelf h groups x) (sym is) tt

still_some : (o : Option (List ℕ)) (g : List ℕ → List ℕ) → is_some (option_map g o) ≡ is_some o
still_some None g = refl
still_some (Some f) g = refl

-- what is made of what a disk tells is told as the disk is
pub mapped_still : {A B C : Type 0} (f : A → B) (g : A → C) (o new : Option A) → is_some new ≡ is_some o → is_some (option_map f new) ≡ is_some (option_map g o)
mapped_still f g None None told = told
mapped_still f g None (Some y) told = told
mapped_still f g (Some x) None told = told
mapped_still f g (Some x) (Some y) told = told

-- what a sync leaves
pub only_kept : (o : Option (List ℕ)) (h : StaticHead) (groups : List Group) (may : List ℕ → Type 0) → IfSome o (λ f. IsFile h f groups) → IfSome o (λ f. Only f may) → IfSome o (λ f. (c : List ℕ) → may c → IsKept h groups c)
only_kept None h groups may file only = tt
only_kept (Some f) h groups may file only = λ c left. subst (λ (x : List ℕ). IsKept h groups x) (sym (only c left)) (file_kept h f groups file)

take_whole : (since : List Group) → take (length since) since ≡ since
take_whole since = take_all (length since) since (omega arith)

-- a file that only grew has its heads
pub still_there : (old new : Option (List ℕ)) (end base : ℕ) (text : List ℕ) → IfSome old (λ f. length f ≡ end) → base ≤ end → new ≡ option_map (λ f. f ++ text) old → IfSome new (λ f. base ≤ length f)
still_there None new end base text here low is = subst (λ (o : Option (List ℕ)). IfSome o (λ f. base ≤ length f)) (sym is) tt
still_there (Some f) new end base text here low is = subst (λ (o : Option (List ℕ)). IfSome o (λ f. base ≤ length f)) (sym is) (omega (arith, here, low, length-append f text))

-- new heads that were told as written were written
pub puts_done : {T : Type 0} (answer : Result T DiskError) (result : Result T StoreError) (v : T) (mid new : Option (List ℕ)) (h k : StaticHead) (fresh : NewHeads) → k ≡ h → OnErr answer (result ≡ Err errors.Fault) → result ≡ Ok v
    → ((c : Closing) (old : List ℕ) (groups : List Group) → IfSome mid (λ f. f ≡ text_with k c old groups → length old ≡ 2 ^ k.p → OnOk answer (new ≡ Some (text_with k c (with_heads fresh old) groups)))) → PutsHeads mid new h fresh
puts_done answer result v mid new h k fresh same err is written =
    subst (λ (x : StaticHead). PutsHeads mid new x fresh) same
    (λ c old groups. IfSome_then mid (written c old groups) (λ f go file long. done answer result v err is (go file long)))

-- what waits is what was prepared
prepared_is : {A : Type 0} (o : Option A) (g : A) (P : A → Type 0) (Q : Type 0) → o ≡ Some g → MatchOption o Q P → P g
prepared_is None g P Q found is = absurd (cc)
prepared_is (Some h) g P Q found is = let same : h ≡ g = cc in subst P same is

pub may_write : (writable : Bool) (cs : List Change) → (writable ≡ false → cs ≡ []) → cs ≢ [] → writable ≡ true
may_write true cs only some = refl
may_write false cs only some = absurd (some (only refl))

-- a list of changes makes one group
pub one_made : (constants : StoreConstants) (n : ℕ) (cs : List Change) → cs ≢ [] → record { number = n; changes = cs } ∷ [] ≡ groups_made_by constants n cs
one_made constants n [] some = absurd (some refl)
one_made constants n (c ∷ cs) some = refl

pub sum_is : (constants : StoreConstants) (cs : List Change) → cs ≢ [] → extents_need constants 1 cs ≡ sum_by (extent_of 1) cs
sum_is constants [] some = absurd (some refl)
sum_is constants (c ∷ cs) some = refl

two_mapped : {A B C : Type 0} (o p : Option A) (x : B) (y : C) (g : B → C) → is_some p ≡ is_some o → y ≡ g x → option_map (λ a. y) p ≡ option_map g (option_map (λ a. x) o)
two_mapped None None x y g told is = refl
two_mapped None (Some b) x y g told is = absurd (cc)
two_mapped (Some a) None x y g told is = absurd (cc)
two_mapped (Some a) (Some b) x y g told is = ap Some is

same_mapped : {A B : Type 0} (o p : Option A) (x : B) → is_some p ≡ is_some o → option_map (λ a. x) p ≡ option_map (λ a. x) o
same_mapped None None x told = refl
same_mapped None (Some b) x told = absurd (cc)
same_mapped (Some a) None x told = absurd (cc)
same_mapped (Some a) (Some b) x told = refl

-- what holds of every answer
pub unless_fault : {T P : Type 0} (r : Result T StoreError) → P → UnlessFault r P
unless_fault (Ok v) p = p
unless_fault (Err errors.Fault) p = tt
unless_fault (Err (errors.Full size need limit)) p = p
unless_fault (Err errors.NoMemory) p = p

-- one of two files, by how the store was opened
pub as_written : (writable : Bool) (o n : Option (List ℕ)) (a b : List ℕ) → writable ≡ true → IfSome o (λ _. n ≡ Some a) → IfSome o (λ _. n ≡ Some (if writable then a else b))
as_written true o n a b may is = is
as_written false o n a b may is = absurd (cc)

pub as_read : (writable : Bool) (o n : Option (List ℕ)) (a b : List ℕ) → writable ≡ false → IfSome o (λ _. n ≡ Some b) → IfSome o (λ _. n ≡ Some (if writable then a else b))
as_read true o n a b may is = absurd (cc)
as_read false o n a b may is = is

-- the same parts make the same closing part
pub closing_by : (a b count next : ℕ) (c : Closing) → c ≡ record { size = a; count = count; next = next } → a ≡ b → c ≡ record { size = b; count = count; next = next }
closing_by a b count next c is same = rw (← same) is

same_groups : (a b : List Group) → Groups a ≡ Groups b → a ≡ b
same_groups a b is = cc

-- what is known of a plan is known of the log that it was made for
pub planned : (P : StaticHead → ℕ → Type 0) (groups : List Group) (o to : Option (List ℕ)) (h k : StaticHead) (e i : ℕ) → to ≡ o → k ≡ h → i ≡ e → IfSome o (λ f. IsFile h f groups → P h e) → IfSome to (λ f. IsFile k f groups → P k i)
planned P groups o to h k e i a b d told =
    subst (λ (x : Option (List ℕ)). IfSome x (λ f. IsFile k f groups → P k i)) (sym a)
    (subst (λ (x : StaticHead). IfSome o (λ f. IsFile x f groups → P x i)) (sym b) (subst (λ (n : ℕ). IfSome o (λ f. IsFile h f groups → P h n)) (sym d) told))

module _ {D : Type 0} (image : D → Option (List ℕ)) (may_leave : D → List ℕ → Type 0) (past : D → Past) where
  module _ (s : HashStore D) (first : First) (since : List Group) (hard : ℕ) (st : HashStands image may_leave past s first since hard) where
    -- the file is as long as the log says, and has its heads
    pub length_there : IfSome (image (log_disk s.log)) (λ f. length f ≡ log_end s.log)
    length_there = IfSome_then (image (log_disk s.log)) st.there (λ f there. ap length there ∙ length-text_of (log_head s.log) s.closing (st.groups ++ since) ∙ sym st.end_is)

    pub base_within : base_of (log_head s.log).p ≤ log_end s.log
    base_within = omega (arith, st.end_is, end_behind (base_of (log_head s.log).p) (bodies_of (st.groups ++ since)))

    pub header_there : IfSome (image (log_disk s.log)) (λ f. 64 ≤ length f)
    header_there = IfSome_then (image (log_disk s.log)) length_there (λ f long. omega (arith, long, base_within))

    -- what waits, and that close was called, is no part of what a store stands for
    pub restaged : (o : Option ReservedGroup) (b : Bool) → (b ≡ false → s.closed ≡ false) → HashStands image may_leave past (record s { reserved_group = o; closed = b }) first since hard
    restaged o b unclosed = rested image may_leave past s (record s { reserved_group = o; closed = b }) first since hard hard st
        (record { head = refl; end = refl; closing = refl; count = refl; next = refl; last = refl; writable = refl; closed = unclosed; heads = refl; found = λ known. known; buffer = refl; bytes = refl }) (shelf_same image s) st.synced st.kept st.fair

    -- where its groups end
    pub groups_end : log_end s.log ≡ end_of (base_of (log_head s.log).p) (bodies_of (groups_held first.held ++ since))
    groups_end = subst (λ (gs : List Group). log_end s.log ≡ end_of (base_of (log_head s.log).p) (bodies_of (gs ++ since))) (sym (ap groups_held st.held)) st.end_is

  -- what is staged
  pub staged_is : (s : HashStore D) (g : ReservedGroup) (cs : List Change) → s.reserved_group ≡ Some g → HashReserved image s cs → IsReservedGroup image s cs g
  staged_is s g cs found p = prepared_is s.reserved_group g (IsReservedGroup image s cs) (cs ≡ []) found p.reserved_group

  pub staged_still : (s : HashStore D) (o : Option ReservedGroup) (cs : List Change) (g : ReservedGroup) → IsReservedGroup image s cs g → IsReservedGroup image (record s { reserved_group = o }) cs g
  staged_still s o cs g is = record {
    some = is.some;
    heads = is.heads;
    links = is.links;
    ready = is.ready;
    ends = is.ends;
    links_are = is.links_are;
    heads_are = is.heads_are;
    count_is = is.count_is;
  }

  -- the records after a group, and without one
  pub map_more : (s t : HashStore D) (n : ℕ) (cs : List Change) (first : First) (since : List Group) (hard : ℕ) → is_some (image (log_disk t.log)) ≡ is_some (image (log_disk s.log)) → HashStands image may_leave past s first since hard
      → HashStands image may_leave past t first (since ++ record { number = n; changes = cs } ∷ []) hard → map_in image t ≡ option_map (after Hash cs) (map_in image s)
  map_more s t n cs first since hard told old new =
      let more : Group = record { number = n; changes = cs } in
      map_is image may_leave past t first (since ++ more ∷ []) hard new
      ∙ two_mapped (image (log_disk s.log)) (image (log_disk t.log)) (replay Hash since first.records) (replay Hash (since ++ more ∷ []) first.records) (after Hash cs) told (replay_more Hash since more first.records)
      ∙ ap (λ (m : Option (List Pair)). option_map (after Hash cs) m) (sym (map_is image may_leave past s first since hard old))

  pub map_kept : (s t : HashStore D) (first : First) (since : List Group) (hard now : ℕ) → is_some (image (log_disk t.log)) ≡ is_some (image (log_disk s.log)) → HashStands image may_leave past s first since hard → HashStands image may_leave past t first since now
      → map_in image t ≡ map_in image s
  map_kept s t first since hard now told old new =
      map_is image may_leave past t first since now new ∙ same_mapped (image (log_disk s.log)) (image (log_disk t.log)) (replay Hash since first.records) told ∙ sym (map_is image may_leave past s first since hard old)

  pub stood_staged : (moment : D → ℕ) (left_since : D → ℕ → List ℕ → Type 0) (left_with : D → ℕ → Past × List ℕ → Type 0) (s : HashStore D) (o : Option ReservedGroup) (b : Bool) → (b ≡ false → s.closed ≡ false) → (since_when n : ℕ) (first : First) (since : List Group) (hard : ℕ) → HashKeptSince image may_leave past moment left_since left_with s since_when n first since hard
      → HashKeptSince image may_leave past moment left_since left_with (record s { reserved_group = o; closed = b }) since_when n first since hard
  stood_staged moment left_since left_with s o b unclosed since_when n first since hard st = record {
    stands = restaged s first since hard st.stands o b unclosed;
    safe = record { within = st.safe.within; each = st.safe.each; fair = st.safe.fair; kept = st.safe.kept };
    least = st.least;
    before = st.before;
  }

  module _ (moment : D → ℕ) (left_since : D → ℕ → List ℕ → Type 0) (left_with : D → ℕ → Past × List ℕ → Type 0) (s : HashStore D) (first : First) (since : List Group) (hard : ℕ) (st : HashStands image may_leave past s first since hard) where
    -- a group behind the others keeps them
    pub appended_keeps : (mid : D) (n : ℕ) → Follows (Torn (log_end s.log) n) (may_leave (log_disk s.log)) (may_leave mid) → LeavesOnly moment left_since (log_disk s.log) mid (λ c. (d : List ℕ) × may_leave (log_disk s.log) d × Torn (log_end s.log) n d c)
        → KeepsGroups may_leave moment left_since (log_head s.log) (groups_held first.held ++ take hard since) (log_disk s.log) mid
    appended_keeps mid n follows time =
        keeps_torn may_leave moment left_since (log_head s.log) (groups_held first.held ++ take hard since) (log_disk s.log) mid (log_end s.log) n
        (inr (front_ends (log_head s.log) (groups_held first.held) since hard (log_end s.log) (groups_end s first since hard st))) follows time

    -- and so do heads behind it
    pub put_keeps : (mid last : D) (k : StaticHead) → k ≡ log_head s.log → KeepsGroups may_leave moment left_since (log_head s.log) (groups_held first.held ++ take hard since) (log_disk s.log) mid
        → Follows (Torn 64 (8 * 2 ^ k.p)) (may_leave mid) (may_leave last) → LeavesOnly moment left_since mid last (λ c. (d : List ℕ) × may_leave mid d × Torn 64 (8 * 2 ^ k.p) d c)
        → KeepsGroups may_leave moment left_since (log_head s.log) (groups_held first.held ++ take hard since) (log_disk s.log) last
    put_keeps mid last k same keeps follows time =
        let within : 64 + 8 * 2 ^ k.p ≤ base_of (log_head s.log).p = rw same (omega arith) in
        keeps_joined may_leave moment left_since (log_head s.log) (groups_held first.held ++ take hard since) (log_disk s.log) mid last keeps
        (keeps_torn may_leave moment left_since (log_head s.log) (groups_held first.held ++ take hard since) mid last 64 (8 * 2 ^ k.p) (inl (omega arith, within)) follows time)

    -- and the past fair for it and them
    pub appended_fair : (mid : D) (n : ℕ) (cs : List Change) (links : List ℕ)
        → Writes (log_end s.log) (group_text (record { number = n; changes = cs }) (log_end s.log) links) (past (log_disk s.log)) (past mid)
        → PastOnly moment left_with (log_disk s.log) mid (Writes (log_end s.log) (group_text (record { number = n; changes = cs }) (log_end s.log) links) (past (log_disk s.log)))
        → KeepsFair past moment left_with (log_head s.log) (groups_held first.held ++ since) (record { number = n; changes = cs } ∷ []) (log_disk s.log) mid
    appended_fair mid n cs links written only =
        fair_write past moment left_with (log_head s.log) (groups_held first.held ++ since) (record { number = n; changes = cs } ∷ []) (log_disk s.log) mid (log_end s.log) _ written only
        (group_fair (log_head s.log) (groups_held first.held ++ since) n (log_end s.log) cs links (groups_end s first since hard st))

    pub put_fair : (mid last : D) (k : StaticHead) (n : ℕ) (cs : List Change) → k ≡ log_head s.log
        → KeepsFair past moment left_with (log_head s.log) (groups_held first.held ++ since) (record { number = n; changes = cs } ∷ []) (log_disk s.log) mid
        → ((groups : List Group) → KeepsFair past moment left_with k groups [] mid last)
        → KeepsFair past moment left_with (log_head s.log) (groups_held first.held ++ since) (record { number = n; changes = cs } ∷ []) (log_disk s.log) last
    put_fair mid last k n cs same first_part heads =
        fair_joined past moment left_with (log_head s.log) (groups_held first.held ++ since) (record { number = n; changes = cs } ∷ []) (log_disk s.log) mid last first_part
        (subst (λ (h : StaticHead). KeepsFair past moment left_with h ((groups_held first.held ++ since) ++ record { number = n; changes = cs } ∷ []) [] mid last) same (heads _))

  -- the file that a store closes
  pub closed_file : (s : HashStore D) (new : Option (List ℕ)) (next : ℕ) (groups since : List Group) (hard : ℕ) → HashStands image may_leave past s (opening groups) since hard
      → new ≡ option_map (with_closing (record { size = log_end s.log; count = s.count; next = next })) (image (log_disk s.log))
      → IfSome (image (log_disk s.log)) (λ _. new ≡ Some (closed_text (log_head s.log) (groups ++ since) next))
  closed_file s new next groups since hard st now =
      subst (λ (gs : List Group). IfSome (image (log_disk s.log)) (λ _. new ≡ Some (closed_text (log_head s.log) (gs ++ since) next))) (sym (same_groups groups st.groups st.held))
      (closed_now (image (log_disk s.log)) new (log_head s.log) s.closing (st.groups ++ since) (log_end s.log) s.count next st.there st.end_is st.count now)

  -- the file that was only read
  pub read_file : (s : HashStore D) (groups since : List Group) (hard : ℕ) → HashStands image may_leave past s (opening groups) since hard → s.writable ≡ false
      → IfSome (image (log_disk s.log)) (λ _. image (log_disk s.log) ≡ Some (closed_text (log_head s.log) groups s.next))
  read_file s groups since hard st only =
      let same : st.groups ++ since ≡ groups = ap (λ (l : List Group). st.groups ++ l) (st.no_group only) ∙ append-nil st.groups ∙ sym (same_groups groups st.groups st.held) in
      subst (λ (gs : List Group). IfSome (image (log_disk s.log)) (λ _. image (log_disk s.log) ≡ Some (closed_text (log_head s.log) gs s.next))) same
      (closed_still (image (log_disk s.log)) (image (log_disk s.log)) (log_head s.log) s.closing (st.groups ++ since) (log_end s.log) s.count s.next st.there (st.unmarked only) st.end_is st.count refl)

  -- the store after a group
  pub grown : (moment : D → ℕ) (left_since : D → ℕ → List ℕ → Type 0) (left_with : D → ℕ → Past × List ℕ → Type 0) (s t : HashStore D) (g : ReservedGroup) (n : ℕ) (cs : List Change) (mid : Option (List ℕ)) (first : First) (since : List Group) (hard : ℕ)
      → (is : IsReservedGroup image s cs g) → AllFit cs → IsClearAlone cs → s.writable ≡ true → floor_of s.next s.last ≤ n → n < 2 ^ 64 → HashStands image may_leave past s first since hard
      → log_head t.log ≡ log_head s.log → log_end t.log ≡ end_of (log_end s.log) (group_bodies n cs) → t.count ≡ g.count → t.last ≡ Some n → t.next ≡ s.next → t.writable ≡ s.writable → t.closing ≡ s.closing → t.closed ≡ s.closed → t.heads.items ≡ with_heads g.heads s.heads.items → t.found.present ≡ None → t.buffer.items ≡ s.buffer.items → t.shelf ≡ None
      → is_some (image (log_disk t.log)) ≡ is_some (image (log_disk s.log)) → mid ≡ option_map (λ f. f ++ group_text (record { number = n; changes = cs }) (log_end s.log) is.links) (image (log_disk s.log))
      → PutsHeads mid (image (log_disk t.log)) (log_head s.log) g.heads
      → KeepsGroups may_leave moment left_since (log_head s.log) (groups_held first.held ++ take hard since) (log_disk s.log) (log_disk t.log)
      → KeepsFair past moment left_with (log_head s.log) (groups_held first.held ++ since) (record { number = n; changes = cs } ∷ []) (log_disk s.log) (log_disk t.log)
      → HashStands image may_leave past t first (since ++ record { number = n; changes = cs } ∷ []) hard
  grown moment left_since left_with s t g n cs mid first since hard is fits alone may above small st head end count last next writable closing closed heads found buffer shelf told appended puts keeps fair_on =
      let more : Group = record { number = n; changes = cs } in
      let h : StaticHead = log_head s.log in
      let o : Option (List ℕ) = image (log_disk s.log) in
      let all : List Group = st.groups ++ since in
      let joined : all ++ more ∷ [] ≡ st.groups ++ (since ++ more ∷ []) = append_assoc st.groups since (more ∷ []) in
      let file = is_file image may_leave past s first since hard st in
      let floor : floor_of t.next t.last ≡ n + 1 = ap (λ (k : Option ℕ). floor_of t.next k) last in
      let counts : IfSome (image (log_disk t.log)) (λ f. g.count ≡ length (after Hash cs (replay Hash all []))) = count_more o (image (log_disk t.log)) _ _ _ told file st.count (is.count_is all) in
      let ends : end_of (log_end s.log) (group_bodies n cs) ≡ end_of (base_of h.p) (bodies_of (all ++ more ∷ [])) = ap (λ (k : ℕ). end_of k (group_bodies n cs)) st.end_is ∙ sym (end_more (base_of h.p) all more) in
      let texts : IfSome (image (log_disk t.log)) (λ f. f ≡ text_of h s.closing (all ++ more ∷ [])) =
      file_more o mid (image (log_disk t.log)) h s.closing all more (log_end s.log) is.links s.heads.items g.heads st.end_is told appended file st.there (is.links_are n all) (heads_stand image may_leave past s first since hard st) (is.heads_are n all) puts in
      let legal : AreGroups 0 (n + 1) (all ++ more ∷ []) =
      groups_joined 0 (floor_of s.next s.last) (n + 1) all (more ∷ []) (all_legal image may_leave past s first since hard st) (above, is.some, fits, alone, omega arith) in
      let grown_file : IfSome (image (log_disk t.log)) (λ f. IsFile h f (all ++ more ∷ [])) =
      IfSome_then (image (log_disk t.log)) texts (λ f there. file_of h s.closing (all ++ more ∷ []) (n + 1) (end_of (log_end s.log) (group_bodies n cs)) f st.header st.generation legal (omega (arith, small)) ends (omega (arith, is.ends n)) there) in
      let newest : IfSome (image (log_disk t.log)) (λ f. HeadsAre h.p (with_heads g.heads s.heads.items) (blocks_of h (all ++ more ∷ []))) =
      count_more o (image (log_disk t.log)) (λ f. IsFile h f all) Unit _ told file (always_there o) (IfSome_then o (is.heads_are n all) (λ f are is_file _. heads_behind h all more (log_end s.log) (with_heads g.heads s.heads.items) st.end_is (are is_file))) in
      let kept : IfSome (image (log_disk t.log)) (λ f. (c : List ℕ) → may_leave (log_disk t.log) c → IsKept h (groups_held first.held ++ take hard since) c) =
      carried o (image (log_disk t.log)) told (kept_held image may_leave past s first since hard st may) keeps.now in
      record {
        groups = st.groups;
        held = st.held;
        records_first = st.records_first;
        legal = subst (λ (k : ℕ). AreGroups 0 k st.groups) (sym next) st.legal;
        later = subst (λ (k : ℕ). AreGroups k (floor_of t.next t.last) (since ++ more ∷ [])) (sym next)
            (groups_joined s.next (floor_of s.next s.last) (floor_of t.next t.last) since (more ∷ []) st.later (above, is.some, fits, alone, omega (arith, floor)));
        floor = floor ∙ sym (floor_more t.next since more);
        top = omega (arith, floor, small);
        synced = omega (arith, st.synced, length-append since (more ∷ []));
        header = ap is_static head ∙ st.header;
        generation = subst (λ (k : StaticHead). k.generation < 2 ^ 64) (sym head) st.generation;
        end_is = end ∙ ends ∙ ap (λ (l : List Group). end_of (base_of h.p) (bodies_of l)) joined ∙ ap (λ (k : StaticHead). end_of (base_of k.p) (bodies_of (st.groups ++ (since ++ more ∷ [])))) (sym head);
        end_fits = omega (arith, end, is.ends n);
        buffer = subst (λ (l : List ℕ). 131072 ≤ length l) (sym buffer) st.buffer;
        heads = subst (λ (k : StaticHead). KnowsHeads (image (log_disk t.log)) k t.heads.items) (sym head)
            (subst (KnowsHeads (image (log_disk t.log)) h) (sym heads)
            (heads_known (image (log_disk t.log)) h (with_heads g.heads s.heads.items) (all ++ more ∷ []) (length-with_heads g.heads s.heads.items ∙ st.heads.whole) grown_file newest));
        found = none_known (image (log_disk t.log)) (log_head t.log) t.found found;
        mark = λ _ unclosed. closing ∙ st.mark may (sym closed ∙ unclosed);
        no_group = λ no. absurd (cc (no, writable, may));
        there = subst (λ (k : StaticHead). IfSome (image (log_disk t.log)) (λ f. f ≡ text_of k t.closing (st.groups ++ (since ++ more ∷ [])))) (sym head)
            (subst (λ (k : Closing). IfSome (image (log_disk t.log)) (λ f. f ≡ text_of h k (st.groups ++ (since ++ more ∷ [])))) (sym closing)
            (subst (λ (l : List Group). IfSome (image (log_disk t.log)) (λ f. f ≡ text_of h s.closing l)) joined texts));
        count = IfSome_then (image (log_disk t.log)) counts
            (λ f counted. count ∙ counted ∙ ap (λ (m : List Pair). length m) (sym (replay_more Hash all more [])) ∙ ap (λ (l : List Group). length (replay Hash l [])) joined);
        unmarked = λ no. absurd (cc (no, writable, may));
        shelf = shelf_none (image (log_disk t.log)) (log_head t.log) (st.groups ++ (since ++ more ∷ [])) t.shelf shelf;
        kept = λ _. subst (λ (k : StaticHead). IfSome (image (log_disk t.log)) (λ f. (c : List ℕ) → may_leave (log_disk t.log) c → IsKept k (st.groups ++ take hard (since ++ more ∷ [])) c)) (sym head)
            (subst (λ (l : List Group). IfSome (image (log_disk t.log)) (λ f. (c : List ℕ) → may_leave (log_disk t.log) c → IsKept h (st.groups ++ l) c)) (sym (take-append-le hard since (more ∷ []) st.synced))
            (subst (λ (l : List Group). IfSome (image (log_disk t.log)) (λ f. (c : List ℕ) → may_leave (log_disk t.log) c → IsKept h (l ++ take hard since) c)) (ap groups_held st.held) kept));
        fair = λ _. carried o (image (log_disk t.log)) told (fair_held image may_leave past s first since hard st may)
            (λ was. subst (λ (k : StaticHead). IsFairPast k (st.groups ++ (since ++ more ∷ [])) (past (log_disk t.log))) (sym head)
            (subst (λ (l : List Group). IsFairPast h l (past (log_disk t.log))) (ap (λ (l : List Group). (l ++ since) ++ more ∷ []) (ap groups_held st.held) ∙ joined) (fair_on.now was)));
      }

  -- a group more is legal behind them
  pub legal_more : (s : HashStore D) (first : First) (since : List Group) (hard : ℕ) → HashStands image may_leave past s first since hard → (n : ℕ) (cs : List Change) → cs ≢ [] → AllFit cs → IsClearAlone cs → floor_of s.next s.last ≤ n → n < 2 ^ 64
      → AreGroups 0 (2 ^ 64) (groups_held first.held ++ (since ++ record { number = n; changes = cs } ∷ []))
  legal_more s first since hard st n cs some fits alone above small =
      subst (λ (gs : List Group). AreGroups 0 (2 ^ 64) (gs ++ (since ++ record { number = n; changes = cs } ∷ []))) (sym (ap groups_held st.held))
      (groups_joined 0 s.next (2 ^ 64) st.groups (since ++ record { number = n; changes = cs } ∷ []) st.legal
      (groups_joined s.next (floor_of s.next s.last) (2 ^ 64) since (record { number = n; changes = cs } ∷ []) st.later (above, some, fits, alone, omega (arith, small))))

  -- the groups that a store stands for are those of its file
  file_held : (s : HashStore D) (first : First) (since : List Group) (hard : ℕ) → HashStands image may_leave past s first since hard → IfSome (image (log_disk s.log)) (λ f. IsFile (log_head s.log) f (groups_held first.held ++ since))
  file_held s first since hard st =
      subst (λ (gs : List Group). IfSome (image (log_disk s.log)) (λ f. IsFile (log_head s.log) f (gs ++ since))) (sym (ap groups_held st.held)) (is_file image may_leave past s first since hard st)

  pub closes_held : (moment : D → ℕ) (left_with : D → ℕ → Past × List ℕ → Type 0) (s : HashStore D) (first : First) (since : List Group) (hard : ℕ) → HashStands image may_leave past s first since hard → (new : D) (c : Closing)
      → Closes c (image (log_disk s.log)) (past (log_disk s.log)) (past new) → PastOnly moment left_with (log_disk s.log) new (Closes c (image (log_disk s.log)) (past (log_disk s.log)))
      → IfSome (image (log_disk s.log)) (λ f. KeepsFair past moment left_with (log_head s.log) (groups_held first.held ++ since) [] (log_disk s.log) new)
  closes_held moment left_with s first since hard st new c now only =
      fair_closes past moment left_with (log_head s.log) (image (log_disk s.log)) (groups_held first.held ++ since) c (log_disk s.log) new (file_held s first since hard st) now only

  pub settles_held : (moment : D → ℕ) (left_with : D → ℕ → Past × List ℕ → Type 0) (s : HashStore D) (first : First) (since : List Group) (hard : ℕ) → HashStands image may_leave past s first since hard → (new : D)
      → Settles (image (log_disk s.log)) (past (log_disk s.log)) (past new) → PastOnly moment left_with (log_disk s.log) new (Settles (image (log_disk s.log)) (past (log_disk s.log)))
      → IfSome (image (log_disk s.log)) (λ f. KeepsFair past moment left_with (log_head s.log) (groups_held first.held ++ since) [] (log_disk s.log) new)
  settles_held moment left_with s first since hard st new now only =
      fair_settles past moment left_with (log_head s.log) (image (log_disk s.log)) (groups_held first.held ++ since) (log_disk s.log) new (file_held s first since hard st) now only

  -- what a call that writes no group leaves of a fair past
  fair_after : (moment : D → ℕ) (left_with : D → ℕ → Past × List ℕ → Type 0) (s : HashStore D) (first : First) (since : List Group) (hard : ℕ) (st : HashStands image may_leave past s first since hard) (new : D) → s.writable ≡ true
      → IfSome (image (log_disk s.log)) (λ f. KeepsFair past moment left_with (log_head s.log) (groups_held first.held ++ since) [] (log_disk s.log) new)
      → IfSome (image (log_disk s.log)) (λ f. IsFairPast (log_head s.log) (st.groups ++ since) (past new))
  fair_after moment left_with s first since hard st new may fair_on =
      carried_both (image (log_disk s.log)) (image (log_disk s.log)) refl (fair_held image may_leave past s first since hard st may) fair_on
      (λ was keeps. subst (λ (l : List Group). IsFairPast (log_head s.log) l (past new)) (append-nil _ ∙ ap (λ (l : List Group). l ++ since) (ap groups_held st.held)) (keeps.now was))

  -- the store after a sync
  pub synced : (moment : D → ℕ) (left_with : D → ℕ → Past × List ℕ → Type 0) (s t : HashStore D) (b : Bool) (first : First) (since : List Group) (hard : ℕ) → SameFile image s t → KeepsShelf image s t.shelf
      → (b ≡ true → s.writable ≡ true → IfSome (image (log_disk s.log)) (λ f. Only f (may_leave (log_disk t.log))))
      → (s.writable ≡ true → IfSome (image (log_disk s.log)) (λ f. KeepsFair past moment left_with (log_head s.log) (groups_held first.held ++ since) [] (log_disk s.log) (log_disk t.log)))
      → Within (may_leave (log_disk s.log)) (may_leave (log_disk t.log)) → HashStands image may_leave past s first since hard → HashStands image may_leave past t first since (if b then length since else hard)
  synced moment left_with s t true first since hard same shelf only fair_on within st =
      rested image may_leave past s t first since hard (length since) st same shelf (omega arith)
      (λ may. subst (λ (l : List Group). IfSome (image (log_disk s.log)) (λ f. (c : List ℕ) → may_leave (log_disk t.log) c → IsKept (log_head s.log) (st.groups ++ l) c)) (sym (take_whole since))
      (only_kept (image (log_disk s.log)) (log_head s.log) (st.groups ++ since) (may_leave (log_disk t.log)) (is_file image may_leave past s first since hard st) (only refl may)))
      (λ may. fair_after moment left_with s first since hard st (log_disk t.log) may (fair_on may))
  synced moment left_with s t false first since hard same shelf only fair_on within st =
      rested image may_leave past s t first since hard hard st same shelf st.synced (λ may. IfSome_then (image (log_disk s.log)) (st.kept may) (λ f kept c left. kept c (within c left)))
      (λ may. fair_after moment left_with s first since hard st (log_disk t.log) may (fair_on may))

  -- the store after another closing part
  pub marked : (moment : D → ℕ) (left_with : D → ℕ → Past × List ℕ → Type 0) (s t : HashStore D) (new : Closing) (first : First) (since : List Group) (hard : ℕ) → s.writable ≡ true → HashStands image may_leave past s first since hard → log_head t.log ≡ log_head s.log → log_end t.log ≡ log_end s.log → t.closing ≡ new
      → t.count ≡ s.count → t.next ≡ s.next → t.last ≡ s.last → t.writable ≡ s.writable → t.heads.items ≡ s.heads.items → t.found ≡ s.found → t.buffer.items ≡ s.buffer.items → t.shelf ≡ s.shelf → t.closed ≡ true
      → image (log_disk t.log) ≡ option_map (with_closing new) (image (log_disk s.log)) → IfSome (image (log_disk t.log)) (λ f. Only f (may_leave (log_disk t.log)))
      → IfSome (image (log_disk s.log)) (λ f. KeepsFair past moment left_with (log_head s.log) (groups_held first.held ++ since) [] (log_disk s.log) (log_disk t.log)) → HashStands image may_leave past t first since (length since)
  marked moment left_with s t new first since hard may st head end closing count next last writable heads found buffer shelf closed written only fair_on =
      let h : StaticHead = log_head s.log in
      let o : Option (List ℕ) = image (log_disk s.log) in
      let all : List Group = st.groups ++ since in
      let told : is_some (image (log_disk t.log)) ≡ is_some o = ap is_some written ∙ still_some o (with_closing new) in
      let texts : IfSome (image (log_disk t.log)) (λ f. f ≡ text_of h new all) = closed_there o (image (log_disk t.log)) h s.closing new all st.there written in
      let file : IfSome (image (log_disk t.log)) (λ f. IsFile h f all) =
      IfSome_then (image (log_disk t.log)) texts (λ f there. file_of h new all (floor_of s.next s.last) (log_end s.log) f st.header st.generation (all_legal image may_leave past s first since hard st) st.top st.end_is st.end_fits there) in
      record {
        groups = st.groups;
        held = st.held;
        records_first = st.records_first;
        legal = rw next st.legal;
        later = rw (next, last) st.later;
        floor = rw (next, last) st.floor;
        top = rw (next, last) st.top;
        synced = omega arith;
        header = rw head st.header;
        generation = rw head st.generation;
        end_is = rw (end, head) st.end_is;
        end_fits = rw end st.end_fits;
        buffer = rw buffer st.buffer;
        heads = rw (head, heads)
            (heads_known (image (log_disk t.log)) h s.heads.items all st.heads.whole file (carried o (image (log_disk t.log)) told (heads_stand image may_leave past s first since hard st) (λ are. are)));
        found = rw (head, found)
            (key_known (image (log_disk t.log)) h s.found all file (carried o (image (log_disk t.log)) told (key_stands image may_leave past s first since hard st) (λ is. is)));
        mark = λ _ unclosed. absurd (cc (closed, unclosed));
        no_group = rw writable st.no_group;
        there = rw (head, closing) texts;
        count = rw count (carried o (image (log_disk t.log)) told st.count (λ same. same));
        unmarked = λ no. absurd (cc (no, writable, may));
        shelf = rw (head, shelf) (carried o (image (log_disk t.log)) told st.shelf (λ same. same));
        kept = λ _. rw (head, take_whole since) (only_kept (image (log_disk t.log)) h all (may_leave (log_disk t.log)) file only);
        fair = λ _. rw head (carried o (image (log_disk t.log)) told (fair_after moment left_with s first since hard st (log_disk t.log) may fair_on) (λ fair. fair));
      }
