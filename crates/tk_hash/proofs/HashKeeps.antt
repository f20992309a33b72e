-- A hash store that stands for groups goes on to stand for them.
use Rattle.std.proofs.Common.{◌≡◌, inl, inr, ℕ, ◌≤◌, Bool, true, false, List, [], ◌++◌, length, take, refl, sym, ◌∙◌, ap, subst, arith, ◌<◌, ◌^◌, ◌+◌, append_assoc, length-append}
use Rattle.std.proofs.lemmas.List.{append-nil, take-append-le}
use Rattle.std.specs.Prelude.{Option, Some, None, IfSome, Result, Ok, Err, OnOk, OnErr, if◌then◌else◌}
use Rattle.std.specs.Option.{option_map, is_some}
use Rattle.std.proofs.lemmas.Option.{IfSome_then}
use Rattle.std.specs.Vec.{with_items}
use Rattle.std.specs.declared.vec.Vec.{Vec}
use Rattle.tk_disk.specs.Past.{Past}
use Rattle.tk_disk.specs.Crash.{Within, OnlyReads}
use Rattle.tk_model.specs.declared.record.Order.TheVariants.{Hash}
use Rattle.tk_model.specs.declared.record.Group.{Group}
use Rattle.tk_model.specs.declared.record.Pair.{Pair}
use Rattle.tk_model.specs.Records.{find, replay}
use Rattle.tk_disk.specs.declared.disk.DiskError.{DiskError}
use Rattle.tk_store.specs.declared.error.StoreError.{StoreError}
use Rattle.tk_store.specs.declared.error.StoreError.TheVariants as errors
use Rattle.tk_store.specs.Store.{First, IsWhole, Gives}
use Rattle.tk_block.specs.declared.head.StaticHead.{StaticHead}
use Rattle.tk_append.specs.Chains.{HeadsAre}
use Rattle.tk_append.specs.Log.{blocks_of}
use Rattle.tk_append.specs.LogParts.{log_disk, log_head, log_end}
use Rattle.tk_append.specs.FileText.{IsFile}
use Rattle.tk_append.specs.Restored.{groups_in, IsKept}
use Rattle.tk_append.specs.Log.{AreGroups}
use Rattle.tk_append.specs.FairPast.{IsFairPast}
use Rattle.tk_append.proofs.Restoring.{reads_back}
use Rattle.tk_append.proofs.FairPasts.{fair_more}
use Rattle.tk_hash.specs.Fair.{KeepsFair}
use Rattle.tk_hash.specs.Seek.{KnowsHeads, KnowsFile, IsFound, KnowsKey, IsShelf}
use Rattle.tk_hash.specs.declared.seek.HeldFile.{HeldFile}
use Rattle.tk_hash.proofs.Chained.{file_parts}
use Rattle.tk_hash.specs.declared.found.FoundKey.{FoundKey}
use Rattle.tk_hash.specs.Hash.{groups_held, KeepsGroups, map_in, HashStands, HashSafe, HashKeptSince}
use Rattle.tk_hash.specs.HashLaws.{mapped, is_file, kept_held, fair_held, legal_held, records_are, kept_front, fair_each}
use Rattle.tk_hash.specs.declared.store.HashStore.{HashStore}
use Rattle.tk_hash.specs.declared.shelf.Shelf.{Shelf}
use Rattle.tk_hash.proofs.Keeping.{keeps_read}
use Rattle.tk_hash.proofs.Fairness.{fair_read}

-- what is known where a disk tells its bytes, and doesn't speak of them, is known where it goes on to tell them
pub carried : {A B : Type 0} (o p : Option (List ℕ)) → is_some p ≡ is_some o → IfSome o (λ f. A) → (A → B) → IfSome p (λ f. B)
carried None None told holds go = tt
carried None (Some g) told holds go = absurd (cc)
carried (Some f) None told holds go = tt
carried (Some f) (Some g) told holds go = go holds

pub carried_both : {A B C : Type 0} (o p : Option (List ℕ)) → is_some p ≡ is_some o → IfSome o (λ f. A) → IfSome o (λ f. B) → (A → B → C) → IfSome p (λ f. C)
carried_both None None told first second go = tt
carried_both None (Some g) told first second go = absurd (cc)
carried_both (Some f) None told first second go = tt
carried_both (Some f) (Some g) told first second go = go first second

both_told : (o : Option (List ℕ)) (P Q : Type 0) → IfSome o (λ f. P) → IfSome o (λ f. Q) → IfSome o (λ f. P × Q)
both_told None P Q p q = tt
both_told (Some f) P Q p q = (p, q)

pub always_told : (o : Option (List ℕ)) (P : Type 0) → P → IfSome o (λ f. P)
always_told None P p = tt
always_told (Some f) P p = p

pub least_if : (b : Bool) (hard len : ℕ) → hard ≤ len → hard ≤ (if b then len else hard)
least_if true hard len le = le
least_if false hard len le = omega arith

-- a disk's call that was told as done was done
pub done : {T P : Type 0} (answer : Result T DiskError) (result : Result T StoreError) (v : T) → OnErr answer (result ≡ Err errors.Fault) → result ≡ Ok v → OnOk answer P → P
done (Ok u) result v err is p = p
done (Err e) result v err is p = absurd (cc)

-- all that is known of a file is known of it on another disk
pub record SameFile {D : Type 0} (image : D → Option (List ℕ)) (s t : HashStore D) : Type 0 where
  pub head : log_head t.log ≡ log_head s.log
  pub end : log_end t.log ≡ log_end s.log
  pub closing : t.closing ≡ s.closing
  pub count : t.count ≡ s.count
  pub next : t.next ≡ s.next
  pub last : t.last ≡ s.last
  pub writable : t.writable ≡ s.writable
  pub closed : t.closed ≡ false → s.closed ≡ false
  pub heads : t.heads.items ≡ s.heads.items
  pub found : KnowsKey (image (log_disk s.log)) (log_head s.log) s.found → KnowsKey (image (log_disk s.log)) (log_head s.log) t.found
  pub buffer : length t.buffer.items ≡ length s.buffer.items
  pub bytes : image (log_disk t.log) ≡ image (log_disk s.log)

-- a store whose disk was lent and read
pub same_read : {D : Type 0} (image : D → Option (List ℕ)) (s t : HashStore D) (lent : D) → lent ≡ log_disk s.log → (t.closed ≡ false → s.closed ≡ false) → log_head t.log ≡ log_head s.log → log_end t.log ≡ log_end s.log → t.closing ≡ s.closing → t.count ≡ s.count → t.next ≡ s.next → t.last ≡ s.last
    → t.writable ≡ s.writable → t.heads.items ≡ s.heads.items → (KnowsKey (image (log_disk s.log)) (log_head s.log) s.found → KnowsKey (image (log_disk s.log)) (log_head s.log) t.found) → length t.buffer.items ≡ length s.buffer.items → image (log_disk t.log) ≡ image lent → SameFile image s t
same_read image s t lent at closed head end closing count next last writable heads found buffer bytes = record {
  head = head;
  end = end;
  closing = closing;
  count = count;
  next = next;
  last = last;
  writable = writable;
  closed = closed;
  heads = heads;
  found = found;
  buffer = buffer;
  bytes = bytes ∙ ap image at;
}

-- a shelf goes on to have its records
abbrev pub KeepsShelf : {D : Type 0} (image : D → Option (List ℕ)) → HashStore D → Option Shelf → Type 0
KeepsShelf image s o = (groups : List Group) → IfSome (image (log_disk s.log)) (λ f. IsFile (log_head s.log) f groups → IsShelf (log_head s.log) groups s.shelf → IsShelf (log_head s.log) groups o)

shelf_always : (o : Option (List ℕ)) (P : List ℕ → Type 0) (Q R : Type 0) → (Q → R) → IfSome o (λ f. P f → Q → R)
shelf_always None P Q R go = tt
shelf_always (Some f) P Q R go = λ file was. go was

pub shelf_same : {D : Type 0} (image : D → Option (List ℕ)) (s : HashStore D) → KeepsShelf image s s.shelf
shelf_same image s groups = shelf_always (image (log_disk s.log)) (λ f. IsFile (log_head s.log) f groups) _ _ (λ was. was)

-- a vector that was lent as a slice is as long as it was
pub length-lent : {X Z : Type 0} (v : Vec X Z) (ws : List X) → length (with_items v ws).items ≡ length v.items
length-lent v ws = sym (with_items v ws).ok.0 ∙ v.ok.0

shelf_given : (o : Option (List ℕ)) (P : List ℕ → Type 0) (Q R : Type 0) → IfSome o (λ f. P f → Q → R) → IfSome o (λ f. Q) → IfSome o (λ f. P f → R)
shelf_given None P Q R go was = tt
shelf_given (Some f) P Q R go was = λ file. go file was

shelf_on : (o : Option (List ℕ)) (P : List ℕ → Type 0) (Q R : Type 0) → IfSome o P → IfSome o (λ f. P f → Q → R) → IfSome o (λ f. Q) → IfSome o (λ f. R)
shelf_on None P Q R file go was = tt
shelf_on (Some f) P Q R file go was = go file was

mapped_same : {A B : Type 0} (o : Option A) (g : A → B) (y : B) → IfSome o (λ x. g x ≡ y) → option_map g o ≡ option_map (λ x. y) o
mapped_same None g y is = refl
mapped_same (Some x) g y is = ap Some is

told_file : (o : Option (List ℕ)) (h : StaticHead) (groups : List Group) (P : List Group → Type 0) → IfSome o (λ f. IsFile h f groups) → IfSome o (λ f. IsFile h f groups → P groups) → IfSome o (λ f. P (groups_in h f))
told_file None h groups P file told = tt
told_file (Some f) h groups P file told = subst P (sym (reads_back h f groups file)) (told file)

-- the heads of the groups of a file
pub heads_in : (o : Option (List ℕ)) (h : StaticHead) (heads : List ℕ) (groups : List Group) → KnowsHeads o h heads → IfSome o (λ f. IsFile h f groups → HeadsAre h.p heads (blocks_of h groups))
heads_in None h heads groups know = tt
heads_in (Some f) h heads groups know = λ file. subst (λ (gs : List Group). HeadsAre h.p heads (blocks_of h gs)) (reads_back h f groups file) know.newest

heads_there : (o : Option (List ℕ)) (h : StaticHead) (heads : List ℕ) (groups : List Group) → KnowsHeads o h heads → IfSome o (λ f. IsFile h f groups) → IfSome o (λ f. HeadsAre h.p heads (blocks_of h groups))
heads_there None h heads groups know file = tt
heads_there (Some f) h heads groups know file = heads_in (Some f) h heads groups know file

-- and back
pub heads_known : (o : Option (List ℕ)) (h : StaticHead) (heads : List ℕ) (groups : List Group) → length heads ≡ 2 ^ h.p → IfSome o (λ f. IsFile h f groups) → IfSome o (λ f. HeadsAre h.p heads (blocks_of h groups)) → KnowsHeads o h heads
heads_known None h heads groups whole file are = record { whole = whole; newest = tt }
heads_known (Some f) h heads groups whole file are = record { whole = whole; newest = subst (λ (gs : List Group). HeadsAre h.p heads (blocks_of h gs)) (sym (reads_back h f groups file)) are }

-- what was found, by the groups of a file
pub key_in : (o : Option (List ℕ)) (h : StaticHead) (k : FoundKey) (groups : List Group) → KnowsKey o h k → IfSome o (λ f. IsFile h f groups → IsFound k (replay Hash groups []))
key_in None h k groups know = tt
key_in (Some f) h k groups know = λ file. subst (λ (gs : List Group). IsFound k (replay Hash gs [])) (reads_back h f groups file) know

key_there : (o : Option (List ℕ)) (h : StaticHead) (k : FoundKey) (groups : List Group) → KnowsKey o h k → IfSome o (λ f. IsFile h f groups) → IfSome o (λ f. IsFound k (replay Hash groups []))
key_there None h k groups know file = tt
key_there (Some f) h k groups know file = key_in (Some f) h k groups know file

-- and back
pub key_known : (o : Option (List ℕ)) (h : StaticHead) (k : FoundKey) (groups : List Group) → IfSome o (λ f. IsFile h f groups) → IfSome o (λ f. IsFound k (replay Hash groups [])) → KnowsKey o h k
key_known None h k groups file is = tt
key_known (Some f) h k groups file is = subst (λ (gs : List Group). IsFound k (replay Hash gs [])) (sym (reads_back h f groups file)) is

-- nothing was found yet
pub none_known : (o : Option (List ℕ)) (h : StaticHead) (k : FoundKey) → k.present ≡ None → KnowsKey o h k
none_known None h k none = tt
none_known (Some f) h k none = subst (λ (p : Option Bool). IfSome p (λ there. there ≡ is_some (find k.key (replay Hash (groups_in h f) [])))) (sym none) tt

unmapped : {A B : Type 0} (o : Option A) (g : A → B) (P : B → Type 0) → IfSome (option_map g o) P → IfSome o (λ x. P (g x))
unmapped None g P holds = tt
unmapped (Some x) g P holds = holds

gives_there : (value : Option (List ℕ)) (old new : List ℕ) (there : Bool) → Gives value old new there → there ≡ is_some value
gives_there None old new there is = is.0
gives_there (Some v) old new there is = is.0

module _ {D : Type 0} (image : D → Option (List ℕ)) (may_leave : D → List ℕ → Type 0) (past : D → Past) where
  -- another hard number, and another disk that tells the same
  pub rested : (s t : HashStore D) (first : First) (since : List Group) (hard now : ℕ) (st : HashStands image may_leave past s first since hard) → SameFile image s t → KeepsShelf image s t.shelf → now ≤ length since
      → (s.writable ≡ true → IfSome (image (log_disk s.log)) (λ f. (c : List ℕ) → may_leave (log_disk t.log) c → IsKept (log_head s.log) (st.groups ++ take now since) c))
      → (s.writable ≡ true → IfSome (image (log_disk s.log)) (λ f. IsFairPast (log_head s.log) (st.groups ++ since) (past (log_disk t.log)))) → HashStands image may_leave past t first since now
  rested s t first since hard now st same shelf within kept fair = record {
    groups = st.groups;
    held = st.held;
    records_first = st.records_first;
    legal = rw same.next st.legal;
    later = rw (same.next, same.last) st.later;
    floor = rw (same.next, same.last) st.floor;
    top = rw (same.next, same.last) st.top;
    synced = within;
    header = rw same.head st.header;
    generation = rw same.head st.generation;
    end_is = rw (same.end, same.head) st.end_is;
    end_fits = rw same.end st.end_fits;
    buffer = rw same.buffer st.buffer;
    heads = rw (same.bytes, same.head, same.heads) st.heads;
    found = rw (same.bytes, same.head) (same.found st.found);
    mark = λ may unclosed. same.closing ∙ st.mark (sym same.writable ∙ may) (same.closed unclosed);
    no_group = rw same.writable st.no_group;
    there = rw (same.bytes, same.head, same.closing) st.there;
    count = rw (same.bytes, same.count) st.count;
    unmarked = rw (same.writable, same.bytes, same.closing, same.end, same.count, same.next) st.unmarked;
    shelf = rw (same.bytes, same.head) (shelf_on (image (log_disk s.log)) (λ f. IsFile (log_head s.log) f (st.groups ++ since)) _ _ (is_file image may_leave past s first since hard st) (shelf (st.groups ++ since)) st.shelf);
    kept = rw (same.writable, same.bytes, same.head) kept;
    fair = rw (same.writable, same.bytes, same.head) fair;
  }

  -- the heads in memory are those of its groups
  pub heads_stand : (s : HashStore D) (first : First) (since : List Group) (hard : ℕ) (st : HashStands image may_leave past s first since hard)
      → IfSome (image (log_disk s.log)) (λ f. HeadsAre (log_head s.log).p s.heads.items (blocks_of (log_head s.log) (st.groups ++ since)))
  heads_stand s first since hard st = heads_there (image (log_disk s.log)) (log_head s.log) s.heads.items (st.groups ++ since) st.heads (is_file image may_leave past s first since hard st)

  pub key_stands : (s : HashStore D) (first : First) (since : List Group) (hard : ℕ) (st : HashStands image may_leave past s first since hard)
      → IfSome (image (log_disk s.log)) (λ f. IsFound s.found (replay Hash (st.groups ++ since) []))
  key_stands s first since hard st = key_there (image (log_disk s.log)) (log_head s.log) s.found (st.groups ++ since) st.found (is_file image may_leave past s first since hard st)

  pub key_at : (s : HashStore D) (lent : D) (h : StaticHead) → IsWhole (HashStands image may_leave past) s → lent ≡ log_disk s.log → h ≡ log_head s.log → KnowsKey (image lent) h s.found
  key_at s lent h w at head = rw (at, head) w.3.found

  -- the file is as long as the log says
  file_end : (s : HashStore D) → IsWhole (HashStands image may_leave past) s → IfSome (image (log_disk s.log)) (λ f. length f ≡ log_end s.log)
  file_end s w =
      let st = w.3 in
      IfSome_then (image (log_disk s.log)) (is_file image may_leave past s w.0 w.1 w.2 st) (λ f file. (file_parts (log_head s.log) f (st.groups ++ w.1) file).1 ∙ sym st.end_is)

  -- what stands in memory, of a disk that was lent
  pub file_at : (s : HashStore D) (lent : D) (m : HeldFile) → IsWhole (HashStands image may_leave past) s → lent ≡ log_disk s.log → m.head ≡ log_head s.log → m.heads.now ≡ s.heads.items → m.end ≡ log_end s.log → KnowsFile (image lent) m
  file_at s lent m w at head heads end = record { heads_are = rw (at, head, heads) w.3.heads; end_is = rw (at, end) (file_end s w) }

  -- where the disk tells, the records are those of the groups
  pub map_is : (s : HashStore D) (first : First) (since : List Group) (hard : ℕ) → HashStands image may_leave past s first since hard → map_in image s ≡ option_map (λ f. replay Hash since first.records) (image (log_disk s.log))
  map_is s first since hard st = mapped_same (image (log_disk s.log)) (λ f. replay Hash (groups_in (log_head s.log) f) []) (replay Hash since first.records)
      (IfSome_then (image (log_disk s.log)) (is_file image may_leave past s first since hard st) (λ f file. ap (λ (gs : List Group). replay Hash gs []) (reads_back (log_head s.log) f (st.groups ++ since) file) ∙ records_are image may_leave past s first since hard st))

  -- what was told of the groups of a file, of a disk that was lent
  pub told_by : {B : Type 0} (s : HashStore D) (lent : D) (h : StaticHead) → IsWhole (HashStands image may_leave past) s → lent ≡ log_disk s.log → h ≡ log_head s.log → (g : StaticHead → List Group → B) (P : D → B → Type 0)
      → ((groups : List Group) → IfSome (image lent) (λ f. IsFile h f groups → P lent (g h groups)))
      → IfSome (option_map (λ f. g (log_head s.log) (groups_in (log_head s.log) f)) (image (log_disk s.log))) (P (log_disk s.log))
  told_by s lent h w at head g P told =
      let st = w.3 in
      let groups = st.groups ++ w.1 in
      let here = subst (λ (d : D). IfSome (image d) (λ f. IsFile (log_head s.log) f groups → P d (g (log_head s.log) groups))) at
      (subst (λ (k : StaticHead). IfSome (image lent) (λ f. IsFile k f groups → P lent (g k groups))) head (told groups)) in
      mapped (image (log_disk s.log)) (λ f. g (log_head s.log) (groups_in (log_head s.log) f)) (P (log_disk s.log))
      (told_file (image (log_disk s.log)) (log_head s.log) groups (λ gs. P (log_disk s.log) (g (log_head s.log) gs)) (is_file image may_leave past s w.0 w.1 w.2 st) here)

  -- a key that was looked up on a disk that was lent
  pub key_given : (s : HashStore D) (lent : D) (h : StaticHead) (key old new : List ℕ) (there : Bool) (k : FoundKey) → IsWhole (HashStands image may_leave past) s → lent ≡ log_disk s.log → h ≡ log_head s.log
      → ((groups : List Group) → IfSome (image lent) (λ f. IsFile h f groups → Gives (find key (replay Hash groups [])) old new there))
      → ((records : List Pair) → there ≡ is_some (find key records) → IsFound k records) → KnowsKey (image (log_disk s.log)) (log_head s.log) k
  key_given s lent h key old new there k w at head given found =
      IfSome_then (image (log_disk s.log))
      (unmapped (image (log_disk s.log)) (λ f. replay Hash (groups_in (log_head s.log) f) []) (λ m. Gives (find key m) old new there)
      (told_by s lent h w at head (λ h gs. replay Hash gs []) (λ d m. Gives (find key m) old new there) given))
      (λ f is. found (replay Hash (groups_in (log_head s.log) f) []) (gives_there (find key (replay Hash (groups_in (log_head s.log) f) [])) old new there is))

  -- the same, where it rests on the shelf
  pub told_with : {B : Type 0} (s : HashStore D) (lent : D) (h : StaticHead) → IsWhole (HashStands image may_leave past) s → lent ≡ log_disk s.log → h ≡ log_head s.log → (g : StaticHead → List Group → B) (P : B → Type 0)
      → ((groups : List Group) → IfSome (image lent) (λ f. IsFile h f groups → IsShelf h groups s.shelf → P (g h groups)))
      → IfSome (option_map (λ f. g (log_head s.log) (groups_in (log_head s.log) f)) (image (log_disk s.log))) P
  told_with s lent h w at head g P told =
      let st = w.3 in
      let groups = st.groups ++ w.1 in
      let here = subst (λ (d : D). IfSome (image d) (λ f. IsFile (log_head s.log) f groups → IsShelf (log_head s.log) groups s.shelf → P (g (log_head s.log) groups))) at
      (subst (λ (k : StaticHead). IfSome (image lent) (λ f. IsFile k f groups → IsShelf k groups s.shelf → P (g k groups))) head (told groups)) in
      mapped (image (log_disk s.log)) (λ f. g (log_head s.log) (groups_in (log_head s.log) f)) P
      (told_file (image (log_disk s.log)) (log_head s.log) groups (λ gs. P (g (log_head s.log) gs)) (is_file image may_leave past s w.0 w.1 w.2 st)
      (shelf_given (image (log_disk s.log)) (λ f. IsFile (log_head s.log) f groups) _ _ here st.shelf))

  pub shelf_at : (s : HashStore D) (o : Option Shelf) (lent : D) (h : StaticHead) → lent ≡ log_disk s.log → h ≡ log_head s.log → ((groups : List Group) → IfSome (image lent) (λ f. IsFile h f groups → IsShelf h groups s.shelf → IsShelf h groups o)) → KeepsShelf image s o
  shelf_at s o lent h at head told groups =
      subst (λ (d : D). IfSome (image d) (λ f. IsFile (log_head s.log) f groups → IsShelf (log_head s.log) groups s.shelf → IsShelf (log_head s.log) groups o)) at
      (subst (λ (k : StaticHead). IfSome (image lent) (λ f. IsFile k f groups → IsShelf k groups s.shelf → IsShelf k groups o)) head (told groups))

  pub counted : (s : HashStore D) → IsWhole (HashStands image may_leave past) s → IfSome (map_in image s) (λ m. s.count ≡ length m)
  counted s w =
      let st = w.3 in
      mapped (image (log_disk s.log)) (λ f. replay Hash (groups_in (log_head s.log) f) []) (λ m. s.count ≡ length m)
      (told_file (image (log_disk s.log)) (log_head s.log) (st.groups ++ w.1) (λ gs. s.count ≡ length (replay Hash gs [])) (is_file image may_leave past s w.0 w.1 w.2 st)
      (IfSome_then (image (log_disk s.log)) st.count (λ f count file. count)))

  module _ (moment : D → ℕ) (left_since : D → ℕ → List ℕ → Type 0) (left_with : D → ℕ → Past × List ℕ → Type 0) where
    -- a reading
    pub read_on : (s t : HashStore D) (first : First) (since : List Group) (hard : ℕ) → SameFile image s t → KeepsShelf image s t.shelf → OnlyReads may_leave moment left_since past left_with (log_disk s.log) (log_disk t.log)
        → HashStands image may_leave past s first since hard → HashStands image may_leave past t first since hard
    read_on s t first since hard same shelf still st =
        rested s t first since hard hard st same shelf st.synced (λ may. IfSome_then (image (log_disk s.log)) (st.kept may) (λ f kept c left. kept c (still.crash c left)))
        (λ may. IfSome_then (image (log_disk s.log)) (st.fair may) (λ f fair. subst (λ (p : Past). IsFairPast (log_head s.log) (st.groups ++ since) p) (sym still.past) fair))

    pub still_at : (lent old new : D) → lent ≡ old → OnlyReads may_leave moment left_since past left_with lent new → OnlyReads may_leave moment left_since past left_with old new
    still_at lent old new at still = subst (λ (d : D). OnlyReads may_leave moment left_since past left_with d new) at still

    pub still_on : (lent old new last : D) → lent ≡ old → last ≡ new → OnlyReads may_leave moment left_since past left_with lent new → OnlyReads may_leave moment left_since past left_with old last
    still_on lent old new last at same still = subst (λ (d : D). OnlyReads may_leave moment left_since past left_with old d) (sym same) (still_at lent old new at still)

    module _ (since_with : (d : D) (t : ℕ) (x : Past × List ℕ) → left_with d t x → left_since d t x.1) where
      -- what is safe stays so where the groups that were synchronised are kept, and the past stays fair
      pub safe_as : (s t : HashStore D) (since_when n : ℕ) (first : First) (since more : List Group) (hard : ℕ) → HashKeptSince image may_leave past moment left_since left_with s since_when n first since hard
          → log_head t.log ≡ log_head s.log → t.writable ≡ s.writable → is_some (image (log_disk t.log)) ≡ is_some (image (log_disk s.log)) → KeepsGroups may_leave moment left_since (log_head s.log) (groups_held first.held ++ take hard since) (log_disk s.log) (log_disk t.log)
          → (s.writable ≡ true → IfSome (image (log_disk s.log)) (λ f. KeepsFair past moment left_with (log_head s.log) (groups_held first.held ++ since) more (log_disk s.log) (log_disk t.log)))
          → AreGroups 0 (2 ^ 64) (groups_held first.held ++ (since ++ more)) → HashSafe image left_since left_with t since_when first (since ++ more) n
      safe_as s t since_when n first since more hard kept_since head writable told keeps fair_on legal =
          let st = kept_since.stands in
          let h : StaticHead = log_head s.log in
          let held : List Group = groups_held first.held in
          let o : Option (List ℕ) = image (log_disk s.log) in
          let new : Option (List ℕ) = image (log_disk t.log) in
          let within : n ≤ length (since ++ more) = omega (arith, kept_since.safe.within, length-append since more) in
          let can : t.writable ≡ true → s.writable ≡ true = λ may. sym writable ∙ may in
          let kept : t.writable ≡ true → IfSome new (λ f. (c : List ℕ) → left_since (log_disk t.log) since_when c → IsKept h (held ++ take n (since ++ more)) c) = λ may.
          carried_both o new told (kept_since.safe.kept (can may)) (kept_held image may_leave past s first since hard st (can may))
          (λ was kept c left. subst (λ (l : List Group). IsKept h (held ++ l) c) (sym (take-append-le n since more kept_since.safe.within))
          (elim (keeps.since kept since_when c kept_since.before left) [ inl before ↦ was c before | inr is ↦ kept_front h held since n hard c kept_since.least st.synced is ])) in
          let fair : t.writable ≡ true → IfSome new (λ f. (x : Past × List ℕ) → left_with (log_disk t.log) since_when x → IsFairPast h (held ++ (since ++ more)) x.0) = λ may.
          carried_both o new told (both_told o _ _ (kept_since.safe.fair (can may)) (fair_held image may_leave past s first since hard st (can may))) (fair_on (can may))
          (λ was keeps_fair x left. subst (λ (l : List Group). IsFairPast h l x.0) (append_assoc held since more)
          (elim (keeps_fair.since was.1 since_when x kept_since.before left) [ inl before ↦ fair_more h (held ++ since) more x.0 (was.0 x before) | inr is ↦ is ])) in
          record {
            within = within;
            each = λ may. rw head (fair_each new (left_since (log_disk t.log) since_when) (left_with (log_disk t.log) since_when) h held (since ++ more) n st.header st.generation within legal (since_with (log_disk t.log) since_when) (kept may) (fair may));
            fair = λ may. rw head (fair may);
            kept = λ may. rw head (kept may);
          }

      -- what stood does so on, where what it stands for now is known
      pub stood_as : (s t : HashStore D) (since_when n : ℕ) (first : First) (since more : List Group) (hard now : ℕ) → HashKeptSince image may_leave past moment left_since left_with s since_when n first since hard → HashStands image may_leave past t first (since ++ more) now → hard ≤ now
          → log_head t.log ≡ log_head s.log → t.writable ≡ s.writable → is_some (image (log_disk t.log)) ≡ is_some (image (log_disk s.log)) → KeepsGroups may_leave moment left_since (log_head s.log) (groups_held first.held ++ take hard since) (log_disk s.log) (log_disk t.log)
          → (s.writable ≡ true → IfSome (image (log_disk s.log)) (λ f. KeepsFair past moment left_with (log_head s.log) (groups_held first.held ++ since) more (log_disk s.log) (log_disk t.log)))
          → HashKeptSince image may_leave past moment left_since left_with t since_when n first (since ++ more) now
      stood_as s t since_when n first since more hard now st stands le head writable told keeps fair_on = record {
        stands = stands;
        safe = safe_as s t since_when n first since more hard st head writable told keeps fair_on (legal_held image may_leave past t first (since ++ more) now stands);
        least = omega (arith, st.least, le);
        before = omega (arith, st.before, keeps.later);
      }

      -- the same without a group
      pub safe_kept : (s t : HashStore D) (since_when n : ℕ) (first : First) (since : List Group) (hard : ℕ) → HashKeptSince image may_leave past moment left_since left_with s since_when n first since hard
          → log_head t.log ≡ log_head s.log → t.writable ≡ s.writable → is_some (image (log_disk t.log)) ≡ is_some (image (log_disk s.log)) → KeepsGroups may_leave moment left_since (log_head s.log) (groups_held first.held ++ take hard since) (log_disk s.log) (log_disk t.log)
          → (s.writable ≡ true → IfSome (image (log_disk s.log)) (λ f. KeepsFair past moment left_with (log_head s.log) (groups_held first.held ++ since) [] (log_disk s.log) (log_disk t.log)))
          → HashSafe image left_since left_with t since_when first (since ++ []) n
      safe_kept s t since_when n first since hard st head writable told keeps fair_on =
          safe_as s t since_when n first since [] hard st head writable told keeps fair_on
          (subst (λ (l : List Group). AreGroups 0 (2 ^ 64) (groups_held first.held ++ l)) (sym (append-nil since)) (legal_held image may_leave past s first since hard st.stands))

      pub stood_kept : (s t : HashStore D) (since_when n : ℕ) (first : First) (since : List Group) (hard now : ℕ) → HashKeptSince image may_leave past moment left_since left_with s since_when n first since hard → HashStands image may_leave past t first since now → hard ≤ now
          → log_head t.log ≡ log_head s.log → t.writable ≡ s.writable → is_some (image (log_disk t.log)) ≡ is_some (image (log_disk s.log)) → KeepsGroups may_leave moment left_since (log_head s.log) (groups_held first.held ++ take hard since) (log_disk s.log) (log_disk t.log)
          → (s.writable ≡ true → IfSome (image (log_disk s.log)) (λ f. KeepsFair past moment left_with (log_head s.log) (groups_held first.held ++ since) [] (log_disk s.log) (log_disk t.log)))
          → HashKeptSince image may_leave past moment left_since left_with t since_when n first since now
      stood_kept s t since_when n first since hard now st stands le head writable told keeps fair_on = record {
        stands = stands;
        safe = subst (λ (l : List Group). HashSafe image left_since left_with t since_when first l n) (append-nil since) (safe_kept s t since_when n first since hard st head writable told keeps fair_on);
        least = omega (arith, st.least, le);
        before = omega (arith, st.before, keeps.later);
      }

      pub stood_on : (s t : HashStore D) (since_when n : ℕ) (first : First) (since : List Group) (hard : ℕ) → SameFile image s t → KeepsShelf image s t.shelf → OnlyReads may_leave moment left_since past left_with (log_disk s.log) (log_disk t.log)
          → HashKeptSince image may_leave past moment left_since left_with s since_when n first since hard → HashKeptSince image may_leave past moment left_since left_with t since_when n first since hard
      stood_on s t since_when n first since hard same shelf still st =
          stood_kept s t since_when n first since hard hard st (read_on s t first since hard same shelf still st.stands) (omega arith) same.head same.writable (ap is_some same.bytes)
          (keeps_read may_leave moment left_since (log_head s.log) (groups_held first.held ++ take hard since) past left_with (log_disk s.log) (log_disk t.log) still)
          (λ may. always_told (image (log_disk s.log)) _ (fair_read past moment left_with (log_head s.log) may_leave left_since (groups_held first.held ++ since) (log_disk s.log) (log_disk t.log) still))
