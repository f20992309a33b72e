-- A hash file as a store.
use Rattle.std.specs.Prelude.{◌≡◌, ◌≢◌, ◌⊎◌, ℕ, ◌+◌, ◌<◌, ◌≤◌, ◌^◌, ◌==◌, ◌&&◌, if◌then◌else◌, min, true, false, List, [], ◌++◌, length, take, MatchOption, Option, Some, None, IfSome}
use Rattle.std.specs.Option.{option_map}
use Rattle.tk_disk.specs.Past.{Past}
use Rattle.tk_disk.specs.Crash.{OnlyReads}
use Rattle.tk_model.specs.Records.{after, replay, AllFit, IsClearAlone}
use Rattle.tk_model.specs.declared.record.Order.TheVariants.{Hash}
use Rattle.tk_model.specs.declared.record.Group.{Group}
use Rattle.tk_model.specs.declared.record.Change.{Change}
use Rattle.tk_store.specs.Store.{StoreConstants, StoreView, First, Held, Groups, Blocks, Pages, Records, floor_after, extents_need}
use Rattle.tk_block.specs.Text.{static_text, base_of, is_static}
use Rattle.tk_block.specs.Blocks.{group_bodies}
use Rattle.tk_block.specs.Layout.{laid, links_of, end_of, bodies_of}
use Rattle.tk_block.specs.declared.closing.Closing.{Closing}
use Rattle.tk_block.specs.declared.head.StaticHead.{StaticHead}
use Rattle.tk_append.specs.Chains.{HeadsAre}
use Rattle.tk_append.specs.declared.log.GroupLog.{GroupLog}
use Rattle.tk_append.specs.Log.{AreGroups, blocks_of}
use Rattle.tk_append.specs.LogParts.{log_disk, log_head, log_end, open_mark, IsReservedText}
use Rattle.tk_append.specs.Restored.{groups_in, restored_groups, IsKept}
use Rattle.tk_append.specs.FairPast.{IsFairPast}
use Rattle.tk_append.specs.Untorn.{IsUntornBy}
use Rattle.tk_append.specs.FileText.{text_of, IsFile}
use Rattle.tk_hash.specs.Chain.{cost_in}
use Rattle.tk_hash.specs.Plan.{with_heads, FitHeads}
use Rattle.tk_hash.specs.Seek.{KnowsHeads, KnowsKey, IsShelf}
use Rattle.tk_hash.specs.declared.store.HashStore.{HashStore}
use Rattle.tk_hash.specs.declared.store.ReservedGroup.{ReservedGroup}

-- the opening of a file of groups
abbrev pub opening : List Group → First
opening groups = record { records = replay Hash groups []; held = Groups groups }

-- the groups at the opening
abbrev pub groups_held : Held → List Group
groups_held (Groups gs) = gs
groups_held (Blocks bs) = []
groups_held (Pages ps) = []
groups_held Records = []

abbrev pub floor_of : (next : ℕ) → Option ℕ → ℕ
floor_of next None = next
floor_of next (Some n) = n + 1

-- the next number of a closing part, where the file is closed
abbrev pub ended_with : Closing → Option ℕ
ended_with c = if c.size == 0 then None else Some c.next

-- an image restores to the first groups followed by a front of these, at least n of them
pub record RestoresTo (first groups : List Group) (n : ℕ) (c : List ℕ) : Type 0 where
  pub count : ℕ
  pub least : n ≤ count
  pub most : count ≤ length groups
  pub front : restored_groups c ≡ first ++ take count groups

-- a log over the closed file of these groups, with this closing part and these heads
pub record IsClosedLog {D : Type 0} (image : D → Option (List ℕ)) (log : GroupLog D) (closing : Closing) (heads : List ℕ) (groups : List Group) : Type 0 where
  pub header : is_static (log_head log) ≡ true
  pub generation : (log_head log).generation < 2 ^ 64
  pub legal : AreGroups 0 closing.next groups
  pub number : closing.next < 2 ^ 64
  pub size : closing.size ≡ log_end log
  pub fits : log_end log < 2 ^ 64
  pub count : closing.count ≡ length (replay Hash groups [])
  pub end_is : log_end log ≡ end_of (base_of (log_head log).p) (bodies_of groups)
  pub text : IfSome (image (log_disk log)) (λ f. f ≡ text_of (log_head log) closing groups)
  pub heads_are : HeadsAre (log_head log).p heads (blocks_of (log_head log) groups)

-- from one disk to the next: where every image has these groups, every image goes on to have them
pub record KeepsGroups {D : Type 0} (may_leave : D → List ℕ → Type 0) (moment : D → ℕ) (left_since : D → ℕ → List ℕ → Type 0) (h : StaticHead) (groups : List Group) (old new : D) : Type 0 where
  pub later : moment old ≤ moment new
  pub now : ((d : List ℕ) → may_leave old d → IsKept h groups d) → (c : List ℕ) → may_leave new c → IsKept h groups c
  pub since : ((d : List ℕ) → may_leave old d → IsKept h groups d) → (t : ℕ) (c : List ℕ) → t ≤ moment old → left_since new t c → left_since old t c ⊎ IsKept h groups c

module _ {D : Type 0} where
  -- the names that contracts call its parts
  abbrev pub hash_disk : HashStore D → D
  hash_disk s = log_disk s.log

  -- from one state to another the file was read at most
  pub record HashUntouched (image : D → Option (List ℕ)) (may_leave : D → List ℕ → Type 0) (past : D → Past) (moment : D → ℕ) (left_since : D → ℕ → List ℕ → Type 0) (left_with : D → ℕ → Past × List ℕ → Type 0) (old new : HashStore D) : Type 0 where
    pub same : image (hash_disk new) ≡ image (hash_disk old)
    pub still : OnlyReads may_leave moment left_since past left_with (hash_disk old) (hash_disk new)

  abbrev pub hash_head : HashStore D → StaticHead
  hash_head s = log_head s.log

  abbrev pub hash_closing : HashStore D → Closing
  hash_closing s = s.closing

  abbrev pub hash_constants : HashStore D → StoreConstants
  hash_constants s = record { order = Hash; limit = min s.limit (2 ^ 40); next = s.next; longest_value = 33554431; writable = s.writable; marks = false; extents = Some 1; header = static_text (log_head s.log); log = None }

  -- the records of the file, where the disk tells it
  abbrev pub map_in : (image : D → Option (List ℕ)) → HashStore D → Option (List (Rattle.tk_model.specs.declared.record.Pair.Pair))
  map_in image s = option_map (λ f. replay Hash (groups_in (log_head s.log) f) []) (image (log_disk s.log))

  abbrev pub hash_view : (image : D → Option (List ℕ)) → HashStore D → StoreView
  hash_view image s = record {
    map = map_in image s;
    size = log_end s.log;
    floor = floor_of s.next s.last;
    held_back = false;
    closed = s.closed;
    ended = if s.closed && s.writable then ended_with s.closing else None;
    cost = λ k. option_map (λ f. cost_in (log_head s.log) (groups_in (log_head s.log) f) k) (image (log_disk s.log));
    needs = λ cs. Some (extents_need (hash_constants s) 1 cs);
    log_size = 0;
  }

  -- what waits is a group of these changes behind any groups that the file may have: its links, the heads and the count of records after it
  pub record IsReservedGroup (image : D → Option (List ℕ)) (s : HashStore D) (cs : List Change) (g : ReservedGroup) : Type 0 where
    pub some : cs ≢ []
    pub heads : FitHeads (2 ^ (log_head s.log).p) g.heads
    pub links : List ℕ
    pub ready : IsReservedText s.log cs links
    pub ends : (number : ℕ) → end_of (log_end s.log) (group_bodies number cs) ≤ 2 ^ 40
    pub links_are : (number : ℕ) (groups : List Group) → IfSome (image (log_disk s.log)) (λ f. IsFile (log_head s.log) f groups
        → links ≡ links_of (log_head s.log).p (blocks_of (log_head s.log) groups) (laid (log_end s.log) (group_bodies number cs)))
    pub heads_are : (number : ℕ) (groups : List Group) → IfSome (image (log_disk s.log)) (λ f. IsFile (log_head s.log) f groups
        → HeadsAre (log_head s.log).p (with_heads g.heads s.heads.items) (blocks_of (log_head s.log) groups ++ laid (log_end s.log) (group_bodies number cs)))
    pub count_is : (groups : List Group) → IfSome (image (log_disk s.log)) (λ f. IsFile (log_head s.log) f groups → s.count ≡ length (replay Hash groups [])
        → g.count ≡ length (after Hash cs (replay Hash groups [])))

  pub record HashReserved (image : D → Option (List ℕ)) (s : HashStore D) (cs : List Change) : Type 0 where
    pub fit : AllFit cs
    pub alone : IsClearAlone cs
    pub may : s.writable ≡ false → cs ≡ []
    pub reserved_group : MatchOption s.reserved_group (cs ≡ []) (IsReservedGroup image s cs)

  pub record HashStands (image : D → Option (List ℕ)) (may_leave : D → List ℕ → Type 0) (past : D → Past) (s : HashStore D) (first : First) (since : List Group) (hard : ℕ) : Type 0 where
    pub groups : List Group
    pub held : first.held ≡ Groups groups
    pub records_first : first.records ≡ replay Hash groups []
    pub legal : AreGroups 0 s.next groups
    pub later : AreGroups s.next (floor_of s.next s.last) since
    pub floor : floor_of s.next s.last ≡ floor_after s.next since
    pub top : floor_of s.next s.last ≤ 2 ^ 64
    pub synced : hard ≤ length since
    pub header : is_static (log_head s.log) ≡ true
    pub generation : (log_head s.log).generation < 2 ^ 64
    pub end_is : log_end s.log ≡ end_of (base_of (log_head s.log).p) (bodies_of (groups ++ since))
    pub end_fits : log_end s.log < 2 ^ 64
    pub buffer : 131072 ≤ length s.buffer.items
    pub heads : KnowsHeads (image (log_disk s.log)) (log_head s.log) s.heads.items
    pub found : KnowsKey (image (log_disk s.log)) (log_head s.log) s.found
    -- a file that is written is marked as open until it is closed
    pub mark : s.writable ≡ true → s.closed ≡ false → s.closing ≡ open_mark
    -- a file that is read alone gets no group and keeps its closing part
    pub no_group : s.writable ≡ false → since ≡ []
    pub there : IfSome (image (log_disk s.log)) (λ f. f ≡ text_of (log_head s.log) s.closing (groups ++ since))
    pub count : IfSome (image (log_disk s.log)) (λ f. s.count ≡ length (replay Hash (groups ++ since) []))
    pub unmarked : s.writable ≡ false → IfSome (image (log_disk s.log)) (λ f. s.closing ≡ record { size = log_end s.log; count = s.count; next = s.next })
    pub shelf : IfSome (image (log_disk s.log)) (λ f. IsShelf (log_head s.log) (groups ++ since) s.shelf)
    -- a crash leaves the groups that were synchronised
    pub kept : s.writable ≡ true → IfSome (image (log_disk s.log)) (λ f. (c : List ℕ) → may_leave (log_disk s.log) c → IsKept (log_head s.log) (groups ++ take hard since) c)
    -- nothing was written since the last hard synchronisation but the groups at their places, heads and the closing part
    pub fair : s.writable ≡ true → IfSome (image (log_disk s.log)) (λ f. IsFairPast (log_head s.log) (groups ++ since) (past (log_disk s.log)))

  -- Of a file that was opened for writing, at each moment since the time: an image that is untorn by what had been written then
  -- restores to the groups of the opening and a front of those since, at least n of them.
  pub record HashSafe (image : D → Option (List ℕ)) (left_since : D → ℕ → List ℕ → Type 0) (left_with : D → ℕ → Past × List ℕ → Type 0) (s : HashStore D) (t : ℕ) (first : First) (since : List Group) (n : ℕ) : Type 0 where
    pub within : n ≤ length since
    pub each : s.writable ≡ true → IfSome (image (log_disk s.log)) (λ f. (x : Past × List ℕ) → left_with (log_disk s.log) t x → IsUntornBy (log_head s.log) x.0 x.1
        → RestoresTo (groups_held first.held) since n x.1)
    -- nothing had been written then but the groups at their places, heads and the closing part
    pub fair : s.writable ≡ true → IfSome (image (log_disk s.log)) (λ f. (x : Past × List ℕ) → left_with (log_disk s.log) t x → IsFairPast (log_head s.log) (groups_held first.held ++ since) x.0)
    -- each image since the time, untorn or not, has the header and the blocks of the groups of the opening and of the first n since
    pub kept : s.writable ≡ true → IfSome (image (log_disk s.log)) (λ f. (c : List ℕ) → left_since (log_disk s.log) t c → IsKept (log_head s.log) (groups_held first.held ++ take n since) c)

  pub record HashKeptSince (image : D → Option (List ℕ)) (may_leave : D → List ℕ → Type 0) (past : D → Past) (moment : D → ℕ) (left_since : D → ℕ → List ℕ → Type 0) (left_with : D → ℕ → Past × List ℕ → Type 0) (s : HashStore D) (t n : ℕ) (first : First) (since : List Group) (hard : ℕ) : Type 0 where
    pub stands : HashStands image may_leave past s first since hard
    pub safe : HashSafe image left_since left_with s t first since n
    pub least : n ≤ hard
    pub before : t ≤ moment (log_disk s.log)
