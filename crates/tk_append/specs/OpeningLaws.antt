-- Which files are opened.
use Rattle.std.specs.Prelude.{◌≡◌, ℕ, ◌^◌, ◌<◌, ◌≤◌, ◌==◌, Bool, true, List, length, slice_index, None}
use Rattle.std.specs.List.{list_any}
use Rattle.tk_model.specs.declared.record.ShardOf.{ShardOf}
use Rattle.tk_model.specs.declared.record.Group.{Group}
use Rattle.tk_block.specs.Text.{is_static, base_of}
use Rattle.tk_block.specs.Layout.{bodies_of, end_of}
use Rattle.tk_block.specs.declared.head.StaticHead.{StaticHead}
use Rattle.tk_append.specs.Log.{AreGroups, AllInItsShard, closed_text}
use Rattle.tk_append.specs.Opening.{first_fault}

-- a header and groups that a file can hold, of a kind that is asked for
pub record MayOpen (kinds : List ℕ) (writable : Bool) (shard : ShardOf) (h : StaticHead) (groups : List Group) (next : ℕ) : Type 0 where
  pub head : is_static h ≡ true
  pub generation : h.generation < 2 ^ 64
  pub kind : list_any (λ k. k == h.kind) kinds ≡ true
  pub legal : AreGroups 0 next groups
  pub in_its_shard : h.kind ≡ 1 → AllInItsShard shard groups
  pub size : end_of (base_of h.p) (bodies_of groups) < 2 ^ 64
  pub number : next < 2 ^ 64
  pub last : writable ≡ true → next ≤ 2 ^ 62

-- nothing fails in the closed file of such groups
abbrev pub OpensClosed : Type 0
OpensClosed =
    (kinds : List ℕ) (writable : Bool) (shard : ShardOf) (h : StaticHead) (groups : List Group) (next : ℕ) → MayOpen kinds writable shard h groups next
    → first_fault kinds writable shard (closed_text h groups next) ≡ None

-- a closed file of groups that may be opened
pub record IsClosedFile (kinds : List ℕ) (writable : Bool) (shard : ShardOf) (f : List ℕ) : Type 0 where
  pub h : StaticHead
  pub groups : List Group
  pub next : ℕ
  pub may : MayOpen kinds writable shard h groups next
  pub text : f ≡ closed_text h groups next

-- bytes in which nothing fails are such a file
abbrev pub OpensOnlyClosed : Type 0
OpensOnlyClosed =
    (kinds : List ℕ) (writable : Bool) (shard : ShardOf) (f : List ℕ) → ((i : ℕ) → i < length f → slice_index f i < 256) → first_fault kinds writable shard f ≡ None → IsClosedFile kinds writable shard f
