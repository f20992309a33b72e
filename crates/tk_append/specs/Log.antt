-- Files as lists of groups.
use Rattle.std.specs.Prelude.{◌≡◌, ◌≢◌, ℕ, ◌+◌, ◌≤◌, List, [], ◌∷◌, length, drop, true, Result, Ok, Err, Option, Some, None}
use Rattle.tk_model.specs.Entries.{is_in_shard}
use Rattle.tk_model.specs.declared.record.ShardOf.{ShardOf}
use Rattle.tk_model.specs.declared.record.Change.{Change}
use Rattle.tk_model.specs.Records.{replay, AllFit, IsClearAlone}
use Rattle.tk_model.specs.declared.record.Order.TheVariants.{Hash}
use Rattle.tk_model.specs.declared.record.Pair.{Pair}
use Rattle.tk_model.specs.declared.record.Group.{Group}
use Rattle.tk_model.specs.declared.error.OpenError.{OpenError}
use Rattle.tk_model.specs.declared.error.OpenError.TheVariants as errors
use Rattle.tk_model.specs.declared.error.Unopened.{Unopened}
use Rattle.tk_block.specs.Text.{base_of, is_static}
use Rattle.tk_block.specs.Layout.{laid, links_of, end_of, texts, bodies_of, file_text, Placed}
use Rattle.tk_block.specs.declared.head.StaticHead.{StaticHead}
use Rattle.tk_append.specs.Chains.{HeadsAre}

-- groups that may follow one another in a file: each has changes that fit, a clear is alone, the numbers rise from the least on, and the next is above them
abbrev pub AreGroups : (least next : ℕ) → List Group → Type 0
AreGroups least next [] = least ≤ next
AreGroups least next (g ∷ gs) = (least ≤ g.number) × (g.changes ≢ []) × AllFit g.changes × IsClearAlone g.changes × AreGroups (g.number + 1) next gs

-- each change concerns this shard
abbrev pub AllIn : ShardOf → List Change → Type 0
AllIn shard [] = Unit {0}
AllIn shard (c ∷ cs) = (is_in_shard shard c ≡ true) × AllIn shard cs

abbrev pub AllInItsShard : ShardOf → List Group → Type 0
AllInItsShard shard [] = Unit {0}
AllInItsShard shard (g ∷ gs) = AllIn shard g.changes × AllInItsShard shard gs

-- the blocks of groups in a file of this header
abbrev pub blocks_of : StaticHead → List Group → List Placed
blocks_of h groups = laid (base_of h.p) (bodies_of groups)

-- the closed file of groups
abbrev pub closed_text : StaticHead → List Group → (next : ℕ) → List ℕ
closed_text h groups next = file_text h groups (length (replay Hash groups [])) next

-- a file has these groups from the records' base on
pub record HasGroups (h : StaticHead) (groups : List Group) (f : List ℕ) : Type 0 where
  pub size : length f ≡ end_of (base_of h.p) (bodies_of groups)
  pub blocks : drop (base_of h.p) f ≡ texts (blocks_of h groups) (links_of h.p [] (blocks_of h groups))

-- what was read of a file: its end, the records that its groups leave, the newest block of each bucket, and its next number
pub record IsRead (h : StaticHead) (end : ℕ) (records : List Pair) (heads : List ℕ) (next : ℕ) (groups : List Group) : Type 0 where
  pub head : is_static h ≡ true
  pub legal : AreGroups 0 next groups
  pub records_are : records ≡ replay Hash groups []
  pub heads_are : HeadsAre h.p heads (blocks_of h groups)
  pub end_is : end ≡ end_of (base_of h.p) (bodies_of groups)

-- the causes that speak of the file, against what fails first in it
abbrev pub TellsCause : OpenError → Option OpenError → Type 0
TellsCause errors.NotADatabase fault = fault ≡ Some errors.NotADatabase
TellsCause (errors.BrokenAt place) fault = fault ≡ Some (errors.BrokenAt place)
TellsCause errors.Fault fault = Unit {0}
TellsCause errors.NoMemory fault = Unit {0}

-- an opening's answer: Ok where nothing fails, and else what fails first, or a fault of the disk or want of memory
abbrev pub Tells : {T D : Type 0} → Result T (Unopened D) → Option OpenError → Type 0
Tells (Ok opened) fault = fault ≡ None
Tells (Err u) fault = TellsCause u.cause fault
