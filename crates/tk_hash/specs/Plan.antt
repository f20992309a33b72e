-- New heads of buckets.
use Rattle.std.specs.Prelude.{◌≡◌, ℕ, ◌+◌, ◌-◌, Bool, not, Some, None, ◌*◌, ◌<◌, ◌^◌, List, [], ◌∷◌, length, replicate, Option, if◌then◌else◌, ◌==◌}
use Rattle.std.specs.Option.{is_some, unwrap_or}
use Rattle.std.specs.Ordering.{nat_cmp}
use Rattle.std.specs.BTreeMap.{BTreeMap, get}
use Rattle.std.proofs.Math.ListN.{set}
use Rattle.tk_model.specs.declared.record.Order.TheVariants.{Hash}
use Rattle.tk_model.specs.declared.record.Pair.{Pair}
use Rattle.tk_model.specs.declared.record.Group.{Group}
use Rattle.tk_model.specs.declared.record.Change.{Change}
use Rattle.tk_model.specs.declared.record.Change.TheVariants as changes
use Rattle.tk_model.specs.Records.{find, after, Rising}
use Rattle.tk_block.specs.Sizes.{heads_place, cell_size}
use Rattle.tk_block.specs.Blocks.{is_nil}
use Rattle.tk_disk.specs.Past.{Past}
use Rattle.tk_disk.specs.Crash.{Torn, Follows, LeavesOnly}
use Rattle.tk_append.specs.declared.log.GroupLog.{GroupLog}
use Rattle.tk_append.specs.LogParts.{log_disk, log_head, log_end}
use Rattle.tk_hash.specs.Fair.{KeepsFair}
use Rattle.tk_hash.specs.declared.plan.NewHead.{NewHead}
use Rattle.tk_hash.specs.declared.plan.NewHeads.{NewHeads}
use Rattle.tk_hash.specs.declared.plan.NewHeads.TheVariants.{Cleared, Renewed}

-- the heads with these in place of theirs
abbrev pub with_new : List NewHead → List ℕ → List ℕ
with_new [] heads = heads
with_new (n ∷ ns) heads = with_new ns (set heads n.bucket n.place)

abbrev pub with_heads : NewHeads → List ℕ → List ℕ
with_heads Cleared heads = replicate (length heads) 0
with_heads (Renewed ns) heads = with_new ns.items heads

abbrev pub AllBelow : (number : ℕ) → List NewHead → Type 0
AllBelow number [] = Unit {0}
AllBelow number (n ∷ ns) = (n.bucket < number) × AllBelow number ns

-- each is the head of one of so many buckets
abbrev pub FitHeads : (number : ℕ) → NewHeads → Type 0
FitHeads number Cleared = Unit {0}
FitHeads number (Renewed ns) = AllBelow number ns.items

-- what writes of heads leave as it was, and what a crash may leave: what it did before, but for the heads
pub record Puts {D : Type 0} (image : D → Option (List ℕ)) (may_leave : D → List ℕ → Type 0) (past : D → Past) (moment : D → ℕ) (left_since : D → ℕ → List ℕ → Type 0) (left_with : D → ℕ → Past × List ℕ → Type 0) (taken : D → ℕ) (old new : GroupLog D) : Type 0 where
  pub head : log_head new ≡ log_head old
  pub end : log_end new ≡ log_end old
  pub told : is_some (image (log_disk new)) ≡ is_some (image (log_disk old))
  pub taken_same : taken (log_disk new) ≡ taken (log_disk old)
  pub crash : Follows (Torn heads_place (cell_size * 2 ^ (log_head old).p)) (may_leave (log_disk old)) (may_leave (log_disk new))
  pub time : LeavesOnly moment left_since (log_disk old) (log_disk new) (λ c. (d : List ℕ) × may_leave (log_disk old) d × Torn heads_place (cell_size * 2 ^ (log_head old).p) d c)
  -- heads alone were written
  pub fair : (groups : List Group) → KeepsFair past moment left_with (log_head old) groups [] (log_disk old) (log_disk new)

-- the newest of these places in a bucket; before any, the place that was found
abbrev pub placed_in : List NewHead → (bucket found : ℕ) → ℕ
placed_in [] bucket found = found
placed_in (n ∷ ns) bucket found = placed_in ns bucket (if n.bucket == bucket then n.place else found)

-- the map has the newest place of each bucket
abbrev pub IsNewest : BTreeMap ℕ ℕ → List NewHead → Type 0
IsNewest newest heads = (bucket found : ℕ) → unwrap_or (get nat_cmp newest bucket) found ≡ placed_in heads bucket found

-- the mark of a change's key: a byte where the key is there behind it
abbrev pub mark_in : Change → Pair
mark_in (changes.Put p) = record { key = p.key; value = 1 ∷ [] }
mark_in (changes.Drop k) = record { key = k; value = [] }
mark_in changes.Clear = record { key = []; value = [] }

-- a key is there by its mark, or else as it was
abbrev pub told_there : (mark : Option (List ℕ)) → (was : Bool) → Bool
told_there None was = was
told_there (Some v) was = not (is_nil v)

-- the marks tell of each key whether a record has it behind these changes, whatever the records were before
abbrev pub TellThere : List Change → (marks : List Pair) → Type 0
TellThere cs marks = (k : List ℕ) (m : List Pair) → Rising Hash m → told_there (find k marks) (is_some (find k m)) ≡ is_some (find k (after Hash cs m))
