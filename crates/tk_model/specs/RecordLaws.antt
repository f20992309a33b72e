-- What changes and calls keep of records in order.
use Rattle.std.specs.Prelude.{◌≡◌, ℕ, ◌+◌, true, false, List, [], ◌∷◌, ◌++◌, length, filter, Some, None}
use Rattle.tk_model.specs.Orders.{same_bytes}
use Rattle.tk_model.specs.Records.{find, put, without, after, replay, Rising, AllFit, AllHeld, IsClearAlone}
use Rattle.tk_model.specs.Entries.{is_legal, after_entry, replay_entries, changes_of, shard_records, is_in_shard, group_of, parts}
use Rattle.tk_model.specs.declared.record.Order.{Order}
use Rattle.tk_model.specs.declared.record.Pair.{Pair}
use Rattle.tk_model.specs.declared.record.Group.{Group}
use Rattle.tk_model.specs.declared.record.Entry.{Entry}
use Rattle.tk_model.specs.declared.record.ShardOf.{ShardOf}

-- a value that is put is found, and every other key keeps its own
pub record Finds (o : Order) : Type 0 where
  pub put_same : (new : Pair) (m : List Pair) → find new.key (put o new m) ≡ Some new.value
  pub put_other : (k : List ℕ) (new : Pair) (m : List Pair) → same_bytes k new.key ≡ false → find k (put o new m) ≡ find k m
  pub dropped_same : (k : List ℕ) (m : List Pair) → Rising o m → find k (without k m) ≡ None
  pub dropped_other : (j k : List ℕ) (m : List Pair) → same_bytes j k ≡ false → find j (without k m) ≡ find j m

-- keys go on rising
pub record KeepsRising (o : Order) : Type 0 where
  pub groups : (gs : List Group) (m : List Pair) → Rising o m → Rising o (replay o gs m)
  pub calls : (es : List Entry) (m : List Pair) → Rising o m → Rising o (replay_entries o es m)

-- records in order are the same where the same is found in them
pub record FoundAlike (o : Order) : Type 0 where
  pub same : (m n : List Pair) → Rising o m → Rising o n → ((k : List ℕ) → find k m ≡ find k n) → m ≡ n

-- the net changes of a call lead to the records after it
pub record ChangesReach (o : Order) : Type 0 where
  pub net : (e : Entry) (m : List Pair) → Rising o m → after o (changes_of o m e) m ≡ after_entry o e m

-- the groups of a shard lead to its records, and each call adds its own
pub record PartsReach (o : Order) : Type 0 where
  pub shard : (s : ShardOf) (n : ℕ) (m : List Pair) (es : List Entry) → Rising o m → replay o (parts o s n m es) (shard_records s m) ≡ shard_records s (replay_entries o es m)
  pub more : (s : ShardOf) (n : ℕ) (m : List Pair) (es : List Entry) (e : Entry)
      → parts o s n m (es ++ e ∷ []) ≡ parts o s n m es ++ group_of (n + length es) (filter (is_in_shard s) (changes_of o (replay_entries o es m) e))

-- keys and values stay within what a file can hold, and a clear is alone
pub record KeepsLimits (o : Order) : Type 0 where
  pub held : (e : Entry) (m : List Pair) → is_legal o m e ≡ true → AllHeld m → AllHeld (after_entry o e m)
  pub fit : (e : Entry) (m : List Pair) → is_legal o m e ≡ true → AllHeld m → AllFit (changes_of o m e)
  pub lone : (e : Entry) (m : List Pair) → is_legal o m e ≡ true → AllHeld m → IsClearAlone (changes_of o m e)
