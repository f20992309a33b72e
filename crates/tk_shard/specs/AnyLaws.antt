-- The laws of a store of any kind, each that of its own kind.
use Rattle.std.specs.Prelude.{◌≡◌, ◌≤◌, ◌<◌, ℕ, true, false, List, ◌++◌, length, Option, Some, None, is_some, IfSome}
use Rattle.tk_disk.specs.Past.{Past}
use Rattle.tk_model.specs.declared.record.Group.{Group}
use Rattle.tk_model.specs.declared.record.Change.{Change}
use Rattle.tk_model.specs.Records.{replay, Rising, AllHeld}
use Rattle.tk_store.specs.Store.{First, extents_need, floor_after}
use Rattle.tk_hash.specs.HashLaws.{hash_replays, hash_rising, hash_held, hash_stood_now, hash_stood_less, hash_safe_less, hash_by_extents, hash_unended, hash_values, hash_untouched_same, hash_untouched_then}
use Rattle.tk_mem.specs.TinyStoredLaws.{stored_replays, stored_rising, stored_held, stored_by_extents, stored_unended, stored_values, stored_untouched_same, stored_untouched_then}
use Rattle.tk_shard.specs.AnyStore.{any_constants, any_view, any_moment, AnyStands, AnySafe, AnyKeptSince, AnyUntouched}
use Rattle.tk_shard.specs.declared.any_store.AnyStore.{AnyStore}
use Rattle.tk_shard.specs.declared.any_store.AnyStore.TheVariants.{Hash, Tiny}

module _ {D : Type 0} where
  pub any_values : (s : AnyStore D) → (16777215 ≤ (any_constants s).longest_value) × ((any_constants s).longest_value ≤ 33554431)
  any_values (Hash s) = hash_values s
  any_values (Tiny s) = stored_values s

  module _ (image : D → Option (List ℕ)) where
    pub any_by_extents : (s : AnyStore D) (v : ℕ) (cs : List Change) → (any_constants s).extents ≡ Some v → (any_view image s).needs cs ≡ Some (extents_need (any_constants s) v cs)
    any_by_extents (Hash s) = hash_by_extents image s
    any_by_extents (Tiny s) = stored_by_extents s

    pub any_unended : (s : AnyStore D) → (any_view image s).closed ≡ false → (any_view image s).ended ≡ None
    any_unended (Hash s) = hash_unended image s
    any_unended (Tiny s) = stored_unended s

    pub any_tells_need : (s : AnyStore D) (cs : List Change) → is_some (any_view image s).map ≡ true → is_some ((any_view image s).needs cs) ≡ true
    any_tells_need (Hash s) cs told = cc
    any_tells_need (Tiny s) cs told = cc

    module _ (left_since : D → ℕ → List ℕ → Type 0) (left_with : D → ℕ → Past × List ℕ → Type 0) where
      pub any_safe_less : (s : AnyStore D) (t : ℕ) (first : First) (since more : List Group) (m n : ℕ) → m ≤ n → AnySafe image left_since left_with s t first since n → AnySafe image left_since left_with s t first (since ++ more) m
      any_safe_less (Hash s) t first since more m n less safe = hash_safe_less image left_since left_with s t first since more m n less safe
      any_safe_less (Tiny s) t first since more m n less safe = tt

    module _ (may_leave : D → List ℕ → Type 0) (past : D → Past) where
      pub any_replays : (s : AnyStore D) (first : First) (since : List Group) (hard : ℕ) → AnyStands image may_leave past s first since hard → IfSome (any_view image s).map (λ m. m ≡ replay (any_constants s).order since first.records)
      any_replays (Hash s) = hash_replays image may_leave past s
      any_replays (Tiny s) = stored_replays image may_leave s

      pub any_rising : (s : AnyStore D) (first : First) (since : List Group) (hard : ℕ) → AnyStands image may_leave past s first since hard → Rising (any_constants s).order first.records
      any_rising (Hash s) = hash_rising image may_leave past s
      any_rising (Tiny s) = stored_rising image may_leave s

      pub any_held : (s : AnyStore D) (first : First) (since : List Group) (hard : ℕ) → AnyStands image may_leave past s first since hard → IfSome (any_view image s).map AllHeld
      any_held (Hash s) = hash_held image may_leave past s
      any_held (Tiny s) = stored_held image may_leave s

      pub any_numbered : (s : AnyStore D) (first : First) (since : List Group) (hard : ℕ) → AnyStands image may_leave past s first since hard → (any_view image s).floor ≡ floor_after (any_constants s).next since
      any_numbered (Hash s) first since hard st = st.floor
      any_numbered (Tiny s) first since hard st = st.records.floor

      pub any_synced : (s : AnyStore D) (first : First) (since : List Group) (hard : ℕ) → AnyStands image may_leave past s first since hard → hard ≤ length since
      any_synced (Hash s) first since hard st = st.synced
      any_synced (Tiny s) first since hard st = st.records.synced

      module _ (moment : D → ℕ) (left_since : D → ℕ → List ℕ → Type 0) (left_with : D → ℕ → Past × List ℕ → Type 0) where
        pub any_stood_now : ((d : D) (c : List ℕ) → left_since d (moment d) c → may_leave d c) → ((d : D) (x : Past × List ℕ) → left_with d (moment d) x → (x.0 ≡ past d) × may_leave d x.1)
            → ((d : D) (t : ℕ) (x : Past × List ℕ) → left_with d t x → left_since d t x.1)
            → (s : AnyStore D) (first : First) (since : List Group) (hard : ℕ) → AnyStands image may_leave past s first since hard
            → AnyKeptSince image may_leave past moment left_since left_with s (any_moment moment s) hard first since hard
        any_stood_now only with back (Hash s) first since hard st = hash_stood_now image may_leave past moment left_since left_with only with back s first since hard st
        any_stood_now only with back (Tiny s) first since hard st = st

        pub any_stood_less : (s : AnyStore D) (t m n : ℕ) (first : First) (since : List Group) (hard : ℕ) → m ≤ n → AnyKeptSince image may_leave past moment left_since left_with s t n first since hard
            → AnyKeptSince image may_leave past moment left_since left_with s t m first since hard
        any_stood_less (Hash s) t m n first since hard le st = hash_stood_less image left_since left_with may_leave past moment s t m n first since hard le st
        any_stood_less (Tiny s) t m n first since hard le st = st

        pub any_stood_stands : (s : AnyStore D) (t n : ℕ) (first : First) (since : List Group) (hard : ℕ) → AnyKeptSince image may_leave past moment left_since left_with s t n first since hard → AnyStands image may_leave past s first since hard
        any_stood_stands (Hash s) t n first since hard st = st.stands
        any_stood_stands (Tiny s) t n first since hard st = st

        pub any_stood_safe : (s : AnyStore D) (t n : ℕ) (first : First) (since : List Group) (hard : ℕ) → AnyKeptSince image may_leave past moment left_since left_with s t n first since hard → AnySafe image left_since left_with s t first since n
        any_stood_safe (Hash s) t n first since hard st = st.safe
        any_stood_safe (Tiny s) t n first since hard st = tt

        pub any_untouched_same : (s : AnyStore D) → AnyUntouched image may_leave past moment left_since left_with s s
        any_untouched_same (Hash s) = hash_untouched_same image may_leave past moment left_since left_with s
        any_untouched_same (Tiny s) = stored_untouched_same s

        pub any_untouched_then : ((disk : D) (t : ℕ) (c : List ℕ) → t ≤ moment disk → may_leave disk c → left_since disk t c)
            → ((disk : D) (t : ℕ) (c : List ℕ) → t ≤ moment disk → may_leave disk c → left_with disk t (past disk, c)) → (a b c : AnyStore D)
            → AnyUntouched image may_leave past moment left_since left_with a b → AnyUntouched image may_leave past moment left_since left_with b c → AnyUntouched image may_leave past moment left_since left_with a c
        any_untouched_then now with (Hash a) (Hash b) (Hash c) first second = hash_untouched_then image may_leave past moment left_since left_with now with a b c first second
        any_untouched_then now with (Hash a) (Hash b) (Tiny c) first second = absurd second
        any_untouched_then now with (Hash a) (Tiny b) c first second = absurd first
        any_untouched_then now with (Tiny a) (Hash b) c first second = absurd first
        any_untouched_then now with (Tiny a) (Tiny b) (Hash c) first second = absurd second
        any_untouched_then now with (Tiny a) (Tiny b) (Tiny c) first second = stored_untouched_then a b c first second
