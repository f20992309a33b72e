-- The laws of records in memory with a file as a store.
use Rattle.std.specs.Prelude.{◌≡◌, ℕ, ◌≤◌, List, Option, IfSome, Some, None, false}
use Rattle.std.proofs.Common.{refl, ◌∙◌}
use Rattle.tk_model.specs.declared.record.Group.{Group}
use Rattle.tk_model.specs.declared.record.Change.{Change}
use Rattle.tk_model.specs.Records.{replay, Rising, AllHeld}
use Rattle.tk_store.specs.Store.{First, extents_need}
use Rattle.tk_mem.specs.TinyLaws.{tiny_values}
use Rattle.tk_mem.specs.TinyStored.{is_closed, ended_in, stored_constants, stored_view, StoredStands, StoredUntouched}
use Rattle.tk_mem.specs.declared.tiny_store.Stage.{Stage}
use Rattle.tk_mem.specs.declared.tiny_store.Stage.TheVariants.{Running, Closed, Ended}
use Rattle.tk_mem.specs.declared.tiny_store.TinyStore.{TinyStore}

unended_in : (g : Stage) → is_closed g ≡ false → ended_in g ≡ None
unended_in Running e = refl
unended_in Closed e = refl
unended_in (Ended next) e = absurd (cc)

module _ {D : Type 0} where
  pub stored_by_extents : (s : TinyStore D) (v : ℕ) (cs : List Change) → (stored_constants s).extents ≡ Some v → (stored_view s).needs cs ≡ Some (extents_need (stored_constants s) v cs)
  stored_by_extents s v cs e = cc

  pub stored_unended : (s : TinyStore D) → (stored_view s).closed ≡ false → (stored_view s).ended ≡ None
  stored_unended s unclosed = unended_in s.stage unclosed

  pub stored_values : (s : TinyStore D) → (16777215 ≤ (stored_constants s).longest_value) × ((stored_constants s).longest_value ≤ 33554431)
  stored_values s = tiny_values s.records

  pub stored_untouched_same : (s : TinyStore D) → StoredUntouched s s
  stored_untouched_same s = refl

  pub stored_untouched_then : (a b c : TinyStore D) → StoredUntouched a b → StoredUntouched b c → StoredUntouched a c
  stored_untouched_then a b c p q = q ∙ p

  module _ (image : D → Option (List ℕ)) (may_leave : D → List ℕ → Type 0) where
    pub stored_replays : (s : TinyStore D) (first : First) (since : List Group) (hard : ℕ) → StoredStands image may_leave s first since hard
        → IfSome (stored_view s).map (λ m. m ≡ replay (stored_constants s).order since first.records)
    stored_replays s first since hard st = st.records.map

    pub stored_rising : (s : TinyStore D) (first : First) (since : List Group) (hard : ℕ) → StoredStands image may_leave s first since hard → Rising (stored_constants s).order first.records
    stored_rising s first since hard st = st.records.rising

    pub stored_held : (s : TinyStore D) (first : First) (since : List Group) (hard : ℕ) → StoredStands image may_leave s first since hard → IfSome (stored_view s).map AllHeld
    stored_held s first since hard st = st.records.fit
