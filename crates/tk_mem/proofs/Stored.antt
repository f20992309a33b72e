-- How records in memory with a file go on as a store.
use Rattle.std.proofs.Common.{◌≡◌, ◌⊎◌, inl, inr, ℕ, ◌+◌, ◌-◌, ◌<◌, ◌≤◌, ◌^◌, min, Bool, true, false, List, [], ◌∷◌, ◌++◌, length, refl, sym, ap, subst, ◌∙◌, arith}
use Rattle.std.specs.Prelude.{Option, Some, None, IfSome, nat_lt, ◌&&◌, not, ◌==◌}
use Rattle.std.specs.Option.{option_map}
use Rattle.std.proofs.lemmas.List.{append-nil}
use Rattle.std.proofs.lemmas.Bool.{cases_lt}
use Rattle.std.proofs.lemmas.Bool.Decides.{nat_tests}
use Rattle.tk_disk.specs.Crash.{Only}
use Rattle.tk_flat.specs.Flat.{flat_text}
use Rattle.tk_model.specs.Records.{after, replay, Rising, AllHeld}
use Rattle.tk_model.specs.declared.record.Order.TheVariants.{Hash}
use Rattle.tk_model.specs.declared.record.Pair.{Pair}
use Rattle.tk_model.specs.declared.record.Group.{Group}
use Rattle.tk_model.specs.declared.record.Change.{Change}
use Rattle.tk_model.specs.declared.record.ShardOf.{ShardOf}
use Rattle.tk_store.specs.Store.{StoreView, First, Records, HasRoom, IsWhole, Keeps, OnlyLooks, groups_made_by, is_over}
use Rattle.tk_store.proofs.Mem.{replay_more}
use Rattle.tk_mem.specs.Undo.{text_size}
use Rattle.tk_mem.specs.Tiny.{TinyStands, tiny_constants, tiny_view}
use Rattle.tk_mem.specs.TinyFile.{IsAccepted}
use Rattle.tk_mem.specs.TinyStored.{stored_disk, stored_constants, stored_view, opening_of, is_closed, ended_in, IsOpeningOf, FitsFile, HoldsText, StoredReserved, StoredStands, StoredUntouched}
use Rattle.tk_mem.specs.declared.tiny_records.TinyRecords.{TinyRecords}
use Rattle.tk_mem.specs.declared.tiny_store.Stage.{Stage}
use Rattle.tk_mem.specs.declared.tiny_store.Stage.TheVariants.{Running, Closed, Ended}
use Rattle.tk_mem.specs.declared.tiny_store.TinyStore.{TinyStore}

opened_text : (shard : ShardOf) (writable : Bool) (m : List Pair) (image : Option (List ℕ)) → IfSome image (λ f. IsAccepted shard writable f m) → IfSome image (IsOpeningOf m)
opened_text shard writable m None accepted = tt
opened_text shard writable m (Some f) (inl file) = inl file.spelled
opened_text shard writable m (Some f) (inr new) = inr (new.0.0, new.1)

-- records that stand for those of a text stand for their own
stands_again : (s : TinyRecords) (m : List Pair) → TinyStands s (record { records = m; held = Records }) [] 0 → TinyStands s (record { records = s.map.pairs; held = Records }) [] 0
stands_again s m st = record {
  map = refl;
  fit = st.fit;
  rising = subst (Rising Hash) (sym st.map) st.rising;
  floor = st.floor;
  synced = st.synced;
  held = refl;
}

-- a group that has room fits a file
room_fits : (size need limit : ℕ) (cs : List Change) → limit ≤ 2 ^ 40 → is_over size need limit cs ≡ false → (cs ≡ []) ⊎ (size + need ≤ 2 ^ 40)
room_fits size need limit [] low room = inl refl
room_fits size need limit (c ∷ cs) low room = inr (by (nat_lt limit (size + need)) refl room)
  where
    by : (b : Bool) → nat_lt limit (size + need) ≡ b → (b && not (false && (need == 0))) ≡ false → size + need ≤ 2 ^ 40
    by true over room = absurd (cc)
    by false over room = grind (arith, nat_tests)

pub reserved_fits : (s : TinyRecords) (cs : List Change) → HasRoom (tiny_constants s) (tiny_view s) cs → (cs ≡ []) ⊎ FitsFile (after Hash cs s.map.pairs)
reserved_fits s cs room = elim (room_fits (text_size s.map.pairs) (text_size (after Hash cs s.map.pairs) - text_size s.map.pairs) (min s.limit (2 ^ 40)) cs (omega arith) room.store) [
  | inl none ↦ inl none
  | inr fits ↦ inr (omega (arith, fits))
]

module _ {D : Type 0} (image : D → Option (List ℕ)) (may_leave : D → List ℕ → Type 0) where
  -- the records alone stand for the same
  pub inside : (s : TinyStore D) → IsWhole (StoredStands image may_leave) s → IsWhole TinyStands s.records
  inside s (first, since, hard, st) = (first, since, hard, st.records)

  pub open_inside : (s : TinyStore D) → IsWhole (StoredStands image may_leave) s → s.records.closed ≡ false
  open_inside s (first, since, hard, st) = st.unclosed

  pub held_inside : (s : TinyStore D) → IsWhole (StoredStands image may_leave) s → AllHeld s.records.map.pairs
  held_inside s (first, since, hard, st) = st.records.fit

  -- what goes on where the file and what was ended stay
  pub goes_on : (s t : TinyStore D) → Keeps TinyStands s.records t.records → t.records.closed ≡ s.records.closed → t.disk ≡ s.disk → ended_in t.stage ≡ ended_in s.stage → Keeps (StoredStands image may_leave) s t
  goes_on s t keeps unclosed disk ended first since hard st = record {
    records = keeps first since hard st.records;
    unclosed = unclosed ∙ st.unclosed;
    fits = st.fits;
    file = subst (λ (d : D). HoldsText image may_leave (ended_in t.stage) first.records (replay Hash since first.records) d) (sym disk)
        (subst (λ (o : Option ℕ). HoldsText image may_leave o first.records (replay Hash since first.records) s.disk) (sym ended) st.file);
  }

  pub looked : (taken : D → ℕ) (s t : TinyStore D)
      → OnlyLooks tiny_constants tiny_view TinyStands (λ (r : TinyRecords) (u n : ℕ). TinyStands r) (λ (old new : TinyRecords). Unit {0}) (λ (r : TinyRecords). 0) (λ (r : TinyRecords). 0) s.records t.records
      → t.disk ≡ s.disk → t.stage ≡ s.stage
      → OnlyLooks stored_constants stored_view (StoredStands image may_leave) (λ (r : TinyStore D) (u n : ℕ). StoredStands image may_leave r) StoredUntouched (λ (r : TinyStore D). 0) (λ (r : TinyStore D). taken (stored_disk r)) s t
  looked taken s t looks disk stage =
      let view : tiny_view t.records ≡ tiny_view s.records = looks.same_shown in
      let keeps = goes_on s t looks.keeps (ap (λ (v : StoreView). v.closed) view) disk (ap ended_in stage) in
      record {
        same_nature = looks.same_nature;
        same_shown = same_view s t view stage;
        keeps = keeps;
        keeps_since = λ u n. keeps;
        writes_nothing = disk;
        later = omega arith;
        more_taken = rw disk (omega arith);
      }
    where
      with_stage : Stage → StoreView → StoreView
      with_stage g v = record { map = v.map; size = v.size; floor = v.floor; held_back = false; closed = is_closed g; ended = ended_in g; cost = λ k. None; needs = v.needs; log_size = 0 }

      same_view : (s t : TinyStore D) → tiny_view t.records ≡ tiny_view s.records → t.stage ≡ s.stage → stored_view t ≡ stored_view s
      same_view s t view stage = ap (λ (v : StoreView). with_stage t.stage v) view ∙ ap (λ (g : Stage). with_stage g (tiny_view s.records)) stage

  -- a store that was loaded
  pub loaded : (s : TinyStore D) (shard : ShardOf) (writable : Bool) (m : List Pair) → TinyStands s.records (record { records = m; held = Records }) [] 0 → s.records.closed ≡ false → s.stage ≡ Running
      → IfSome (image s.disk) (λ f. IsAccepted shard writable f m) → StoredStands image may_leave s (opening_of s) [] 0
  loaded s shard writable m st unclosed running accepted = record {
    records = stands_again s.records m st;
    unclosed = unclosed;
    fits = inl refl;
    file = subst (λ (g : Stage). HoldsText image may_leave (ended_in g) s.records.map.pairs s.records.map.pairs s.disk) (sym running)
        (subst (λ (l : List Pair). IfSome (image s.disk) (IsOpeningOf l)) (sym st.map) (opened_text shard writable m (image s.disk) accepted));
  }

  -- a group was made
  pub made : (s t : TinyStore D) (n : ℕ) (cs : List Change) (first : First) (since : List Group) (hard : ℕ) → StoredReserved s cs → StoredStands image may_leave s first since hard
      → TinyStands t.records first (since ++ groups_made_by (tiny_constants s.records) n cs) hard → t.records.closed ≡ s.records.closed → t.disk ≡ s.disk → s.stage ≡ Running → t.stage ≡ Running
      → StoredStands image may_leave t first (since ++ groups_made_by (tiny_constants s.records) n cs) hard
  made s t n [] first since hard p st stands unclosed disk was stage = record {
    records = stands;
    unclosed = unclosed ∙ st.unclosed;
    fits = subst (λ (l : List Group). (l ≡ []) ⊎ FitsFile (replay Hash l first.records)) (sym (append-nil since)) st.fits;
    file = running_file first.records (replay Hash since first.records) (replay Hash (since ++ []) first.records) st.file;
  }
    where
      running_file : (first now later : List Pair) → HoldsText image may_leave (ended_in s.stage) first now s.disk → HoldsText image may_leave (ended_in t.stage) first later t.disk
      running_file first now later holds = rw (stage, disk) (subst (λ (g : Stage). HoldsText image may_leave (ended_in g) first now s.disk) was holds)
  made s t n (c ∷ cs) first since hard p st stands unclosed disk was stage = record {
    records = stands;
    unclosed = unclosed ∙ st.unclosed;
    fits = elim p.fits [
      | inl none ↦ absurd (cc)
      | inr fits ↦ inr (rw (replay_more Hash since (record { number = n; changes = c ∷ cs }) first.records, sym st.records.map) fits)
    ];
    file = running_file first.records (replay Hash since first.records) (replay Hash (since ++ record { number = n; changes = c ∷ cs } ∷ []) first.records) st.file;
  }
    where
      running_file : (first now later : List Pair) → HoldsText image may_leave (ended_in s.stage) first now s.disk → HoldsText image may_leave (ended_in t.stage) first later t.disk
      running_file first now later holds = rw (stage, disk) (subst (λ (g : Stage). HoldsText image may_leave (ended_in g) first now s.disk) was holds)

  -- all groups count as hard-synchronised
  pub synced_all : (t : TinyStore D) (first : First) (since : List Group) (hard : ℕ) → StoredStands image may_leave t first since hard → StoredStands image may_leave t first since (length since)
  synced_all t first since hard st =
      let r = st.records in
      record {
        records = record { map = r.map; fit = r.fit; rising = r.rising; floor = r.floor; synced = omega arith; held = r.held };
        unclosed = st.unclosed;
        fits = st.fits;
        file = st.file;
      }

  with_none : (t : TinyStore D) (first : First) (since : List Group) → StoredStands image may_leave t first since (length since) → StoredStands image may_leave t first (since ++ []) (length (since ++ []))
  with_none t first since st = subst (λ (l : List Group). StoredStands image may_leave t first l (length l)) (sym (append-nil since)) st

  -- the file stays: it was only read
  pub closed_still : (s t : TinyStore D) (first : First) (since : List Group) (hard : ℕ) → StoredStands image may_leave s first since hard → t.records ≡ s.records → t.disk ≡ s.disk → s.stage ≡ Running → t.stage ≡ Closed
      → StoredStands image may_leave t first (since ++ []) (length (since ++ []))
  closed_still s t first since hard st records disk was stage =
      with_none t first since (synced_all t first since hard
      (goes_on s t (λ first since hard st. subst (λ (r : TinyRecords). TinyStands r first since hard) (sym records) st) (ap (λ (r : TinyRecords). r.closed) records) disk (ap ended_in stage ∙ sym (ap ended_in was)) first since hard st))

  -- a text that is too long is that of the opening
  long_file : (now : List Pair) (f : Option (List ℕ)) → (FitsFile now → ⊥) → IfSome f (IsOpeningOf now) → IfSome f (λ f. f ≡ flat_text now)
  long_file now None long opening = tt
  long_file now (Some f) long (inl is) = is
  long_file now (Some f) long (inr none) = absurd (long (rw none.1 (omega arith)))

  written_file : (before after : Option (List ℕ)) (text : List ℕ) → after ≡ option_map (λ _. text) before → IfSome after (λ f. f ≡ text)
  written_file before None text is = tt
  written_file None (Some f) text is = absurd (cc)
  written_file (Some g) (Some f) text is = cc

  pub closed_written : (s t : TinyStore D) (next : ℕ) (first : First) (since : List Group) (hard : ℕ) → StoredStands image may_leave s first since hard
      → (FitsFile s.records.map.pairs → image t.disk ≡ option_map (λ _. flat_text s.records.map.pairs) (image s.disk))
      → (FitsFile s.records.map.pairs → IfSome (image t.disk) (λ f. Only f (may_leave t.disk)))
      → ((FitsFile s.records.map.pairs → ⊥) → t.disk ≡ s.disk)
      → Keeps TinyStands s.records t.records → t.records.closed ≡ s.records.closed → s.stage ≡ Running → t.stage ≡ Ended next
      → StoredStands image may_leave t first (since ++ []) (length (since ++ []))
  closed_written s t next first since hard st written durable long keeps unclosed was stage =
      with_none t first since (synced_all t first since hard (record {
        records = keeps first since hard st.records;
        unclosed = unclosed ∙ st.unclosed;
        fits = st.fits;
        file = subst (λ (g : Stage). HoldsText image may_leave (ended_in g) first.records now t.disk) (sym stage) (by (cases_lt (2 ^ 40) (text_size now)), λ fits. durable (subst FitsFile (sym same) fits));
      }))
    where
      now : List Pair
      now = replay Hash since first.records

      same : s.records.map.pairs ≡ now
      same = st.records.map

      fitted : FitsFile now → IfSome (image t.disk) (λ f. f ≡ flat_text now)
      fitted fits = subst (λ (l : List Pair). IfSome (image t.disk) (λ f. f ≡ flat_text l)) same (written_file (image s.disk) (image t.disk) (flat_text s.records.map.pairs) (written (subst FitsFile (sym same) fits)))

      none_made : (FitsFile now → ⊥) → (since ≡ []) ⊎ FitsFile now → since ≡ []
      none_made over (inl none) = none
      none_made over (inr fits) = absurd (over fits)

      kept_file : (FitsFile now → ⊥) → IfSome (image t.disk) (λ f. f ≡ flat_text now)
      kept_file over =
          let none : since ≡ [] = none_made over st.fits in
          let first_is : now ≡ first.records = ap (λ (l : List Group). replay Hash l first.records) none in
          let opening : IfSome (image s.disk) (IsOpeningOf first.records) = subst (λ (g : Stage). HoldsText image may_leave (ended_in g) first.records now s.disk) was st.file in
          long_file now (image t.disk) over
          (subst (λ (d : D). IfSome (image d) (IsOpeningOf now)) (sym (long (λ fits. over (subst FitsFile same fits)))) (subst (λ (l : List Pair). IfSome (image s.disk) (IsOpeningOf l)) (sym first_is) opening))

      by : (2 ^ 40 < text_size now) ⊎ (text_size now ≤ 2 ^ 40) → IfSome (image t.disk) (λ f. f ≡ flat_text now)
      by (inl over) = kept_file (λ fits. omega (arith, over, fits))
      by (inr fits) = fitted fits

-- a store that isn't closed runs
pub running : (g : Stage) → is_closed g ≡ false → g ≡ Running
running Running e = refl
running Closed e = absurd (cc)
running (Ended next) e = absurd (cc)
