-- How records in memory go on as a store.
use Rattle.std.proofs.Common.{◌≡◌, ℕ, ◌<◌, ◌^◌, true, List, [], ◌∷◌, ◌++◌, length, Some, refl, arith, length-append}
use Rattle.tk_model.specs.declared.record.Group.{Group}
use Rattle.tk_model.specs.declared.record.Pair.{Pair}
use Rattle.tk_model.specs.declared.record.Change.{Change}
use Rattle.tk_model.specs.declared.record.Order.TheVariants.{Hash}
use Rattle.tk_model.specs.Records.{find, AllHeld}
use Rattle.tk_store.specs.Store.{First, groups_made_by}
use Rattle.tk_store.proofs.Fits.{fits_file}
use Rattle.tk_store.proofs.Mem.{found_fits as held_fits, after_held, replay_more, floor_more}
use Rattle.tk_mem.specs.TinyView.{next_of}
use Rattle.tk_mem.specs.Tiny.{tiny_constants, TinyReserved, TinyStands}
use Rattle.tk_mem.specs.declared.tiny_records.TinyRecords.{TinyRecords}

pub found_fits : (k : List ℕ) (m : List Pair) (v : List ℕ) → AllHeld m → find k m ≡ Some v → length v < 2 ^ 32
found_fits k m v fit e = held_fits k m v fit e

pub applied : (s t : TinyRecords) (n : ℕ) (cs : List Change) (first : First) (since : List Group) (hard : ℕ) → s.grows ≡ true → TinyReserved s cs → TinyStands s first since hard
    → t.map.pairs ≡ next_of s.map → t.last ≡ Some n → TinyStands t first (since ++ groups_made_by (tiny_constants s) n cs) hard
applied s t n [] first since hard grows p st e l = absurd (let g = p.grows in cc)
applied s t n (c ∷ cs) first since hard grows p st e l =
    let g : Group = record { number = n; changes = c ∷ cs } in
    record {
      map = rw (replay_more Hash since g first.records, e, p.next, st.map) refl;
      fit = rw (e, p.next) (after_held Hash (c ∷ cs) s.map.pairs (fits_file 33554431 (c ∷ cs) (omega arith) p.fit) st.fit);
      rising = st.rising;
      floor = rw (l, floor_more 0 since g) refl;
      synced = omega (arith, st.synced, length-append since (g ∷ []));
      held = st.held;
    }
