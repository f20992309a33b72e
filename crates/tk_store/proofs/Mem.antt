-- What changes keep of records, and how a store in memory goes on.
use Rattle.std.proofs.Common.{◌≡◌, ℕ, ◌+◌, ◌<◌, ◌≤◌, ◌^◌, Bool, true, false, List, [], ◌∷◌, ◌++◌, length, Some, refl, arith, length-append, if◌then◌else◌}
use Rattle.std.specs.declared.cmp.Ordering.{Ordering}
use Rattle.std.specs.declared.cmp.Ordering.TheVariants.{Less, Equal, Greater}
use Rattle.tk_model.specs.declared.record.Order.{Order}
use Rattle.tk_model.specs.declared.record.Pair.{Pair}
use Rattle.tk_model.specs.declared.record.Group.{Group}
use Rattle.tk_model.specs.declared.record.Change.{Change}
use Rattle.tk_model.specs.declared.record.Change.TheVariants as changes
use Rattle.tk_model.specs.Records.{find, put, put_by, without, after, replay, AllFit, AllHeld}
use Rattle.tk_model.specs.Orders.{same_bytes, key_cmp}
use Rattle.tk_store.specs.Store.{First, groups_made_by, floor_after}
use Rattle.tk_store.specs.Memory.{MemStands, MemReserved, mem_constants}
use Rattle.tk_store.specs.declared.memory.MemStore.{MemStore}

pick_fits : (b : Bool) (k : List ℕ) (p : Pair) (ps : List Pair) (v : List ℕ) → AllHeld (p ∷ ps) → ((u : List ℕ) → find k ps ≡ Some u → length u ≤ 33554431) → (if b then Some p.value else find k ps) ≡ Some v → length v ≤ 33554431
pick_fits true k p ps v fit deeper e = let s : p.value ≡ v = cc in let le : length p.value ≤ 33554431 = fit.1 in rw (← s) le
pick_fits false k p ps v fit deeper e = deeper v e

pub found_le : (k : List ℕ) (m : List Pair) (v : List ℕ) → AllHeld m → find k m ≡ Some v → length v ≤ 33554431
found_le k [] v fit e = absurd (cc)
found_le k (p ∷ ps) v fit e = pick_fits (same_bytes k p.key) k p ps v fit (λ u h. found_le k ps u fit.2 h) e

pub found_fits : (k : List ℕ) (m : List Pair) (v : List ℕ) → AllHeld m → find k m ≡ Some v → length v < 2 ^ 32
found_fits k m v fit e = omega (arith, found_le k m v fit e)

put_by_held : (o : Ordering) (new p : Pair) (ps deeper : List Pair) → length new.key ≤ 65535 → length new.value ≤ 33554431 → AllHeld (p ∷ ps) → AllHeld deeper → AllHeld (put_by o new p ps deeper)
put_by_held Less new p ps deeper k v fit d = (k, v, fit)
put_by_held Equal new p ps deeper k v fit d = (k, v, fit.2)
put_by_held Greater new p ps deeper k v fit d = (fit.0, fit.1, d)

put_held : (o : Order) (new : Pair) (m : List Pair) → length new.key ≤ 65535 → length new.value ≤ 33554431 → AllHeld m → AllHeld (put o new m)
put_held o new [] k v fit = (k, v, tt)
put_held o new (p ∷ ps) k v fit = put_by_held (key_cmp o new.key p.key) new p ps (put o new ps) k v fit (put_held o new ps k v fit.2)

pick_held : (b : Bool) (p : Pair) (ps deeper : List Pair) → AllHeld (p ∷ ps) → AllHeld deeper → AllHeld (if b then ps else p ∷ deeper)
pick_held true p ps deeper fit d = fit.2
pick_held false p ps deeper fit d = (fit.0, fit.1, d)

without_held : (k : List ℕ) (m : List Pair) → AllHeld m → AllHeld (without k m)
without_held k [] fit = tt
without_held k (p ∷ ps) fit = pick_held (same_bytes k p.key) p ps (without k ps) fit (without_held k ps fit.2)

pub after_held : (o : Order) (cs : List Change) (m : List Pair) → AllFit cs → AllHeld m → AllHeld (after o cs m)
after_held o [] m f fit = fit
after_held o (changes.Put p ∷ cs) m f fit = after_held o cs (put o p m) f.2 (put_held o p m f.0 f.1 fit)
after_held o (changes.Drop k ∷ cs) m f fit = after_held o cs (without k m) f.1 (without_held k m fit)
after_held o (changes.Clear ∷ cs) m f fit = after_held o cs [] f tt

pub replay_more : (o : Order) (gs : List Group) (g : Group) (m : List Pair) → replay o (gs ++ g ∷ []) m ≡ after o g.changes (replay o gs m)
replay_more o [] g m = refl
replay_more o (h ∷ gs) g m = replay_more o gs g (after o h.changes m)

pub floor_more : (n : ℕ) (gs : List Group) (g : Group) → floor_after n (gs ++ g ∷ []) ≡ g.number + 1
floor_more n [] g = refl
floor_more n (h ∷ gs) g = floor_more (h.number + 1) gs g

pub applied : (s t : MemStore) (n : ℕ) (cs : List Change) (first : First) (since : List Group) (hard : ℕ) → s.grows ≡ true → MemReserved s cs → MemStands s first since hard
    → t.order ≡ s.order → t.pairs ≡ s.reserved_group → t.last ≡ Some n → MemStands t first (since ++ groups_made_by (mem_constants s) n cs) hard
applied s t n [] first since hard grows p st o e l = absurd (let g = p.grows in cc)
applied s t n (c ∷ cs) first since hard grows p st o e l =
    let g : Group = record { number = n; changes = c ∷ cs } in
    record {
      map = rw (o, replay_more s.order since g first.records, e, p.reserved_group, st.map) refl;
      fit = rw (e, p.reserved_group) (after_held s.order (c ∷ cs) s.pairs p.fit st.fit);
      rising = rw o st.rising;
      floor = rw (l, floor_more 0 since g) refl;
      synced = omega (arith, st.synced, length-append since (g ∷ []));
      held = st.held;
    }
