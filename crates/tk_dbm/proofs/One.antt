-- A database of one store: what `make` asks of it.
use Rattle.std.proofs.Common.{◌≡◌, ℕ, zero, suc, ◌≤◌, ◌^◌, Bool, true, false, List, [], ◌∷◌, slice_index_or, Contains, Option, Some, None, IfSome, is_some, if◌then◌else◌, ◌==◌, refl, sym, ap, ◌∙◌, subst, arith}
use mathlib.Core.Option.{some, some-injective, some-ne-none}
use lib.ListN.{get_elem?}
use Rattle.tk_model.specs.Hashes.{mix_of, shard_of}
use Rattle.tk_model.specs.Records.{put, put_by, replay, AllBehind, Rising}
use Rattle.tk_model.specs.Entries.{shard_records}
use Rattle.tk_model.specs.declared.record.Order.{Order}
use Rattle.tk_model.specs.declared.record.Pair.{Pair}
use Rattle.tk_model.specs.declared.record.Group.{Group}
use Rattle.tk_model.specs.declared.record.ShardOf.{ShardOf}
use Rattle.tk_store.specs.Store.{First, StoreView, StoreConstants}
use Rattle.tk_core.specs.declared.frame.Frame.{Frame}
use Rattle.tk_core.specs.Rule.{shard}
use Rattle.tk_locks.specs.declared.home.Home.{Home}
use Rattle.tk_locks.specs.Homes.{homes_of}
use Rattle.tk_locks.specs.Rule.{Began, records_in, put_all, told}
use Rattle.tk_locks.specs.Made.{frame_of}
use Rattle.tk_dbm.specs.Making.{MayMake}

put_front : (o : Order) (p : Pair) (ps : List Pair) → AllBehind o p.key ps → put o p ps ≡ p ∷ ps
put_front o p [] behind = refl
put_front o p (q ∷ ps) behind = ap (λ c. put_by c p q ps (put o p ps)) behind.0

put_alike : (o : Order) (m : List Pair) → Rising o m → put_all o m [] ≡ m
put_alike o [] rising = refl
put_alike o (p ∷ ps) rising = ap (put o p) (put_alike o ps rising.1) ∙ put_front o p ps rising.0

first_of_one : (n : ℕ) → (shard_of n 1 == 0) ≡ true
first_of_one n = let none : shard_of n 1 ≡ 0 = omega arith in ap (λ (k : ℕ). k == 0) none

abbrev shard_at : ℕ → ℕ → ShardOf
shard_at i n = record { index = i; of = n }

whole_shard : (m : List Pair) → shard_records (shard_at 0 1) m ≡ m
whole_shard [] = refl
whole_shard (p ∷ ps) = ap (λ (b : Bool). if b then p ∷ shard_records (shard_at 0 1) ps else shard_records (shard_at 0 1) ps) (first_of_one (mix_of p.key)) ∙ ap (λ (qs : List Pair). p ∷ qs) (whole_shard ps)

told_is : (o : Option (List Pair)) (m : List Pair) → is_some o ≡ true → IfSome o (λ n. n ≡ m) → told o ≡ m
told_is None m tells is = absurd (cc (tells))
told_is (Some n) m tells is = is

if_told : (o : Order) (m : Option (List Pair)) → (is_some m ≡ true → Rising o (put_all o (told m) [])) → Rising o (put_all o (told m) [])
if_told o None rising = tt
if_told o (Some m) rising = rising refl

module _ {T : Type 0} (law : List Pair → Bool) (stands : T → First → List Group → ℕ → Type 0) (store_view : T → StoreView) (constants : T → StoreConstants)
    (replays : (s : T) (first : First) (since : List Group) (hard : ℕ) → stands s first since hard → IfSome (store_view s).map (λ m. m ≡ replay (constants s).order since first.records))
    (rising : (s : T) (first : First) (since : List Group) (hard : ℕ) → stands s first since hard → Rising (constants s).order first.records)
    (x : T) (first : First) (st : stands x first [] 0) where
  abbrev home : Home T
  home = record { store = x; broken = None }

  told_records : is_some (store_view x).map ≡ true → (begun : First) → stands x begun [] 0 → told (store_view x).map ≡ begun.records
  told_records tells begun s = told_is (store_view x).map begun.records tells (replays x begun [] 0 s)

  records : is_some (store_view x).map ≡ true → records_in (constants x).order store_view (homes_of (x ∷ [])) ≡ first.records
  records tells = ap (λ (ps : List Pair). put_all (constants x).order ps []) (told_records tells first st) ∙ put_alike (constants x).order first.records (rising x first [] 0 st)

  in_order : Rising (constants x).order (records_in (constants x).order store_view (homes_of (x ∷ [])))
  in_order = if_told (constants x).order (store_view x).map (λ tells. subst (Rising (constants x).order) (sym (records tells)) (rising x first [] 0 st))

  home_is : (i : ℕ) (o : Option (Home T)) → get_elem? (homes_of (x ∷ [])) i ≡ some o → (i ≡ 0) × (o ≡ Some home)
  home_is zero o e = (refl, sym (some-injective (Some home) o e))
  home_is (suc i) o e = absurd (some-ne-none o (sym e))

  same_home : (i : ℕ) (h : Home T) → get_elem? (homes_of (x ∷ [])) i ≡ some (Some h) → h ≡ home
  same_home i h e = let t = (home_is i (Some h) e).1 in cc (t)

  in_shard : (f : Frame) → f.stores ≡ 1 → f.order ≡ (constants x).order → (i : ℕ) (begun : First) (b : Began stands (homes_of (x ∷ [])) i begun) → is_some (store_view b.0.store).map ≡ true → begun.records ≡ shard_records (shard f i) (records_in f.order store_view (homes_of (x ∷ [])))
  in_shard f one order i begun b there =
      let s = subst (λ (h : Home T). stands h.store begun [] 0) (same_home i b.0 b.1) b.2 in
      let tells = subst (λ (h : Home T). is_some (store_view h.store).map ≡ true) (same_home i b.0 b.1) there in
      sym (told_records tells begun s) ∙ told_records tells first st ∙ sym (whole_shard first.records)
      ∙ ap (λ (o : ShardOf). shard_records o first.records) (sym (ap (λ (n : ℕ). shard_at n f.stores) (home_is i (Some b.0) b.1).0 ∙ ap (shard_at 0) one))
      ∙ ap (shard_records (shard f i)) (sym (ap (λ (o : Order). records_in o store_view (homes_of (x ∷ []))) order ∙ records tells))

  pub may_make : (stripes base : ℕ) (writable : Bool) → (16 ≤ stripes) × (stripes ≤ 1024) → base ≤ 2 ^ 62 → (store_view x).closed ≡ false → ((constants x).writable ≡ true → (store_view x).floor ≤ base) → (writable ≡ true → (constants x).writable ≡ true) → ((m : List Pair) → law m ≡ true)
      → MayMake law stands store_view constants (x ∷ []) stripes base writable
  may_make stripes base writable wide below unclosed floor writes lawful = let f : Frame = frame_of constants (x ∷ []) stripes base in record {
    sizes = record { stores = (omega arith, omega arith); stripes = wide };
    below = below;
    fresh = record {
      long = refl;
      there = λ i o e. (home, (home_is i o e).1, refl, unclosed, floor, (first, st));
      order = λ i h e. ap (λ (z : Home T). (constants z.store).order) (same_home i h e);
      shards = in_shard f refl refl;
      rising = in_order;
      lawful = lawful (records_in f.order store_view (homes_of (x ∷ [])));
    };
    writes = λ w y at. is_in y at w;
  }
    where
      is_in : (y : T) → Contains (x ∷ []) y → writable ≡ true → (constants y).writable ≡ true
      is_in y at w = let first_place : at.0 ≡ 0 = let l = at.1 in omega arith in subst (λ (z : T). (constants z).writable ≡ true) (subst (λ (k : ℕ). slice_index_or (x ∷ []) k y ≡ y) first_place at.2) (writes w)
