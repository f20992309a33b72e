-- Facts on stores that are ended one after another.
use Rattle.std.proofs.Common.{◌≡◌, ℕ, zero, suc, ◌<◌, ◌≤◌, List, [], ◌∷◌, ◌++◌, length, remove, get_or, slice_get, Option, Some, None, is_some, Err, refl, sym, ap, ◌∙◌, subst, arith}
use Rattle.std.specs.Option.{option_or}
use Rattle.std.proofs.lemmas.List.{append-nil}
use Rattle.std.proofs.lemmas.Option.{none-some, same_Some}
use mathlib.Core.Option.{some, some-injective, some-ne-none}
use lib.ListN.{get_elem?}
use Rattle.tk_status.specs.declared.Status.{Status}
use Rattle.tk_model.specs.Counts.{Rose}
use Rattle.tk_model.specs.declared.record.Group.{Group}
use Rattle.tk_store.specs.declared.error.StoreError.{StoreError}
use Rattle.tk_store.specs.declared.error.StoreError.TheVariants as errors
use Rattle.tk_store.specs.Store.{First, StoreView, StoreConstants, Keeps, OnNoMemory, NeverFull}
use Rattle.tk_locks.specs.declared.home.Home.{Home}
use Rattle.tk_dbm.specs.Fates.{Fate, Spoilt, Ended, Faulted, Wanted, is_spoilt, first_failure, first_broken}
use Rattle.tk_dbm.specs.Ending.{MayEnd, AllMayEnd, Shuts, Closes, EndsFile, Ends, EndsOne, AllEnd, failure_with}

pub to_elem : {A : Type 0} (xs : List A) (k : ℕ) (x : A) → slice_get xs k ≡ Some x → get_elem? xs k ≡ some x
to_elem [] k x e = absurd (none-some x e)
to_elem (y ∷ ys) zero x e = ap some (same_Some y x e)
to_elem (y ∷ ys) (suc k) x e = to_elem ys k x e

pub to_slice : {A : Type 0} (xs : List A) (k : ℕ) (x : A) → get_elem? xs k ≡ some x → slice_get xs k ≡ Some x
to_slice [] k x e = absurd (some-ne-none x (sym e))
to_slice (y ∷ ys) zero x e = ap Some (some-injective y x e)
to_slice (y ∷ ys) (suc k) x e = to_slice ys k x e

moved_on : {A : Type 0} (xs : List A) (x : A) (rest : List A) → (xs ++ x ∷ []) ++ rest ≡ xs ++ x ∷ rest
moved_on [] x rest = refl
moved_on (y ∷ ys) x rest = ap (λ zs. y ∷ zs) (moved_on ys x rest)

failure_then : (fs : List Fate) (e : Fate) → first_failure (fs ++ e ∷ []) ≡ option_or (first_failure fs) (first_failure (e ∷ []))
failure_then [] e = refl
failure_then (Spoilt kept ∷ fs) e = failure_then fs e
failure_then (Ended ∷ fs) e = failure_then fs e
failure_then (Faulted count ∷ fs) e = refl
failure_then (Wanted ∷ fs) e = refl

broken_then : (fs : List Fate) (e : Fate) → first_broken (fs ++ e ∷ []) ≡ option_or (first_broken fs) (first_broken (e ∷ []))
broken_then [] e = refl
broken_then (Spoilt kept ∷ fs) e = refl
broken_then (Ended ∷ fs) e = broken_then fs e
broken_then (Faulted count ∷ fs) e = broken_then fs e
broken_then (Wanted ∷ fs) e = broken_then fs e

pub or_none : (o : Option Status) → o ≡ option_or o None
or_none None = refl
or_none (Some s) = refl

module _ {T : Type 0} (stands : T → First → List Group → ℕ → Type 0) (store_view : T → StoreView) (constants : T → StoreConstants) where
  pub rest_may : (next : ℕ) (hs : List (Home T)) (h : Home T) → 0 < length hs → h ≡ get_or hs 0 h → AllMayEnd stands store_view constants next hs → (h.broken ≡ None → MayEnd stands store_view constants next h.store) × AllMayEnd stands store_view constants next (remove hs 0)
  rest_may next [] h low e may = absurd (omega arith)
  rest_may next (x ∷ xs) h low e may = (subst (λ (z : Home T). z.broken ≡ None → MayEnd stands store_view constants next z.store) (sym e) may.0, may.1)

  pub all_may : (next : ℕ) (hs : List (Home T)) → ((k : ℕ) (h : Home T) → get_elem? hs k ≡ some h → h.broken ≡ None → MayEnd stands store_view constants next h.store) → AllMayEnd stands store_view constants next hs
  all_may next [] may = tt
  all_may next (h ∷ hs) may = (may 0 h refl, all_may next hs (λ k x e. may (suc k) x e))

module _ {T : Type 0} (stands : T → First → List Group → ℕ → Type 0) (store_view : T → StoreView) (constants : T → StoreConstants) (faults : T → ℕ) (next : ℕ) where
  abbrev AllEnded : List (Home T) → List Fate → List T → Type 0
  AllEnded hs fs ys = AllEnd stands store_view constants faults next hs fs ys

  -- how far the ending of all these stores is, where the rest is still to come
  pub record Ending (all rest : List (Home T)) (done : List T) (failed broken : Option Status) : Type 0 where
    pub fates : List Fate
    pub goes : (fs : List Fate) (ys : List T) → AllEnded rest fs ys → AllEnded all (fates ++ fs) (done ++ ys)
    pub failed_is : failed ≡ first_failure fates
    pub broken_is : broken ≡ first_broken fates

  pub begins : (all : List (Home T)) → Ending all all [] None None
  begins all = record { fates = []; goes = λ fs ys a. a; failed_is = refl; broken_is = refl }

  pub goes_on : (all rest : List (Home T)) (done : List T) (h : Home T) (y : T) (f b f' b' : Option Status) → 0 < length rest → h ≡ get_or rest 0 h → Ending all rest done f b → EndsOne stands store_view constants faults next f b h f' b' y → Ending all (remove rest 0) (done ++ y ∷ []) f' b'
  goes_on all [] done h y f b f' b' low e so one = absurd (omega arith)
  goes_on all (x ∷ xs) done h y f b f' b' low e so one = record {
    fates = so.fates ++ one.fate ∷ [];
    goes = λ fs ys a.
        let here : Ends stands store_view constants faults next x one.fate y = subst (λ (z : Home T). Ends stands store_view constants faults next z one.fate y) e one.ends in
        subst (λ (z : List Fate × List T). AllEnded all z.0 z.1) (λ t. (sym (moved_on so.fates one.fate fs) t, sym (moved_on done y ys) t)) (so.goes (one.fate ∷ fs) (y ∷ ys) (here, a));
    failed_is = one.failed_is ∙ ap (λ (z : Option Status). option_or z (first_failure (one.fate ∷ []))) so.failed_is ∙ sym (failure_then so.fates one.fate);
    broken_is = one.broken_is ∙ ap (λ (z : Option Status). option_or z (first_broken (one.fate ∷ []))) so.broken_is ∙ sym (broken_then so.fates one.fate);
  }

  pub ended_all : (all rest : List (Home T)) (done : List T) (f b : Option Status) → length rest ≡ 0 → Ending all rest done f b → (fs : List Fate) × AllEnded all fs done × (f ≡ first_failure fs) × (b ≡ first_broken fs)
  ended_all all [] done f b empty so = (
    so.fates,
    subst (λ (z : List Fate × List T). AllEnded all z.0 z.1) (λ t. (append-nil so.fates t, append-nil done t)) (so.goes [] [] tt),
    so.failed_is,
    so.broken_is,
  )
  ended_all all (x ∷ xs) done f b empty so = absurd (omega arith)

  pub end_long : (hs : List (Home T)) (fs : List Fate) (ys : List T) → AllEnded hs fs ys → (length fs ≡ length hs) × (length ys ≡ length hs)
  end_long [] [] [] a = (refl, refl)
  end_long [] [] (y ∷ ys) a = absurd a
  end_long [] (e ∷ es) ys a = absurd a
  end_long (h ∷ hs) [] ys a = absurd a
  end_long (h ∷ hs) (e ∷ es) [] a = absurd a
  end_long (h ∷ hs) (e ∷ es) (y ∷ ys) a = let t = end_long hs es ys a.1 in (ap suc t.0, ap suc t.1)

  pub end_at : (hs : List (Home T)) (fs : List Fate) (ys : List T) → AllEnded hs fs ys → (k : ℕ) (e : Fate) → slice_get fs k ≡ Some e → (h : Home T) × (y : T) × (get_elem? hs k ≡ some h) × (slice_get ys k ≡ Some y) × Ends stands store_view constants faults next h e y
  end_at [] [] [] a k e at = absurd (none-some e at)
  end_at [] [] (y ∷ ys) a k e at = absurd a
  end_at [] (x ∷ xs) ys a k e at = absurd a
  end_at (h ∷ hs) [] ys a k e at = absurd a
  end_at (h ∷ hs) (x ∷ xs) [] a k e at = absurd a
  end_at (h ∷ hs) (x ∷ xs) (y ∷ ys) a zero e at = (h, y, refl, refl, subst (λ (z : Fate). Ends stands store_view constants faults next h z y) (same_Some x e at) a.0)
  end_at (h ∷ hs) (x ∷ xs) (y ∷ ys) a (suc k) e at = end_at hs xs ys a.1 k e at

  pub spoilt_is : (h : Home T) (e : Fate) (y : T) → Ends stands store_view constants faults next h e y → is_some h.broken ≡ is_spoilt e
  spoilt_is h (Spoilt kept) y a = ap is_some a.0
  spoilt_is h Ended y a = ap is_some a.0
  spoilt_is h (Faulted n) y a = ap is_some a.0
  spoilt_is h Wanted y a = ap is_some a.0

  pub later_is : (h : Home T) (e : Fate) (y : T) → Ends stands store_view constants faults next h e y → faults h.store ≤ faults y
  later_is h (Spoilt kept) y a = let q = ap faults a.1 in omega arith
  later_is h Ended y a = a.1.0.later
  later_is h (Faulted n) y a = a.1.0.later
  later_is h Wanted y a = a.1.0.later

  -- a store that came home unbroken
  pub ends_home : (h : Home T) (f b o : Option Status) (y : T) → h.broken ≡ None → EndsFile stands store_view constants faults next h.store o y → EndsOne stands store_view constants faults next f b h (option_or f o) b y
  ends_home h f b o y sound file = go file.fate file.closes file.failed_is
    where
      go : (e : Fate) → Closes stands store_view constants faults next h.store e y → o ≡ first_failure (e ∷ []) → EndsOne stands store_view constants faults next f b h (option_or f o) b y
      go (Spoilt kept) a is = absurd a
      go Ended a is = record { fate = Ended; ends = (sound, a); failed_is = ap (option_or f) is; broken_is = or_none b }
      go (Faulted n) a is = record { fate = Faulted n; ends = (sound, a); failed_is = ap (option_or f) is; broken_is = or_none b }
      go Wanted a is = record { fate = Wanted; ends = (sound, a); failed_is = ap (option_or f) is; broken_is = or_none b }

  -- an end that failed
  pub file_failed : (P : Type 0) (x y : T) (e : StoreError) → Shuts stands store_view constants faults next x y → (store_view y).ended ≡ None → (e ≡ errors.Fault → Rose (faults x) (faults y)) → OnNoMemory {T = Unit {0}} (Err e) (Keeps stands x y × P) → NeverFull {T = Unit {0}} (Err e) → EndsFile stands store_view constants faults next x (Some (failure_with (faults y) e)) y
  file_failed P x y errors.Fault s ended rose kept never = record { fate = Faulted (faults y); closes = (s, rose refl, refl, ended); failed_is = refl }
  file_failed P x y (errors.Full size need limit) s ended rose kept never = absurd never
  file_failed P x y errors.NoMemory s ended rose kept never = record { fate = Wanted; closes = (s, kept.0, ended); failed_is = refl }
