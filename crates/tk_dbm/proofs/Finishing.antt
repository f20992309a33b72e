-- What becomes of a store that is out when the call's part is made there.
use Rattle.std.proofs.Common.{◌≡◌, ◌<◌, ◌≤◌, ◌&&◌, ℕ, Bool, true, false, List, [], ◌∷◌, ◌++◌, length, length-append, filter, Option, None, Result, Ok, Err, OnOk, is_some, if◌then◌else◌, refl, sym, ap, ◌∙◌, subst, arith}
use Rattle.tk_model.specs.Entries.{changes_of, is_in_shard}
use Rattle.tk_model.specs.declared.record.Pair.{Pair}
use Rattle.tk_model.specs.declared.record.Group.{Group}
use Rattle.tk_model.specs.declared.record.Change.{Change}
use Rattle.tk_model.specs.declared.record.Entry.{Entry}
use Rattle.tk_store.specs.declared.error.StoreError.{StoreError}
use Rattle.tk_store.specs.Store.{First, StoreView, StoreConstants, groups_made_by, Keeps, floor_after}
use Rattle.tk_core.specs.Rule.{map_after, shard, groups_of, hard_groups, is_hard}
use Rattle.tk_locks.specs.declared.home.Home.{Home}
use Rattle.tk_locks.specs.Made.{Fresh}
use Rattle.tk_locks.specs.Steps.{MayMark}
use Rattle.tk_locks.specs.Rule.{Ground, count_at, good_of, next_fits, records_in}
use Rattle.tk_locks.specs.View.{View}
use Rattle.tk_dbm.specs.declared.visit.Work.TheVariants.{Count, Sync, Change as Changing, Keep as Keeping}
use Rattle.tk_dbm.specs.Parts.{IsOut, IsReady}
use Rattle.tk_dbm.specs.Visiting.{IsDue, IsUnmarked}
use Rattle.tk_dbm.proofs.Goods.{at_start, same_constants, goes_on, hardens}

no_mark : (n : StoreConstants) (number : ℕ) → n.marks ≡ false → groups_made_by n number [] ≡ []
no_mark n number e = ap (λ (b : Bool). if b && n.writable then record { number = number; changes = [] } ∷ [] else []) e

module _ {T : Type 0} (law : List Pair → Bool) (stands : T → First → List Group → ℕ → Type 0) (store_view : T → StoreView) (constants : T → StoreConstants) (faults : T → ℕ) (g : Ground T) (fresh : Fresh law stands store_view constants g.frame g.start) (i : ℕ)
    (reserved : T → List Change → Type 0) (number : ℕ) (v : View) (x : T) where
  abbrev m : List Pair
  m = records_in g.frame.order store_view g.start

  abbrev Out : Home T → Type 0
  Out h = IsOut law stands store_view constants faults g i v h

  abbrev GoodAt : T → List Entry → Type 0
  GoodAt y es = good_of stands store_view constants g i y (groups_of g.frame m es i) (hard_groups g.frame m es i)

  -- the call changed nothing there, and nothing hard was asked
  pub passed_out : (y : T) (b : Option ℕ) (log : List Entry) (e : Entry) (cs : List Change) → b ≡ None → i < g.frame.stores → MayMark g.frame (count_at faults g.start) i v None
      → v.caller.base ≡ log ++ e ∷ [] → GoodAt x log → cs ≡ [] → is_hard e ≡ false → (is_some (store_view x).map ≡ true → cs ≡ filter (is_in_shard (shard g.frame i)) (changes_of g.frame.order (map_after g.frame m log) e))
      → Keeps stands x y → store_view y ≡ store_view x → constants y ≡ constants x → next_fits store_view constants g x (length log) → GoodAt y v.caller.base × MayMark g.frame (count_at faults g.start) i v b × next_fits store_view constants g y (length v.caller.base)
  passed_out y b log e cs whole low stays base good none soft told keeps same_shown same_constant fits = (
    subst (GoodAt y) (sym base) (goes_on law stands store_view constants g fresh i low x y log e good soft (λ t. sym (told t) ∙ none) keeps same_constant (ap (λ (z : StoreView). z.map) same_shown) (ap (λ (z : StoreView). z.closed) same_shown)),
    subst (MayMark g.frame (count_at faults g.start) i v) (sym whole) stays,
    (λ w. let h = fits (ap (λ (z : StoreConstants). z.writable) (sym same_constant) ∙ w) in let l = ap (λ (es : List Entry). length es) base in let n = length-append log (e ∷ []) in let q = ap (λ (z : StoreView). z.floor) same_shown in omega arith),
  )

  pub counted_out : (b : Option ℕ) → b ≡ None → IsDue law stands store_view constants faults g reserved Count i number v x → Out (record { store = x; broken = b })
  counted_out b whole due = let t = passed_out x b due.log due.entry due.changes whole due.low due.stays due.base due.good_then due.suits.0 due.suits.1 due.told (λ first since hard st. st) refl refl due.follows in record {
    low = due.low;
    holds = due.holds;
    owed = λ _. t.0;
    stays = t.1;
    counted = due.counted;
    follows = λ _. t.2;
  }

  pub kept_out : (b : Option ℕ) → b ≡ None → IsDue law stands store_view constants faults g reserved Keeping i number v x → Out (record { store = x; broken = b })
  kept_out b whole due = let t = passed_out x b due.log due.entry due.changes whole due.low due.stays due.base due.good_then due.suits.0 due.suits.1 due.told (λ first since hard st. st) refl refl due.follows in record {
    low = due.low;
    holds = due.holds;
    owed = λ _. t.0;
    stays = t.1;
    counted = due.counted;
    follows = λ _. t.2;
  }

  pub synced_out : (y : T) (b : Option ℕ) → b ≡ None → IsDue law stands store_view constants faults g reserved (Sync false) i number v x → {U : Type 0} (r : Result U StoreError)
      → ((first : First) (since : List Group) (hard : ℕ) → stands x first since hard → OnOk r (stands y first since hard)) → OnOk r (store_view y ≡ store_view x) → constants y ≡ constants x → faults x ≤ faults y → OnOk r (Out (record { store = y; broken = b }))
  synced_out y b whole due (Err z) keeps same_shown same_constant later = tt
  synced_out y b whole due (Ok u) keeps same_shown same_constant later = let t = passed_out y b due.log due.entry due.changes whole due.low due.stays due.base due.good_then due.suits.0 (ap is_hard due.suits.1) due.told keeps same_shown same_constant due.follows in record {
    low = due.low;
    holds = due.holds;
    owed = λ _. t.0;
    stays = t.1;
    counted = let q = due.counted in omega arith;
    follows = λ _. t.2;
  }

  pub hardened_out : (y : T) (b : Option ℕ) → b ≡ None → IsUnmarked constants g → IsDue law stands store_view constants faults g reserved (Sync true) i number v x → {U : Type 0} (r : Result U StoreError)
      → ((first : First) (since : List Group) (hard : ℕ) → stands x first since hard → OnOk r (stands y first (since ++ groups_made_by (constants x) number []) (length (since ++ groups_made_by (constants x) number []))))
      → OnOk r ((store_view y).floor ≡ floor_after (store_view x).floor (groups_made_by (constants x) number [])) → constants y ≡ constants x → is_some (store_view y).map ≡ is_some (store_view x).map → (store_view y).closed ≡ false → faults x ≤ faults y
      → OnOk r (Out (record { store = y; broken = b }))
  hardened_out y b whole unmarked due (Err z) more floor same_constant same_told ajar later = tt
  hardened_out y b whole unmarked due (Ok u) more floor same_constant same_told ajar later =
      let none : groups_made_by (constants x) number [] ≡ [] = no_mark (constants x) number (ap (λ (z : StoreConstants). z.marks) (same_constants law stands store_view constants g fresh i due.low x _ _ due.good_then) ∙ unmarked i (at_start law stands store_view constants g fresh i due.low).0 (at_start law stands store_view constants g fresh i due.low).1) in record {
        low = due.low;
        holds = due.holds;
        owed = λ _. subst (GoodAt y) (sym due.base) (hardens law stands store_view constants g fresh i due.low x y due.log due.entry number due.good_then (ap is_hard due.suits.1)
            (ap (λ (e : Entry). filter (is_in_shard (shard g.frame i)) (changes_of g.frame.order (map_after g.frame m due.log) e)) due.suits.1) none more same_constant same_told ajar);
        stays = subst (MayMark g.frame (count_at faults g.start) i v) (sym whole) due.stays;
        counted = let q = due.counted in omega arith;
        follows = λ _ w. let h = due.follows (ap (λ (z : StoreConstants). z.writable) (sym same_constant) ∙ w) in let l = ap (λ (es : List Entry). length es) due.base in let n = length-append due.log (due.entry ∷ []) in
            let q = floor ∙ ap (floor_after (store_view x).floor) none in omega arith;
      }

  pub is_ready : IsDue law stands store_view constants faults g reserved Changing i number v x → IsReady law stands store_view constants faults g reserved i number v x
  is_ready due = record {
    low = due.low;
    holds = due.holds;
    stays = due.stays;
    counted = due.counted;
    log = due.log;
    entry = due.entry;
    changes = due.changes;
    base = due.base;
    good_then = due.good_then;
    ready = due.prepared;
    some = due.suits.0;
    soft = due.suits.1;
    told = due.told;
    number_is = due.number_is;
    follows = due.follows;
  }

  -- what sync_hard asks
  pub due_whole : (c : ℕ) → IsDue law stands store_view constants faults g reserved (Sync true) i number v x → reserved x []
  due_whole c due = subst (reserved x) due.suits.0 (due.prepared refl)
