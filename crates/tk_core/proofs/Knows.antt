-- What a caller knows.
use Rattle.std.proofs.Common.{◌≡◌, ℕ, Bool, true, List, sym, ◌∙◌, arith}
use mathlib.Core.Option.{some}
use lib.ListN.{get_elem?}
use Rattle.tk_model.specs.declared.record.Pair.{Pair}
use Rattle.tk_model.specs.declared.record.Group.{Group}
use Rattle.tk_model.specs.declared.record.Entry.{Entry}
use Rattle.tk_model.proofs.RecordLaws.{entries_rising, same_records}
use Rattle.tk_core.specs.declared.frame.Frame.{Frame}
use Rattle.tk_core.specs.Lists.{has}
use Rattle.tk_core.specs.Caller.{Caller, knows_broken}
use Rattle.tk_core.specs.Covers.{HoldsStores, store_lock}
use Rattle.tk_core.specs.Rule.{map_after, Knows, Sound}
use Rattle.tk_core.proofs.Stores.{told}
use Rattle.tk_core.proofs.Calls.{reads_all}
use Rattle.tk_core.proofs.Facts.{by_bool, not_both}

module _ (f : Frame) (law : List Pair → Type 0) (m : List Pair) (log : List Entry) (owner : ℕ → ℕ) (spoilt away : ℕ → Bool) (stands : ℕ → List Group → ℕ → Type 0) (callers : List Caller)
    (sound : Sound f law m log owner spoilt away stands callers) (id : ℕ) (v : Caller) (at : get_elem? callers id ≡ some v) where
  own : Knows f law m log owner spoilt away stands id v
  own = sound.knows id v at

  pub knows_which : (i : ℕ) → has (store_lock f i) v.held ≡ true → knows_broken v i ≡ spoilt i
  knows_which i h = by_bool (spoilt i) (λ s. own.found i h s ∙ sym s)
      (λ s. by_bool (knows_broken v i) (λ t. absurd (not_both (spoilt i) (told f law m log owner spoilt away stands callers sound id v at i t) s)) (λ t. t ∙ sym s))

  pub knows_map : HoldsStores f v.held → map_after f m v.base ≡ map_after f m log
  knows_map all = same_records f.order (map_after f m v.base) (map_after f m log) (entries_rising f.order v.base m sound.history.rising) (entries_rising f.order log m sound.history.rising)
      (λ k. own.still.records k (reads_all f v.held sound.frame all k))

  pub alone : (other : ℕ) (u : Caller) (l : ℕ) → get_elem? callers other ≡ some u → has l v.held ≡ true → has l u.held ≡ true → other ≡ id
  alone other u l there h g = let a = own.owns l h in let b = (sound.knows other u there).owns l g in omega arith
