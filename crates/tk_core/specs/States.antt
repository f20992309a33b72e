-- The state of the core, and what becomes of it in each kind of move.
use Rattle.std.specs.Prelude.{◌≡◌, ℕ, suc, Bool, true, false, List, [], ◌∷◌, ◌++◌, slice_set}
use mathlib.Core.Option.{some}
use lib.ListN.{get_elem?}
use Rattle.tk_model.specs.declared.record.Pair.{Pair}
use Rattle.tk_model.specs.declared.record.Group.{Group}
use Rattle.tk_model.specs.declared.record.Entry.{Entry}
use Rattle.tk_core.specs.declared.frame.Frame.{Frame}
use Rattle.tk_core.specs.Lists.{put}
use Rattle.tk_core.specs.Caller.{Caller}
use Rattle.tk_core.specs.Covers.{store_lock}
use Rattle.tk_core.specs.Rule.{Sound}
use Rattle.tk_core.specs.Moves.{took_stripe, took_store, missed, committed, gave_stripe, gave_store, looked, took_out, put_back, kept_half, new_half, joined, spent}

pub record State : Type 0 where
  -- the law of the stores, and the first map
  pub law : List Pair → Bool
  pub first : List Pair
  -- the history
  pub log : List Entry
  -- of each lock, 0 or one more than the number of its holder
  pub owner : ℕ → ℕ
  -- which stores are broken, which are out, and what each store at home stands for: these groups, so many of them safe
  pub spoilt : ℕ → Bool
  pub away : ℕ → Bool
  pub stands : ℕ → List Group → ℕ → Bool
  pub callers : List Caller

-- the state meets the rule
abbrev pub IsSound : Frame → State → Type 0
IsSound f s = Sound f (λ m. s.law m ≡ true) s.first s.log s.owner s.spoilt s.away (λ i gs n. s.stands i gs n ≡ true) s.callers

abbrev pub IsCaller : State → ℕ → Caller → Type 0
IsCaller s id v = get_elem? s.callers id ≡ some v

abbrev pub with_caller : ℕ → Caller → State → State
with_caller id w s = record s { callers = slice_set s.callers id w }

abbrev pub after_take_stripe : ℕ → Caller → ℕ → State → State
after_take_stripe id v l s = record s { owner = put s.owner l (suc id); callers = slice_set s.callers id (took_stripe l s.log v) }

abbrev pub after_take_store : Frame → ℕ → Caller → ℕ → State → State
after_take_store f id v i s = record s { owner = put s.owner (store_lock f i) (suc id); callers = slice_set s.callers id (took_store f i (s.spoilt i) s.log v) }

abbrev pub after_miss : ℕ → Caller → ℕ → State → State
after_miss id v l s = with_caller id (missed l v) s

abbrev pub after_commit : ℕ → Caller → Entry → State → State
after_commit id v e s = record s { log = s.log ++ e ∷ []; callers = slice_set s.callers id (committed s.log e v) }

abbrev pub after_give_stripe : ℕ → Caller → ℕ → State → State
after_give_stripe id v l s = record s { owner = put s.owner l 0; callers = slice_set s.callers id (gave_stripe l v) }

abbrev pub after_give_store : Frame → ℕ → Caller → ℕ → State → State
after_give_store f id v i s = record s { owner = put s.owner (store_lock f i) 0; callers = slice_set s.callers id (gave_store f i v) }

abbrev pub after_look : ℕ → Caller → State → State
after_look id v s = with_caller id (looked s.log v) s

abbrev pub after_out : ℕ → Caller → ℕ → State → State
after_out id v i s = record s { away = put s.away i true; callers = slice_set s.callers id (took_out i v) }

-- now: what the store that is put back stands for
abbrev pub after_back : ℕ → Caller → ℕ → Bool → (List Group → ℕ → Bool) → State → State
after_back id v i is_broken now s =
    record s { away = put s.away i false; spoilt = put s.spoilt i is_broken; stands = put s.stands i now; callers = slice_set s.callers id (put_back i is_broken v) }

-- the new caller has the next number
abbrev pub after_split : ℕ → Caller → State → State
after_split id v s = record s { callers = slice_set s.callers id (kept_half v) ++ new_half v ∷ [] }

abbrev pub after_join : ℕ → ℕ → Caller → Caller → State → State
after_join id other v u s = record s { callers = slice_set (slice_set s.callers id (joined v u)) other spent }
