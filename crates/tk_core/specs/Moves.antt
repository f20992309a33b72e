-- What becomes of a caller in each kind of move.
use Rattle.std.specs.Prelude.{◌&&◌, ◌-◌, ◌+◌, ◌/◌, ltb, not, ℕ, Bool, true, false, List, [], ◌∷◌, ◌++◌, length, Some, None, cond}
use Rattle.tk_model.specs.declared.record.Entry.{Entry}
use Rattle.tk_core.specs.declared.frame.Frame.{Frame}
use Rattle.tk_core.specs.Lists.{has, without}
use Rattle.tk_core.specs.Caller.{Caller, knows_broken}
use Rattle.tk_core.specs.Covers.{store_lock}

-- take: it holds the lock, wants none, and learns what the lock covers
abbrev pub took_stripe : ℕ → List Entry → Caller → Caller
took_stripe l log v = record v { held = l ∷ v.held; want = None; base = log }

-- of a store it learns whether it is broken, too
abbrev pub took_store : Frame → ℕ → Bool → List Entry → Caller → Caller
took_store f i is_broken log v = record v { held = store_lock f i ∷ v.held; want = None; base = log; met = cond is_broken (i ∷ v.met) v.met }

-- miss: it wants the lock
abbrev pub missed : ℕ → Caller → Caller
missed l v = record v { want = Some l }

-- commit: the call is its own, with the next number
abbrev pub committed : List Entry → Entry → Caller → Caller
committed log e v = record v { allowance = v.allowance - 1; seen = log ++ e ∷ []; base = log ++ e ∷ []; mine = (length log, e) ∷ v.mine }

-- give: it wants none, and forgets what that lock alone covered
abbrev pub gave_stripe : ℕ → Caller → Caller
gave_stripe l v = record v { held = without l v.held; want = None }

-- a store that it broke under this lock joins those that it broke
abbrev pub gave_store : Frame → ℕ → Caller → Caller
gave_store f i v = record v { held = without (store_lock f i) v.held; want = None; breaking = without i v.breaking; broke = cond (has i v.breaking) (i ∷ v.broke) v.broke }

-- look: it has seen the whole history
abbrev pub looked : List Entry → Caller → Caller
looked log v = record v { seen = log; base = log }

-- out: the store is with it
abbrev pub took_out : ℕ → Caller → Caller
took_out i v = record v { out = i ∷ v.out }

-- back: the store is at home, newly broken by it where it is given as broken and wasn't
abbrev pub put_back : ℕ → Bool → Caller → Caller
put_back i is_broken v = record v { out = without i v.out; breaking = cond (is_broken && not (knows_broken v i)) (i ∷ v.breaking) v.breaking }

-- split: the new caller has half of the allowance, rounded down, and has seen the same
abbrev pub kept_half : Caller → Caller
kept_half v = record v { allowance = v.allowance - v.allowance / 2 }

abbrev pub new_half : Caller → Caller
new_half v = record { live = true; allowance = v.allowance / 2; held = []; want = None; out = []; seen = v.seen; base = v.base; mine = []; breaking = []; broke = []; met = [] }

abbrev pub longer : List Entry → List Entry → List Entry
longer xs ys = cond (ltb (length xs) (length ys)) ys xs

-- join: one has all that both had, and the other nothing any more
abbrev pub joined : Caller → Caller → Caller
joined v u = record v { allowance = v.allowance + u.allowance; seen = longer v.seen u.seen; mine = v.mine ++ u.mine; broke = v.broke ++ u.broke; met = v.met ++ u.met }

abbrev pub spent : Caller
spent = record { live = false; allowance = 0; held = []; want = None; out = []; seen = []; base = []; mine = []; breaking = []; broke = []; met = [] }
