-- Which moves the core allows in a state, and what a list of moves does.
use Rattle.std.specs.Prelude.{◌≡◌, ◌^◌, ◌<◌, ℕ, Bool, true, false, List, [], ◌∷◌, None, ◌≤◌, length, take, drop}
use Rattle.tk_model.specs.Records.{Rising}
use Rattle.tk_model.specs.declared.record.Pair.{Pair}
use Rattle.tk_model.specs.declared.record.Group.{Group}
use Rattle.tk_model.specs.declared.record.Entry.{Entry}
use Rattle.tk_core.specs.declared.frame.Frame.{Frame}
use Rattle.tk_core.specs.declared.moves.Move.{Move}
use Rattle.tk_core.specs.declared.moves.Move.TheVariants as moves
use Rattle.tk_core.specs.Caller.{Caller}
use Rattle.tk_core.specs.Covers.{store_lock}
use Rattle.tk_core.specs.Needs.{MayTake, MayMiss, MayCommit, MayGiveStripe, MayGiveStore, MayLook, MayTakeOut, MayPutBack, MaySplit, MayJoin}
use Rattle.tk_core.specs.States.{State, IsCaller, after_take_stripe, after_take_store, after_miss, after_commit, after_give_stripe, after_give_store, after_look, after_out, after_back, after_split, after_join}

module _ (f : Frame) (s t : State) where
  pub record Takes (id l : ℕ) : Type 0 where
    pub caller : Caller
    pub is_caller : IsCaller s id caller
    pub needs : MayTake f s.owner l caller
    pub stripe : l < f.stripes → t ≡ after_take_stripe id caller l s
    pub store : (i : ℕ) → l ≡ store_lock f i → t ≡ after_take_store f id caller i s

  pub record Misses (id l : ℕ) : Type 0 where
    pub caller : Caller
    pub is_caller : IsCaller s id caller
    pub needs : MayMiss f s.owner l caller
    pub after : t ≡ after_miss id caller l s

  pub record Commits (id : ℕ) (e : Entry) : Type 0 where
    pub caller : Caller
    pub is_caller : IsCaller s id caller
    pub needs : MayCommit f (λ m. s.law m ≡ true) s.first e caller
    pub after : t ≡ after_commit id caller e s

  pub record Gives (id l : ℕ) : Type 0 where
    pub caller : Caller
    pub is_caller : IsCaller s id caller
    pub stripe : l < f.stripes → MayGiveStripe f l caller × (t ≡ after_give_stripe id caller l s)
    pub store : (i : ℕ) → l ≡ store_lock f i → MayGiveStore f i caller × (t ≡ after_give_store f id caller i s)

  pub record Looks (id : ℕ) : Type 0 where
    pub caller : Caller
    pub is_caller : IsCaller s id caller
    pub needs : MayLook caller
    pub after : t ≡ after_look id caller s

  pub record TakesOut (id i : ℕ) : Type 0 where
    pub caller : Caller
    pub is_caller : IsCaller s id caller
    pub needs : MayTakeOut f i caller
    pub after : t ≡ after_out id caller i s

  pub record PutsBack (id i : ℕ) (is_broken : Bool) : Type 0 where
    pub caller : Caller
    pub is_caller : IsCaller s id caller
    pub now : List Group → ℕ → Bool
    pub needs : MayPutBack f s.first s.log (λ gs n. now gs n ≡ true) i is_broken caller
    pub after : t ≡ after_back id caller i is_broken now s

  pub record Splits (id : ℕ) : Type 0 where
    pub caller : Caller
    pub is_caller : IsCaller s id caller
    pub needs : MaySplit (length s.callers) caller
    pub after : t ≡ after_split id caller s

  pub record Joins (id other : ℕ) : Type 0 where
    pub caller : Caller
    pub is_caller : IsCaller s id caller
    pub gone : Caller
    pub is_gone : IsCaller s other gone
    pub needs : MayJoin id other caller gone
    pub after : t ≡ after_join id other caller gone s

-- the move is allowed in the first state, and leads to the second
abbrev pub Steps : Frame → Move → State → State → Type 0
Steps f (moves.Take id l) s t = Takes f s t id l
Steps f (moves.Miss id l) s t = Misses f s t id l
Steps f (moves.Commit id e) s t = Commits f s t id e
Steps f (moves.Give id l) s t = Gives f s t id l
Steps f (moves.Look id) s t = Looks f s t id
Steps f (moves.Out id i) s t = TakesOut f s t id i
Steps f (moves.Back id i is_broken) s t = PutsBack f s t id i is_broken
Steps f (moves.Split id) s t = Splits f s t id
Steps f (moves.Join id other) s t = Joins f s t id other

-- the moves are allowed in turn
abbrev pub Runs : Frame → List Move → State → State → Type 0
Runs f [] s t = t ≡ s
Runs f (x ∷ xs) s t = (u : State) × Steps f x s u × Runs f xs u t

-- a list of moves is done as far as it is allowed: so many of them, and the next is not allowed
pub record RunsFar (f : Frame) (xs : List Move) (s t : State) (n : ℕ) : Type 0 where
  pub within : n ≤ length xs
  pub done : Runs f (take n xs) s t
  pub stops : (x : Move) (rest : List Move) → drop n xs ≡ x ∷ rest → (u : State) → Steps f x t u → ⊥

abbrev pub first_caller : Caller
first_caller = record { live = true; allowance = 2 ^ 62; held = []; want = None; out = []; seen = []; base = []; mine = []; breaking = []; broke = []; met = [] }

-- one caller, no call, each lock free and each store whole and at home
abbrev pub start : (List Pair → Bool) → List Pair → (ℕ → List Group → ℕ → Bool) → State
start law m stands = record { law = law; first = m; log = []; owner = λ _. 0; spoilt = λ _. false; away = λ _. false; stands = stands; callers = first_caller ∷ [] }

-- the first map meets the law, and each store stands for no groups yet
pub record MayStart (f : Frame) (law : List Pair → Bool) (m : List Pair) (stands : ℕ → List Group → ℕ → Bool) : Type 0 where
  pub rising : Rising f.order m
  pub lawful : law m ≡ true
  pub empty : (i : ℕ) → i < f.stores → stands i [] 0 ≡ true
