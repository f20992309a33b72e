-- The core as the program keeps it: plain data, in which a caller's histories are lengths.
use Rattle.std.specs.Prelude.{◌≡◌, ℕ, zero, suc, ◌+◌, Bool, true, false, List, [], ◌∷◌, length, reverse, replicate, get_or}
use Rattle.tk_model.specs.declared.record.Entry.{Entry}
use Rattle.tk_model.specs.declared.record.Entry.TheVariants as entries
use Rattle.tk_core.specs.declared.frame.Frame.{Frame}
use Rattle.tk_core.specs.declared.machine.Row.{Row}
use Rattle.tk_core.specs.Caller.{Caller}
use Rattle.tk_core.specs.States.{State, IsSound, IsCaller}
use Rattle.tk_core.specs.Steps.{Steps, first_caller}
use Rattle.tk_core.specs.declared.moves.Move.{Move}

-- the state of the core, as contracts see it: a list for each function of the rule, and 0 or false past its end
pub record CoreState : Type 0 where
  pub frame : Frame
  pub log : List Entry
  pub owners : List ℕ
  pub spoilt : List Bool
  pub away : List Bool
  pub callers : List Caller

-- each map meets the law, and each store stands for what it is given: the core has no files
abbrev pub state_of : CoreState → State
state_of c = record {
  law = λ m. true;
  first = [];
  log = c.log;
  owner = λ l. get_or c.owners l 0;
  spoilt = λ i. get_or c.spoilt i false;
  away = λ i. get_or c.away i false;
  stands = λ i gs n. true;
  callers = c.callers;
}

-- the first so many calls of the history; where it has fewer, a clear stands for each that it lacks
abbrev pub firsts : ℕ → List Entry → List Entry
firsts zero log = []
firsts (suc n) [] = entries.Clear ∷ firsts n []
firsts (suc n) (e ∷ es) = e ∷ firsts n es

-- the calls of these numbers, with them
abbrev pub numbered : List Entry → List ℕ → List (ℕ × Entry)
numbered log [] = []
numbered log (n ∷ ns) = (n, get_or log n entries.Clear) ∷ numbered log ns

abbrev pub caller_of : List Entry → Row → Caller
caller_of log r =
    record { live = r.live; allowance = r.allowance; held = r.held.items; want = r.want; out = r.out.items; seen = firsts r.seen log; base = firsts r.base log; mine = numbered log (reverse r.mine.items); breaking = r.breaking.items; broke = r.broke.items; met = r.met.items }

-- a move is done where the answer says so; where not, no state follows, and nothing changed
pub record IsAnswer (x : Move) (c d : CoreState) (is_done : Bool) : Type 0 where
  pub frame : d.frame ≡ c.frame
  pub done : is_done ≡ true → Steps c.frame x (state_of c) (state_of d)
  pub refused : is_done ≡ false → (d ≡ c) × ((t : State) → Steps c.frame x (state_of c) t → ⊥)

-- this number is a caller's, of whom this is so
abbrev pub AnyCaller : CoreState → ℕ → (Caller → Type 0) → Type 0
AnyCaller c id P = (v : Caller) × IsCaller (state_of c) id v × P v

abbrev pub owner_of : CoreState → ℕ → ℕ
owner_of c l = get_or c.owners l 0

-- it meets the rule, and has an owner for each lock and two flags for each store
pub record IsCore (c : CoreState) : Type 0 where
  pub sound : IsSound c.frame (state_of c)
  pub owners : length c.owners ≡ c.frame.stripes + c.frame.stores
  pub spoilt : length c.spoilt ≡ c.frame.stores
  pub away : length c.away ≡ c.frame.stores

-- one caller, no call, each lock free and each store whole and at home
abbrev pub first_state : Frame → CoreState
first_state f = record {
  frame = f;
  log = [];
  owners = replicate (f.stripes + f.stores) 0;
  spoilt = replicate f.stores false;
  away = replicate f.stores false;
  callers = first_caller ∷ [];
}
