-- A list of processors: each call goes to the next member.
use Rattle.std.specs.Prelude.{ℕ, List, [], ◌∷◌, ◌++◌, Option, refl}
use Rattle.std.specs.Coded.{Coded, code_by, coded×, coded_list}
use Rattle.tk_model.specs.declared.record.Action.{Action}
use Rattle.tk_model.specs.declared.record.Action.TheVariants.{Keep}

-- the members that had their call, and those that wait for it
pub record Members (P : Type 0) : Type 0 where
  pub asked : List P
  pub waiting : List P

-- stored as the pair of both
abbrev pub members_code : {P : Type 0} → Coded P → Coded (Members P)
members_code {P} code =
    code_by (List P × List P) (coded× (coded_list code) (coded_list code)) (λ l. (l.asked, l.waiting)) (λ p. record { asked = p.0; waiting = p.1 }) (λ _. refl)

-- all members, in the order of their calls
abbrev pub all_members : {P : Type 0} → Members P → List P
all_members l = l.asked ++ l.waiting

-- the first that waits answers; where none does, the record stays
abbrev pub first_acts : {P : Type 0} → (P → List ℕ → Option (List ℕ) → Action) → (waiting : List P) → List ℕ → Option (List ℕ) → Action
first_acts acts [] k was = Keep
first_acts acts (p ∷ ps) k was = acts p k was

-- behind that call it is one of those that had theirs
abbrev pub first_turns : {P : Type 0} → (P → List ℕ → Option (List ℕ) → P) → (asked waiting : List P) → List ℕ → Option (List ℕ) → Members P
first_turns turns asked [] k was = record { asked = asked; waiting = [] }
first_turns turns asked (p ∷ ps) k was = record { asked = asked ++ turns p k was ∷ []; waiting = ps }
