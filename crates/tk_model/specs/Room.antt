-- A list, and the room behind it.
use Rattle.std.specs.Prelude.{ℕ, List, refl}
use Rattle.std.specs.Coded.{Coded, code_by, coded×, coded_ℕ, coded_list}

pub record ListWithRoom (T : Type 0) : Type 0 where
  pub items : List T
  -- how many more items it takes without memory
  pub room : ℕ

-- stored as the pair of both
abbrev pub room_code : {T : Type 0} → Coded T → Coded (ListWithRoom T)
room_code {T} code =
    code_by (List T × ℕ) (coded× (coded_list code) coded_ℕ) (λ l. (l.items, l.room)) (λ p. record { items = p.0; room = p.1 }) (λ _. refl)
