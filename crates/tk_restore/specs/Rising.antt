-- Records whose hashes rise.
use Rattle.std.specs.Prelude.{◌≡◌, ℕ, ◌≤◌, nat_lt, Bool, true, List, [], ◌∷◌, Option, Some, None, Result, MatchResult, remove}
use Rattle.tk_model.specs.Hashes.{mix_of}
use Rattle.tk_model.specs.declared.record.Pair.{Pair}
use Rattle.tk_model.specs.Records.{without}

-- the record at this place is the key's, or none is
abbrev pub Stands : (key : List ℕ) → List Pair → Result ℕ ℕ → Type 0
Stands key m place = MatchResult place (λ i. without key m ≡ remove m i) (λ _. without key m ≡ m)

abbrev pub is_past : (last : Option ℕ) → (hash : ℕ) → Bool
is_past None hash = true
is_past (Some last) hash = nat_lt last hash

-- no key's hash is greater
abbrev pub AllUpto : (hash : ℕ) → List Pair → Type 0
AllUpto hash [] = Unit {0}
AllUpto hash (p ∷ ps) = (mix_of p.key ≤ hash) × AllUpto hash ps

abbrev pub IsUpto : (last : Option ℕ) → List Pair → Type 0
IsUpto None m = m ≡ []
IsUpto (Some hash) m = AllUpto hash m
