-- The stripe of a key.
use Rattle.std.specs.Prelude.{ℕ, ◌%◌}

abbrev pub stripe_of : (mix n : ℕ) → ℕ
stripe_of mix n = mix % n
