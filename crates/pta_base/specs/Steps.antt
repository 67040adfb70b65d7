-- Calls that move a few bytes at a time.
use Rattle.std.specs.Prelude.{ℕ, Option, Some, None, min}

-- a count, or a bound on it where that is less
abbrev pub within : Option ℕ → ℕ → ℕ
within None count = count
within (Some step) count = min step count
