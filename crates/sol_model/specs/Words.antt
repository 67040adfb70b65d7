-- Facts in words: 64 locations a word, the lowest bit first.
use Rattle.std.specs.Prelude.{◌≡◌, ℕ, ◌+◌, ◌*◌, ◌/◌, ◌%◌, ◌<◌, nat_lt, ◌&&◌}
use Rattle.std.specs.Int.{bit_at}
use Rattle.sol_model.specs.declared.system.System.{System}
use Rattle.sol_model.specs.Families.{Family}
use Rattle.sol_model.specs.Systems.{location_count}

-- one word's locations are in another's
abbrev pub Within : ℕ → ℕ → Type 0
Within a b = (k : ℕ) → bit_at a k ≡ 1 → bit_at b k ≡ 1

-- a fact of a mask at the word of this number
abbrev pub At : ℕ → ℕ → ℕ → ℕ → ℕ → Type 0
At width word mask row location =
    (location < 64 * width) × (row * width + location / 64 ≡ word) × (bit_at mask (location % 64) ≡ 1)

-- every fact in range
abbrev pub full : System → Family
full S = λ row location. nat_lt row S.rows && nat_lt location (location_count S)
