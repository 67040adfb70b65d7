-- Pairs in order, each once.
use Rattle.std.specs.Prelude.{◌≡◌, ℕ, ◌<◌, ◌⊎◌, List, AllPairs}

-- by the first number, and then by the second
abbrev pub IsBefore : ℕ × ℕ → ℕ × ℕ → Type 0
IsBefore one other = (one.0 < other.0) ⊎ ((one.0 ≡ other.0) × (one.1 < other.1))

-- each pair is before all later ones, so that none stands twice
abbrev pub IsInOrder : List (ℕ × ℕ) → Type 0
IsInOrder pairs = AllPairs IsBefore pairs
