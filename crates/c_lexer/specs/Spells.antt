-- A word in a text.
use Rattle.std.specs.Prelude.{◌≡◌, ℕ, ◌+◌, ◌<◌, ◌≤◌, List, length, slice_index}

-- a word stands at a place
abbrev pub Spells : List ℕ → ℕ → List ℕ → Type 0
Spells text from word =
    (from + length word ≤ length text)
    × ((i : ℕ) → i < length word → slice_index text (from + i) ≡ slice_index word i)
