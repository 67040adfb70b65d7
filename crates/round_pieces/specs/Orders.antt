-- Lists of rows, and a mark for each row.
use Rattle.std.specs.Prelude.{◌≡◌, ℕ, ◌↔◌, Bool, true, false, List, Contains, slice_index_or}

-- a row stands in the list just where its mark is set
abbrev pub AreMarked : List ℕ → List Bool → Type 0
AreMarked rows marks = (row : ℕ) → (Contains rows row ↔ (slice_index_or marks row false ≡ true))
