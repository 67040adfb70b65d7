-- In which words of a row anything is done of it.
use Rattle.std.specs.Prelude.{◌≡◌, ◌⊎◌, ℕ, ◌/◌, ◌<◌, ◌≤◌, List, Some, slice_get}
use Rattle.sol_model.specs.declared.rows.Rows.{Rows}
use Rattle.sol_model.specs.Families.{Has, members}
use Rattle.round_settling.specs.declared.extent.Extent.{Extent}

-- all that is done of a row that has an extent is in the words of it
abbrev pub AreExtents : Rows → List Extent → Type 0
AreExtents done extents =
    (row location : ℕ) (extent : Extent)
    → Has (members done) row location
    → slice_get extents row ≡ Some extent
    → (extent.first ≤ location / 64) × (location / 64 < extent.end)

-- a word isn't in the extent of a row
abbrev pub IsOutside : List Extent → ℕ → ℕ → Type 0
IsOutside extents row k =
    (extent : Extent) × (slice_get extents row ≡ Some extent) × ((k < extent.first) ⊎ (extent.end ≤ k))

-- each extent has what it had, and that of one row has the words from one number on and below another
abbrev pub IsWidened : List Extent → List Extent → ℕ → ℕ → ℕ → Type 0
IsWidened old new row first end =
    (r : ℕ) (now : Extent)
    → slice_get new r ≡ Some now
    → (was : Extent) × (slice_get old r ≡ Some was) × (now.first ≤ was.first) × (was.end ≤ now.end)
    × (r ≡ row → (now.first ≤ first) × (end ≤ now.end))
