-- Sets of locations, one for each row.
use Rattle.std.specs.Prelude.{◌≡◌, ◌⊎◌, ℕ, ◌+◌, ◌*◌, ◌≤◌, length, sum_by, ◌-◌, ◌^◌, ◌/◌, ◌%◌, Bool, ◌&&◌, IsTrue}
use Rattle.std.specs.Prelude.{IsFalse, nat_lt, ◌==◌, List, slice_index}
use Rattle.std.specs.Int.{bit_at}
use Rattle.sol_model.specs.declared.rows.Rows.{Rows}
use Rattle.sol_model.specs.declared.rows.Fact.{Fact}

-- whether a row's set has a location
abbrev pub Family : Type 0
Family = ℕ → ℕ → Bool

-- the row's set has the location
abbrev pub Has : Family → ℕ → ℕ → Type 0
Has F row location = IsTrue (F row location)

-- the set of one row is contained in that of another
abbrev pub IsContained : Family → ℕ → ℕ → Type 0
IsContained F from to = (location : ℕ) → Has F from location → Has F to location

-- each row's set is contained in the same row's set of another family
abbrev pub IsInside : Family → Family → Type 0
IsInside F G = (row location : ℕ) → Has F row location → Has G row location

-- the new family has one more fact, and all that the old one had
pub record Adds (old new : Family) (row location : ℕ) : Type 0 where
  pub added : Has new row location
  pub kept : IsInside old new
  pub nothing_else : (r l : ℕ) → Has new r l → Has old r l ⊎ ((r ≡ row) × (l ≡ location))

-- the new family has what one row had in another row too, and all that the old one had
pub record AddsAll (old new : Family) (from to : ℕ) : Type 0 where
  pub added : (location : ℕ) → Has old from location → Has new to location
  pub kept : IsInside old new
  pub nothing_else : (r l : ℕ) → Has new r l → Has old r l ⊎ ((r ≡ to) × Has old from l)

-- the family that words show: the bit location % 64 of the word row * width + location / 64
unfoldable pub shown : ℕ → List ℕ → Family
shown width words row location =
    nat_lt location (64 * width) && (bit_at (slice_index words (row * width + location / 64)) (location % 64) == 1)

-- the family of rows
abbrev pub members : Rows → Family
members rows = shown rows.width rows.words

-- the words of the row are there
abbrev pub HoldsRow : Rows → ℕ → Type 0
HoldsRow rows row = row * rows.width + rows.width ≤ length rows.words

-- how far the words are from being all ones; each new fact makes it less
abbrev pub room_left : Rows → ℕ
room_left rows = sum_by (λ word. 2 ^ 64 - word) rows.words

-- a location that one row has and another lacks
pub record IsLacked (F : Family) (from to : ℕ) (fact : Fact) : Type 0 where
  pub row : fact.row ≡ to
  pub has : Has F from fact.location
  pub lacks : IsFalse (F to fact.location)
