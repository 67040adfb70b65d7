-- The edges of a book by the row that they leave.
use Rattle.std.specs.Prelude.{◌≡◌, ℕ, ◌==◌, ◌<◌, List, [], length, map, filter, Some, slice_get, Vec, vec_capacity}
use Rattle.std.specs.declared.alloc.Global.{Global}
use Rattle.std.specs.Option.{option_map_or}

-- the list of a row, where the lists of all rows stand one after another; one past the end is empty
abbrev pub listed : List (Vec ℕ Global) → ℕ → List ℕ
listed lists row = option_map_or (λ list. list.items) (slice_get lists row) []

-- the rows to which edges lead from a row, in order of arrival
abbrev pub targets_of : ℕ → List (ℕ × ℕ) → List ℕ
targets_of row book = map (λ edge. edge.1) (filter (λ edge. edge.0 == row) book)

-- each row's list has the targets of the edges that leave it
abbrev pub IsIndexed : List (Vec ℕ Global) → List (ℕ × ℕ) → Type 0
IsIndexed lists book = (row : ℕ) → listed lists row ≡ targets_of row book

-- the row's list has room for one row more
abbrev pub HasRoom : List (Vec ℕ Global) → ℕ → Type 0
HasRoom lists row = (list : Vec ℕ Global) → slice_get lists row ≡ Some list → length list.items < vec_capacity list
