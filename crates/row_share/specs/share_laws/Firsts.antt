-- The first rows of classes, as far as rows were gone through.
use Rattle.std.specs.Prelude.{◌≡◌, ◌⊎◌, ℕ, ◌≤◌, ◌<◌, List, Option, Some, None, length, slice_index, slice_index_or}
use Rattle.row_share.specs.share_laws.Gathered.{class_of}

-- what a table has for a class: nothing, and no row so far has it, or the first row that has it
abbrev pub IsFirstSo : List (Option ℕ) → List (Option ℕ) → ℕ → ℕ → Type 0
IsFirstSo classes table n class =
    ((slice_index_or table class None ≡ None) × ((k : ℕ) → k < n → class_of classes k ≡ Some class → ⊥))
    ⊎ ((m : ℕ) × (slice_index_or table class None ≡ Some m) × (m < n) × (class_of classes m ≡ Some class)
    × ((k : ℕ) → k < n → class_of classes k ≡ Some class → m ≤ k))

pub record AreFirstSo (classes table : List (Option ℕ)) (rows : List ℕ) (n : ℕ) : Type 0 where
  pub sized : length table ≡ length classes
  pub count : length rows ≡ n
  pub firsts : (class : ℕ) → class < length classes → IsFirstSo classes table n class
  pub same : (row : ℕ)
      → row < n
      → (slice_index rows row ≤ row) × (class_of classes (slice_index rows row) ≡ class_of classes row)
  pub first : (row other : ℕ)
      → row < n
      → class_of classes other ≡ class_of classes row
      → slice_index rows row ≤ other
