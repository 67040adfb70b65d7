-- Rows by class, while classes are given.
use Rattle.std.specs.Prelude.{◌≡◌, ◌⊎◌, ℕ, ◌+◌, ◌≤◌, ◌<◌, List, [], ◌∷◌, ◌++◌, Option, Some, None, length, Contains}
use Rattle.std.specs.Prelude.{slice_index, slice_index_or, slice_set}
use Rattle.sol_model.specs.declared.system.System.{System}
use Rattle.sol_model.specs.Systems.{IsRow}
use Rattle.row_share.specs.share_laws.Classes.{IsCopy, Reaches, Follows, AreTogether}
use Rattle.row_share.specs.share_laws.Orders.{IsOrder}

-- the class of a row; none where it has none yet
abbrev pub class_of : List (Option ℕ) → ℕ → Option ℕ
class_of classes row = slice_index_or classes row None

abbrev pub HasClass : List (Option ℕ) → ℕ → Type 0
HasClass classes row = (class : ℕ) × (class_of classes row ≡ Some class)

-- what leads along a copy to a row with a class has one
abbrev pub IsClosedBack : System → List (Option ℕ) → Type 0
IsClosedBack S classes = (from to : ℕ) → IsCopy S from to → HasClass classes to → HasClass classes from

-- the row reaches the row at a place of the order, which reaches all rows from that row's place to its own
pub record IsNear (S : System) (order : List ℕ) (last row : ℕ) : Type 0 where
  pub up : Reaches S row (slice_index order last)
  pub place : ℕ
  pub within : place ≤ last
  pub at : slice_index order place ≡ row
  pub down : (j : ℕ) → place ≤ j → j ≤ last → Reaches S (slice_index order last) (slice_index order j)

-- some rows near the one at a place got its class; the rows that lead to those that wait may still lack it
pub record IsGathering (S : System) (order : List ℕ) (last class : ℕ) (old new : List (Option ℕ))
    (waiting : List ℕ) : Type 0 where
  pub sized : length new ≡ length old
  pub each : (row : ℕ)
      → (class_of new row ≡ class_of old row)
      ⊎ ((class_of old row ≡ None) × (class_of new row ≡ Some class) × IsNear S order last row)
  pub begun : class_of new (slice_index order last) ≡ Some class
  pub waits : (row : ℕ) → Contains waiting row → IsNear S order last row
  pub closed : (from to : ℕ) → IsCopy S from to → HasClass new to → HasClass new from ⊎ Contains waiting to

-- rows have classes so far: rows with one class are together, and what is together with them has it too
pub record ArePartly (S : System) (classes : List (Option ℕ)) : Type 0 where
  pub sized : length classes ≡ S.rows
  pub known : (row class : ℕ) → class_of classes row ≡ Some class → IsRow S class × AreTogether S row class
  pub closed : IsClosedBack S classes
  pub cycles : (a b : ℕ)
      → Reaches S a b
      → Reaches S b a
      → HasClass classes a
      → class_of classes a ≡ class_of classes b
  pub followed : (row from : ℕ)
      → Follows S row from
      → HasClass classes row
      → class_of classes row ≡ class_of classes from

-- the class for a row without one: that of the row that it follows, where that one has a class, else the row itself
abbrev pub IsClassFor : System → List (Option ℕ) → ℕ → ℕ → Type 0
IsClassFor S classes row class =
    ((class ≡ row) × ((from : ℕ) → Follows S row from → class_of classes from ≡ None))
    ⊎ ((from : ℕ) × Follows S row from × (class_of classes from ≡ Some class))

-- for each row the first with the same class
pub record AreFirst (classes : List (Option ℕ)) (rows : List ℕ) : Type 0 where
  pub count : length rows ≡ length classes
  pub same : (row : ℕ)
      → row < length classes
      → (slice_index rows row ≤ row) × (class_of classes (slice_index rows row) ≡ class_of classes row)
  pub first : (row other : ℕ)
      → row < length classes
      → other < length classes
      → class_of classes other ≡ class_of classes row
      → slice_index rows row ≤ other

-- how many rows have no class
abbrev pub unclassed : List (Option ℕ) → ℕ
unclassed [] = 0
unclassed (None ∷ classes) = 1 + unclassed classes
unclassed (Some class ∷ classes) = unclassed classes

-- the same, with what it stands on: the order, of which all rows behind the place have classes
pub record IsUnderWay (S : System) (order : List ℕ) (last class : ℕ) (old new : List (Option ℕ))
    (waiting : List ℕ) : Type 0 where
  pub is : IsOrder S order
  pub inside : last < length order
  pub sized : length old ≡ S.rows
  pub after : (i : ℕ) → last < i → i < length order → HasClass old (slice_index order i)
  pub gathering : IsGathering S order last class old new waiting

-- one row was given the class, or had one
pub record Gives (class row : ℕ) (old new : List (Option ℕ)) (before after : List ℕ) : Type 0 where
  pub done : ((new ≡ old) × (after ≡ before) × HasClass old row)
      ⊎ ((new ≡ slice_set old row (Some class)) × (after ≡ before ++ row ∷ []) × (class_of old row ≡ None))
