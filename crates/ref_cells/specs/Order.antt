-- The order of cells: by path, a whole before its parts.
use Rattle.std.specs.Prelude.{◌≡◌, ◌<◌, ◌⊎◌, List, [], ◌∷◌}
use Rattle.c_types.specs.declared.term.PathStep.{PathStep}
use Rattle.ref_cells.specs.declared.cells.Cell.{Cell}
use Rattle.ref_cells.specs.Cells.{step_key}

-- one path stands before another: at the first step in which they differ it has the smaller one, or it ends there
abbrev pub IsBefore : List PathStep → List PathStep → Type 0
IsBefore p [] = ⊥
IsBefore [] (b ∷ q) = Unit {0}
IsBefore (a ∷ p) (b ∷ q) = (step_key a < step_key b) ⊎ ((step_key a ≡ step_key b) × IsBefore p q)

-- a path stands before each of these
abbrev pub IsBeforeAll : List PathStep → List (List PathStep × Cell) → Type 0
IsBeforeAll p [] = Unit {0}
IsBeforeAll p (e ∷ rest) = IsBefore p e.0 × IsBeforeAll p rest

-- each path stands before those behind it, so none stands twice
abbrev pub IsOrdered : List (List PathStep × Cell) → Type 0
IsOrdered [] = Unit {0}
IsOrdered (e ∷ rest) = IsBeforeAll e.0 rest × IsOrdered rest
