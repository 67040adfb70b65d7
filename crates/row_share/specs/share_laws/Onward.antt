-- Copies that lead on alone, and so round no cycle.
use Rattle.std.specs.Prelude.{◌≡◌, ◌⊎◌, ℕ, ◌<◌, ◌≤◌, ⊤, All, List, slice_index}
use Rattle.sol_model.specs.declared.system.System.{System}
use Rattle.sol_model.specs.declared.system.Constraint.{Constraint}
use Rattle.sol_model.specs.declared.system.Constraint.TheVariants.{Address, Copy, Load, Store, Field, Contents}
use Rattle.sol_model.specs.declared.system.Constraint.TheVariants.{Call}
use Rattle.sol_model.specs.Systems.{location_count}
use Rattle.row_share.specs.share_laws.Classes.{Follows}

-- with so many locations: a copy leads from no location's row, and to a location's row or to a later row
abbrev pub LeadsOn : ℕ → Constraint → Type 0
LeadsOn locations (Copy from to) = (locations ≤ from) × ((to < locations) ⊎ (from < to))
LeadsOn locations (Address to location) = ⊤
LeadsOn locations (Load pointer to ty sub) = ⊤
LeadsOn locations (Store pointer from ty sub) = ⊤
LeadsOn locations (Field from to ty member) = ⊤
LeadsOn locations (Contents to from) = ⊤
LeadsOn locations (Call number) = ⊤

-- each copy of the system does
abbrev pub CopiesLeadOn : System → Type 0
CopiesLeadOn S = All (LeadsOn (location_count S)) S.constraints

-- the first row of a row's class, by those of other rows: that of the row that it follows; itself where it follows none
abbrev pub IsFirstOf : System → List ℕ → ℕ → ℕ → Type 0
IsFirstOf S rows row first =
    ((first ≡ row) × ((from : ℕ) → Follows S row from → ⊥))
    ⊎ ((from : ℕ) × Follows S row from × (first ≡ slice_index rows from))
