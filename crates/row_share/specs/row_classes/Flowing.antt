-- What can add to each row by itself.
use Rattle.std.specs.Prelude.{◌≡◌, ◌⊎◌, ℕ, ◌<◌, true, false, List, [], ◌∷◌, length, slice_index_or}
use Rattle.sol_model.specs.declared.system.System.{System}
use Rattle.sol_model.specs.declared.system.Constraint.{Constraint}
use Rattle.sol_model.specs.declared.system.Constraint.TheVariants.{Copy}
use Rattle.row_share.specs.declared.row_classes.inflow.Inflow.{Inflow}
use Rattle.row_share.specs.declared.row_classes.inflow.Inflow.TheVariants.{Nothing, CopyOf, More}
use Rattle.row_share.specs.share_laws.Classes.{Follows, adds_to}
use Rattle.sol_model.specs.Systems.{IsRow}

-- of no constraint, of one copy, and of anything else
abbrev pub inflow_of : List Constraint → Inflow
inflow_of [] = Nothing
inflow_of (Copy from to ∷ []) = CopyOf from
inflow_of _ = More

-- the entry of a row; past the end, something
abbrev pub inflow_at : List Inflow → ℕ → Inflow
inflow_at inflows row = slice_index_or inflows row More

-- one constraint was noted
pub record Notes (constraint : Constraint) (row : ℕ) (before after : Inflow) : Type 0 where
  pub other : adds_to row constraint ≡ false → after ≡ before
  pub first : adds_to row constraint ≡ true → before ≡ Nothing → after ≡ inflow_of (constraint ∷ [])
  pub further : adds_to row constraint ≡ true → (before ≡ Nothing → ⊥) → after ≡ More

-- a row's entry shows the row that it follows
pub record AreInflows (S : System) (inflows : List Inflow) : Type 0 where
  pub sized : length inflows ≡ S.rows
  pub shown : (row from : ℕ) → IsRow S row → Follows S row from → inflow_at inflows row ≡ CopyOf from
  pub follows : (row from : ℕ) → IsRow S row → inflow_at inflows row ≡ CopyOf from → Follows S row from

-- some rows' entries became More, and no others changed
pub record Bars (rows : ℕ → Type 0) (old new : List Inflow) : Type 0 where
  pub sized : length new ≡ length old
  pub each : (row : ℕ)
      → row < length old
      → ((inflow_at new row ≡ More) × rows row) ⊎ ((inflow_at new row ≡ inflow_at old row) × (rows row → ⊥))
