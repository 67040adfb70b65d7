-- What each function may read and write, by itself and by all that it calls (Banning 1979).
use Rattle.std.specs.Prelude.{◌≡◌, ℕ, ◌*◌, List, Option, length}
use Rattle.core_tree.specs.declared.node.Program.{Program}
use Rattle.core_tree.specs.Typed.{trees_in}
use Rattle.sol_model.specs.declared.system.System.{System}
use Rattle.sol_model.specs.declared.rows.Rows.{Rows}
use Rattle.sol_model.specs.Families.{Family, Has, IsContained, IsInside, members}
use Rattle.sol_model.specs.Systems.{IsLocation, width_of}
use Rattle.sol_model.specs.Targets.{IsGraphEdge}
use Rattle.obj_space.specs.View.{SpaceView}
use Rattle.row_numbers.specs.Around.{AreOwners}
use Rattle.row_numbers.specs.Setting.{Setting}
use Rattle.normal_form.specs.SystemOf.{setting_of}
use Rattle.mod_ref.specs.declared.access.Access.{Access}
use Rattle.mod_ref.specs.declared.access.Access.TheVariants.{Read, Write}
use Rattle.mod_ref.specs.declared.effect_rows.Effects.{Effects}
use Rattle.mod_ref.specs.Direct.{Touches}

-- a family of sets, one for each function, has what each function touches itself, and the set of each callee is inside
-- that of its caller
pub record IsClosedTouch (Direct Calls : ℕ → ℕ → Type 0) (T : Family) : Type 0 where
  pub direct : (f location : ℕ) → Direct f location → Has T f location
  pub called : (caller callee : ℕ) → Calls caller callee → IsContained T callee caller

-- the least such family
pub record IsLeastTouch (Direct Calls : ℕ → ℕ → Type 0) (T : Family) : Type 0 where
  pub closed : IsClosedTouch Direct Calls T
  pub below : (G : Family) → IsClosedTouch Direct Calls G → IsInside T G

-- rows, one for each function of a system, have the least family of what the functions read, or of what they write
pub record IsTouch (w : Setting) (S : System) (F : Family) (access : Access) (rows : Rows) : Type 0 where
  pub width : rows.width ≡ width_of S
  pub words : length rows.words ≡ length S.functions * width_of S
  pub known : (f location : ℕ) → Has (members rows) f location → IsLocation S location
  pub least : IsLeastTouch (Touches w S F access) (IsGraphEdge S F) (members rows)

-- what the functions of a program read and write, by a family of sets of its system
pub record AreEffects (p : Program) (s : SpaceView) (S : System) (F : Family) (made : Effects) : Type 0 where
  pub owners : List (Option ℕ)
  pub around : AreOwners (trees_in p) owners
  pub reads : IsTouch (setting_of p s owners) S F Read made.reads
  pub writes : IsTouch (setting_of p s owners) S F Write made.writes
