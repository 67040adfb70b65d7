-- The text of what each function may read and write.
use Rattle.std.specs.Prelude.{◌≡◌, ℕ, ◌+◌, ◌*◌, ◌^◌, ◌<◌, ◌≤◌, List, [], ◌∷◌, ◌++◌, Option, Some, None, codes}
use Rattle.core_tree.specs.declared.node.Program.{Program}
use Rattle.sol_model.specs.declared.system.System.{System}
use Rattle.sol_model.specs.declared.system.Function.{Function}
use Rattle.sol_model.specs.declared.rows.Rows.{Rows}
use Rattle.sol_model.specs.Families.{Family, Has, HoldsRow, members}
use Rattle.sol_model.specs.Systems.{location_count}
use Rattle.sol_model.specs.Solutions.{IsLeast}
use Rattle.call_graph.specs.row_members.Members.{members_in}
use Rattle.obj_space.specs.declared.location.Location.{Location}
use Rattle.obj_space.specs.View.{view_of}
use Rattle.unit_report.specs.report_text.Report.{name_in, names_of, text_of}
use Rattle.mod_ref.specs.declared.effect_rows.Effects.{Effects}
use Rattle.mod_ref.specs.Touch.{AreEffects}

-- a title, the name of a function, and the names of the members of its row, in order of location
abbrev pub touch_line : List ℕ → List Location → System → Family → ℕ → Function → List ℕ
touch_line title space system T f function =
    title ++ codes " " ++ name_in space function.location ++ codes ":" ++ names_of space (members_in system T f)

-- the two lines of a function that a unit defines, which is none of the library
abbrev pub lines_by : List Location → System → Family → Family → ℕ → Function → Option ℕ → List (List ℕ)
lines_by space system reads writes f function None =
    touch_line (codes "reads") space system reads f function
    ∷ touch_line (codes "writes") space system writes f function
    ∷ []
lines_by space system reads writes f function (Some library) = []

-- those of functions of which the first has number k
abbrev pub lines_from : List Location → System → Family → Family → ℕ → List Function → List (List ℕ)
lines_from space system reads writes k [] = []
lines_from space system reads writes k (function ∷ rest) =
    lines_by space system reads writes k function function.library
    ++ lines_from space system reads writes (k + 1) rest

-- the lines; functions stand in the order of their locations
abbrev pub effect_lines : List Location → System → Family → Family → List (List ℕ)
effect_lines space system reads writes =
    codes "effects 1" ∷ (lines_from space system reads writes 0 system.functions ++ codes "end" ∷ [])

-- the row of a function can be listed: it is there, its words show all locations, and it has none that is no location
pub record IsListable (system : System) (rows : Rows) (row : ℕ) : Type 0 where
  pub held : HoldsRow rows row
  pub narrow : 64 * rows.width < 2 ^ 32
  pub wide : location_count system ≤ 64 * rows.width
  pub known : (location : ℕ) → Has (members rows) row location → location < location_count system

-- a text is that of a family of rows
pub record IsEffectsText (p : Program) (space : List Location) (system : System) (F : Family)
    (text : List ℕ) : Type 0 where
  pub made : Effects
  pub are : AreEffects p (view_of space) system F made
  pub text_is : text ≡ text_of (effect_lines space system (members made.reads) (members made.writes))

-- a text is that of the least solution of the program's system
pub record IsProgramEffects (p : Program) (space : List Location) (system : System) (text : List ℕ) : Type 0 where
  pub family : Family
  pub least : IsLeast system family
  pub effects : IsEffectsText p space system family text
