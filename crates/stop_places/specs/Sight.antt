-- What the code keeps of a program and its solution.
use Rattle.std.specs.Prelude.{◌≡◌, ℕ, ◌<◌, ◌≤◌, ◌^◌, ◌↔◌, ◌⊎◌, Bool, false, IsTrue, List, length, map}
use Rattle.std.specs.Prelude.{slice_index_or}
use Rattle.std.specs.List.{range_with_len}
use Rattle.c_types.specs.Table.{type_of}
use Rattle.core_tree.specs.declared.node.Program.{Program}
use Rattle.core_tree.specs.Typed.{trees_in}
use Rattle.core_tree.specs.Range.{InRange}
use Rattle.sol_model.specs.declared.system.System.{System}
use Rattle.sol_model.specs.Families.{Family, members}
use Rattle.sol_model.specs.Systems.{IsValid, Fits}
use Rattle.obj_space.specs.declared.location.Location.{Location}
use Rattle.obj_space.specs.View.{view_of}
use Rattle.row_numbers.specs.Numbers.{type_number}
use Rattle.row_numbers.specs.Setting.{row}
use Rattle.call_sites.specs.Calls.{calls_upto}
use Rattle.stop_places.specs.declared.sight.Sight.{Sight}
use Rattle.stop_places.specs.declared.targets.Judged.{Judged}
use Rattle.stop_places.specs.Fits.{Solution}
use Rattle.stop_places.specs.Far.{AreFar}
use Rattle.stop_places.specs.Targets.{CallAt, HasStranger, ReachesSomeLibrary, ReachesWalker, ReachesEnder}
use Rattle.stop_places.specs.Loose.{leads_to_array, IsLooseNode}
use Rattle.stop_places.specs.Found.{EachJudged}

abbrev pub solution_of : Program → List Location → System → Family → Solution
solution_of p space system F =
    record { trees = trees_in p; space = view_of space; system = system; family = F }

abbrev pub solution_in : Sight → Solution
solution_in s = solution_of s.program.now s.space.now s.system.now (members s.rows.now)

-- the lists are those of the program and of the family
pub record IsSight (s : Sight) : Type 0 where
  pub range : InRange (trees_in s.program.now)
  pub few : length s.program.now.nodes.items ≤ 2 ^ 24
  pub valid : IsValid s.system.now
  pub fits : Fits s.system.now s.rows.now
  pub firsts : s.firsts.now
      ≡ map (row (trees_in s.program.now) (view_of s.space.now))
      (range_with_len 0 (length s.program.now.nodes.items))
  pub known : (n : ℕ) → row (trees_in s.program.now) (view_of s.space.now) n < s.system.now.rows
  pub numbers : s.numbers.now
      ≡ map (λ id. type_number (type_of s.program.now.types id))
      (range_with_len 0 (length s.program.now.types.terms))
  pub leads : s.leads.now
      ≡ map (λ id. leads_to_array (type_of s.program.now.types id))
      (range_with_len 0 (length s.program.now.types.terms))
  pub far : AreFar s.program.now.nodes.items (length s.program.now.nodes.items) s.far.now
  pub calls : s.calls.now
      ≡ map (λ n. length (calls_upto s.program.now.nodes.items n))
      (range_with_len 0 (length s.program.now.nodes.items))
  pub judged : EachJudged s.system.now (members s.rows.now) (length s.system.now.calls) s.judged.now

-- what was found of the call at a node
pub record IsOfCall (x : Solution) (n : ℕ) (judged : Judged) : Type 0 where
  pub library : IsTrue judged.library ↔ CallAt x n ReachesSomeLibrary
  pub mismatch : IsTrue judged.mismatch ↔ CallAt x n ReachesWalker
  pub bad : IsTrue judged.bad ↔ (CallAt x n HasStranger ⊎ CallAt x n ReachesEnder)

-- for each of the first so many nodes, whether it is loose
pub record AreLoose (s : Sight) (count : ℕ) (loose : List Bool) : Type 0 where
  pub each : length loose ≡ count
  pub right : (n : ℕ) → n < count → IsTrue (slice_index_or loose n false) ↔ IsLooseNode (solution_in s).trees n
