-- What the code keeps of the rows of functions' results.
use Rattle.std.specs.Prelude.{◌≡◌, ℕ, ◌<◌, ◌≤◌, ◌^◌, length, map}
use Rattle.std.specs.List.{range_with_len}
use Rattle.core_tree.specs.Typed.{CoreTrees}
use Rattle.obj_space.specs.View.{SpaceView}
use Rattle.row_numbers.specs.declared.results.Results.{Results}
use Rattle.row_numbers.specs.Functions.{function_keys, functions_of, number_at, objects_at}
use Rattle.row_numbers.specs.Setting.{result_row, none_row}

-- the numbers are those of the program
pub record AreResults (u : CoreTrees) (s : SpaceView) (r : Results) : Type 0 where
  pub at : r.at.items ≡ objects_at s (function_keys u) s.count
  pub functions : r.functions.items ≡ functions_of u s
  pub few : length (functions_of u s) < 2 ^ 32
  pub before : r.before.items ≡ map (number_at u s) (range_with_len 0 s.count)
  pub starts : r.starts.items ≡ map (result_row u s) (range_with_len 0 (length (functions_of u s)))
  pub none : r.none ≡ none_row u s
  pub small : none_row u s < 2 ^ 24
  pub locations : s.count ≤ none_row u s
  pub result_rows : (k : ℕ) → result_row u s k ≤ none_row u s
