-- What the code keeps of a program's rows.
use Rattle.std.specs.Prelude.{◌≡◌, ℕ, ◌+◌, ◌<◌, ◌≤◌, ◌^◌, length, map}
use Rattle.std.specs.List.{range_with_len}
use Rattle.core_tree.specs.declared.node.Program.{Program}
use Rattle.core_tree.specs.Typed.{CoreTrees, trees_in}
use Rattle.core_tree.specs.Range.{InRange}
use Rattle.obj_space.specs.View.{SpaceView, view_of}
use Rattle.row_numbers.specs.declared.frame.Numbering.{Numbering}
use Rattle.row_numbers.specs.declared.frame.Numbers.{Numbers}
use Rattle.row_numbers.specs.declared.frame.Numbers.TheVariants.{Few, Many}
use Rattle.row_numbers.specs.declared.frame.Frame.{Frame}
use Rattle.row_numbers.specs.Functions.{functions_of, number_at}
use Rattle.row_numbers.specs.Setting.{Setting, row, result_row, none_row}

-- the numbers are those of the program
pub record AreNumbers (u : CoreTrees) (s : SpaceView) (n : Numbering) : Type 0 where
  pub functions : n.functions.items ≡ functions_of u s
  pub few : length (functions_of u s) < 2 ^ 32
  pub before : n.before.items ≡ map (number_at u s) (range_with_len 0 s.count)
  pub rows : n.rows.items ≡ map (row u s) (range_with_len 0 (length u.nodes))
  pub results : n.results.items ≡ map (result_row u s) (range_with_len 0 (length (functions_of u s)))
  pub none : n.none ≡ none_row u s
  pub small : none_row u s < 2 ^ 24
  pub locations : s.count ≤ none_row u s
  -- past the last function's rows there is none
  pub past : (number : ℕ) → length (functions_of u s) ≤ number → result_row u s number ≡ none_row u s
  pub node_rows : (k : ℕ) → row u s k ≤ none_row u s
  pub result_rows : (k : ℕ) → result_row u s k ≤ none_row u s

abbrev pub NumbersOf : CoreTrees → SpaceView → Numbers → Type 0
NumbersOf u s (Few n) = AreNumbers u s n
NumbersOf u s (Many rows) = (rows ≡ none_row u s + 1) × (2 ^ 24 < rows)

-- the setting that a frame shows
abbrev pub setting_in : Frame → Setting
setting_in f =
    record {
      trees = trees_in f.program.now;
      space = view_of f.space.now;
      owners = f.owners.now;
      entries = f.program.now.entries.items;
    }

pub record IsFrame (f : Frame) : Type 0 where
  pub range : InRange (trees_in f.program.now)
  pub numbers : AreNumbers (trees_in f.program.now) (view_of f.space.now) f.numbering.now
  pub owners : length f.owners.now ≡ length f.program.now.nodes.items
  pub terms : length f.program.now.types.terms + 2 < 2 ^ 32
  pub tags : f.program.now.types.tags + 8 < 2 ^ 32

abbrev pub IsNodeIn : Frame → ℕ → Type 0
IsNodeIn f n = n < length f.program.now.nodes.items

-- the numbers of a program's nodes, entities, types and tags fit
pub record IsNumbered (p : Program) : Type 0 where
  pub nodes : length p.nodes.items < 2 ^ 32
  pub entities : length p.entities.items < 2 ^ 32
  pub terms : length p.types.terms + 2 < 2 ^ 32
  pub tags : p.types.tags + 8 < 2 ^ 32
