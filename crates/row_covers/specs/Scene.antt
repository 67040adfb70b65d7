-- A program with its sets, as the code has them.
use Rattle.std.specs.Prelude.{◌<◌, ◌^◌, List, length}
use Rattle.core_tree.specs.Seen.{core_of}
use Rattle.core_tree.specs.Range.{InRange}
use Rattle.core_tree.specs.Typed.{CoreTrees}
use Rattle.sol_model.specs.declared.system.System.{System}
use Rattle.sol_model.specs.Families.{Family, members}
use Rattle.obj_space.specs.declared.location.Location.{Location}
use Rattle.sol_model.specs.Systems.{IsValid, Fits}
use Rattle.covering_laws.specs.covered_memory.Covered.{Sets}
use Rattle.row_covers.specs.declared.scene.Scene.{Scene}

-- the numbers of its trees are in range, its system is valid, and the rows are the system's
pub record IsScene (scene : Scene) : Type 0 where
  pub range : InRange (core_of scene.trees)
  pub nodes : length scene.trees.nodes.now < 2 ^ 32
  pub valid : IsValid scene.system.now
  pub fits : Fits scene.system.now scene.rows.now

-- a program's trees and locations, its system, and a set for each row
pub record Sight : Type 0 where
  pub trees : CoreTrees
  pub space : List Location
  pub system : System
  pub family : Family

abbrev pub sets_at : Sight → Sets
sets_at s = record { table = s.trees.types; space = s.space; family = s.family }

-- what the code has
abbrev pub sight_of : Scene → Sight
sight_of scene = record {
  trees = core_of scene.trees;
  space = scene.space.now;
  system = scene.system.now;
  family = members scene.rows.now;
}

-- its types and locations, and its sets
abbrev pub sets_over : Scene → Sets
sets_over scene = record {
  table = scene.trees.types.now;
  space = scene.space.now;
  family = members scene.rows.now;
}
