-- What the code makes the constraints of a program's start from.
use Rattle.std.specs.Prelude.{◌<◌, ◌^◌, All, length}
use Rattle.core_tree.specs.Typed.{CoreTrees, trees_in}
use Rattle.obj_space.specs.View.{SpaceView, view_of}
use Rattle.row_numbers.specs.Results.{AreResults}
use Rattle.constraints.specs.Owned.{AreOwned}
use Rattle.constraints.specs.declared.start.Scene.{Scene}

abbrev pub trees_of : Scene → CoreTrees
trees_of scene = trees_in scene.program.now

abbrev pub view_in : Scene → SpaceView
view_in scene = view_of scene.space.now

-- the numbers and the lists are those of the program
pub record IsScene (scene : Scene) : Type 0 where
  pub types : All (λ entity. entity.ty.0 < length scene.program.now.types.terms) scene.program.now.entities.items
  pub entities : length scene.program.now.entities.items < 2 ^ 32
  pub results : AreResults (trees_of scene) (view_in scene) scene.results.now
  pub owned : AreOwned (trees_of scene) (view_in scene) scene.owned.now.lists.items
