-- A place within an object: a stack of steps, each with the type that it is a step of.
use Rattle.std.specs.Prelude.{ℕ, ◌≡◌, ◌<◌, List, [], ◌∷◌, Option, Some, map, length, take, slice_get}
use Rattle.c_types.specs.declared.term.PathStep.{PathStep}
use Rattle.c_types.specs.Table.{Table}
use Rattle.c_inits.specs.declared.cursor.Frame.{Frame}
use Rattle.c_inits.specs.Shapes.{Shape, Path, SubObject}
use Rattle.c_inits.specs.Parts.{Part, shape_at}
use Rattle.c_inits.specs.Tables.{HasShape, type_shape}

abbrev pub path_of : List Frame → Path
path_of frames = map (λ f. f.step) frames

-- that part is one step, with the type behind it
pub record IsPart (table : Table) (limit : ℕ) (part : Option Part) (step : PathStep) (id : ℕ) : Type 0 where
  pub is : part ≡ Some (record { step = step; shape = type_shape table limit id })
  pub known : id < length table.terms
  pub shaped : HasShape table limit id

-- each frame's owner has the shape that stands at the path of the frames before it, and the frame's step is a step
-- of it
pub record IsFrame (table : Table) (limit : ℕ) (root : Shape) (before : Path) (f : Frame) : Type 0 where
  pub known : f.owner.0 < length table.terms
  pub shaped : HasShape table limit f.owner.0
  pub here : shape_at root before ≡ Some (type_shape table limit f.owner.0)
  pub part : Shape
  pub within : shape_at (type_shape table limit f.owner.0) (f.step ∷ []) ≡ Some part

pub record Stands (table : Table) (limit : ℕ) (root : Shape) (frames : List Frame) : Type 0 where
  pub each : (i : ℕ) (f : Frame)
      → slice_get frames i ≡ Some f
      → IsFrame table limit root (path_of (take i frames)) f

-- the shape at the place is that of the type
pub record IsAt (table : Table) (limit : ℕ) (root : Shape) (path : Path) (id : ℕ) : Type 0 where
  pub known : id < length table.terms
  pub shaped : HasShape table limit id
  pub here : shape_at root path ≡ Some (type_shape table limit id)

abbrev pub sub_object : Table → ℕ → Path → ℕ → SubObject
sub_object table limit path id = record { path = path; shape = type_shape table limit id }
