use Rattle.std.proofs.Common.{◌≡◌, length}
use Rattle.c_inits.specs.Shapes.{behind}
use Rattle.c_inits.specs.Tables.{type_shape}
use Rattle.c_inits.specs.Cursor.{Stands, path_of}
use Rattle.c_inits.proofs.cursor.advance.Given as goal

-- behind what is left is what was behind the place at the start
abbrev pub invariant-loop-frames : goal.invariant-loop-frames
invariant-loop-frames l =
    (behind (type_shape l.types l.limit l.fn.root.0) (path_of l.initial.frames.items) ≡ behind (type_shape l.types l.limit l.fn.root.0) (path_of l.frames.items))
    × Stands l.types l.limit (type_shape l.types l.limit l.fn.root.0) l.frames.items

abbrev pub decreases-loop-frames : goal.decreases-loop-frames
decreases-loop-frames l = length l.frames.items
