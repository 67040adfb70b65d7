use Rattle.std.proofs.Common.{◌≡◌, length}
use Rattle.c_types.specs.Table.{type_of}
use Rattle.c_inits.specs.Shapes.{from}
use Rattle.c_inits.specs.Initial.{first_fit}
use Rattle.c_inits.specs.Tables.{type_shape}
use Rattle.c_inits.specs.Cursor.{Stands, IsAt, path_of}
use Rattle.c_inits.proofs.cursor.settle.Given as goal

-- the first that fits, from the place at the start, is the first from the present one
abbrev pub invariant-onward : goal.invariant-onward
invariant-onward l = record {
  same : first_fit (type_of l.types l.value.ty.0) l.value.text (from (type_shape l.types l.limit l.root.0) (path_of l.initial.frames.items)) ≡ first_fit (type_of l.types l.value.ty.0) l.value.text (from (type_shape l.types l.limit l.root.0) (path_of l.frames.items));
  at : IsAt l.types l.limit (type_shape l.types l.limit l.root.0) (path_of l.frames.items) l.here.0;
  stands : Stands l.types l.limit (type_shape l.types l.limit l.root.0) l.frames.items;
}

abbrev pub decreases-onward : goal.decreases-onward
decreases-onward l = length (from (type_shape l.types l.limit l.root.0) (path_of l.frames.items))
