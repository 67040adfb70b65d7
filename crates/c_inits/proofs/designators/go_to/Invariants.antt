use Rattle.std.proofs.Common.{◌≡◌, map, drop}
use Rattle.c_inits.specs.Initial.{described, farther}
use Rattle.c_inits.specs.Designated.{designator_of}
use Rattle.c_inits.specs.Tables.{type_shape}
use Rattle.c_inits.specs.Cursor.{Stands, IsAt, path_of}
use Rattle.c_inits.proofs.designators.go_to.Given as goal

-- what all designators describe is what those that are left describe from the present place
abbrev pub invariant-loop-designator : goal.invariant-loop-designator
invariant-loop-designator l = record {
  same : described (type_shape l.types l.limit l.fn.root.0) (map designator_of l.designators) ≡ farther (path_of l.frames.items) (described (type_shape l.types l.limit l.here.0) (map designator_of (drop l.designator-index l.designators)));
  at : IsAt l.types l.limit (type_shape l.types l.limit l.fn.root.0) (path_of l.frames.items) l.here.0;
  stands : Stands l.types l.limit (type_shape l.types l.limit l.fn.root.0) l.frames.items;
}
