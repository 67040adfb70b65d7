use Rattle.std.proofs.Common.{◌≡◌, [], false}
use Rattle.c_inits.specs.Tables.{type_shape}
use Rattle.c_inits.specs.Cursor.{Stands}
use Rattle.typing_cases.proofs.initials.numbers_in.Given as goal

abbrev pub invariant-loop-node : goal.invariant-loop-node
invariant-loop-node l = record {
  stands : Stands l.table 9 (type_shape l.table 9 l.rows.0) l.frames.items;
  fresh : l.started ≡ false → l.frames.items ≡ [];
}
