use Rattle.std.proofs.Common.{◌≡◌, ◌<◌, true, false}
use Rattle.sol_model.specs.Families.{room_left}
use Rattle.sol_model.proofs.Growing.{JoinedBelow}
use Rattle.mod_ref.proofs.spreading.add_row.Given as goal

-- the words before i of the one row were added to the other
abbrev pub invariant-loop-i : goal.invariant-loop-i
invariant-loop-i l = record {
  width : l.rows.width ≡ l.fn.rows.width;
  joined : JoinedBelow l.fn.rows.width l.fn.rows.words l.rows.words l.from l.to l.i;
  same : l.changed ≡ false → l.rows ≡ l.fn.rows;
  less_room : l.changed ≡ true → room_left l.rows < room_left l.fn.rows;
}
