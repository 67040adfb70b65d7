-- What the contracts of the calls say of a table and a seat.
use Rattle.std.specs.Prelude.{◌≡◌}
use Rattle.sol_model.specs.declared.system.System.{System}
use Rattle.set_rows.specs.declared.view.View.{View}
use Rattle.set_rows.specs.declared.table.RowTable.{RowTable}
use Rattle.set_rows.specs.declared.seat.RowSeat.{RowSeat}

-- the system for which the table was made
abbrev pub system_of : RowTable → System
system_of t = t.table.shared.key

-- what the seat knows
abbrev pub view : RowSeat → View
view s = s.seat.me.0

-- the seat is the table's own
abbrev pub IsOf : RowTable → RowSeat → Type 0
IsOf t s = (s.seat.table_id ≡ t.table.shared.table_id) × ((view s).system ≡ system_of t)
