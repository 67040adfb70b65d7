-- What a call leaves of the system that it solved.
use Rattle.std.specs.Prelude.{◌≡◌, ℕ, ◌+◌, ◌≤◌, List, Option, Some, None}
use Rattle.sol_model.specs.declared.system.System.{System}
use Rattle.sol_model.specs.Families.{Family}
use Rattle.sol_model.specs.Solutions.{IsLeast}
use Rattle.set_rows.specs.declared.table.RowTable.{RowTable}
use Rattle.set_rows.specs.declared.seat.RowSeat.{RowSeat}
use Rattle.set_rows.specs.Views.{fresh, SamePart}
use Rattle.set_rows.specs.Calls.{system_of, view, IsOf}
use Rattle.round_pieces.specs.Work.{IsWork}
use Rattle.row_share.specs.share_laws.Classes.{AreClasses}
use Rattle.row_share.specs.share_laws.Renumbering.{IsReduced}
use Rattle.unit_report.specs.declared.solving.Solved.{Solved}

-- what is kept of a system that was solved on a table, with a seat of it
abbrev pub solved_on : System → RowTable → RowSeat → Solved
solved_on system table seat = record { system = system; table = table; seat = seat }

-- The system was solved on that table. The seat has read the closing word as 1, so the table's rows are the least
-- solution; its part is the whole, so every seat of the table was joined into it; and its steps that set bits are
-- at most the work of the least solution, and one to close.
pub record IsSolved (system : System) (solved : Solved) : Type 0 where
  pub system_is : solved.system ≡ system
  pub table_is : system_of solved.table ≡ system
  pub own : IsOf solved.table solved.seat
  pub closed : (view solved.seat).last ≡ 1
  pub whole : SamePart (fresh system) (view solved.seat)
  pub family : Family
  pub least : IsLeast system family
  pub work : ℕ
  pub work_is : IsWork system family work
  pub bound : (view solved.seat).ors ≤ work + 1

-- the second system is the first with one row for all rows of each class
pub record IsShared (old new : System) : Type 0 where
  pub of : List ℕ
  pub row : List ℕ
  pub classes : AreClasses old of
  pub reduced : IsReduced old of row new

-- the system was so reduced, and the system that came of it was solved on the table
pub record IsSolvedShared (system : System) (kept : Solved) : Type 0 where
  pub shared : IsShared system kept.system
  pub solved : IsSolved kept.system kept

-- what was solved for a system is left
abbrev pub IsKept : System → Option Solved → Type 0
IsKept system None = ⊥
IsKept system (Some solved) = IsSolvedShared system solved
