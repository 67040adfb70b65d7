-- What the workers and the asker beside them leave.
use Rattle.std.specs.Prelude.{◌≡◌, ℕ, ◌+◌, ◌≤◌, true}
use Rattle.sol_model.specs.declared.system.System.{System}
use Rattle.sol_model.specs.Families.{Family}
use Rattle.sol_model.specs.Solutions.{IsLeast}
use Rattle.set_rows.specs.declared.view.View.{View}
use Rattle.set_rows.specs.Views.{SamePart}
use Rattle.round_pieces.specs.Work.{IsWork}

-- the seat has the part that it had and has read the table as closed, and its steps are within the work of the
-- least solution
pub record HasSolved (S : System) (v w : View) : Type 0 where
  pub last : w.last ≡ 1
  pub knows : w.knows ≡ true
  pub whole : SamePart v w
  pub family : Family
  pub least : IsLeast S family
  pub work : ℕ
  pub work_is : IsWork S family work
  pub bound : w.ors ≤ v.ors + work + 1
