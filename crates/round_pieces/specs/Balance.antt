-- The balance that is kept between rounds: what the steps so far have paid for. It is private to the proof of the
-- bound; the work itself is in Work.
use Rattle.std.specs.Prelude.{ℕ, ◌+◌, ◌*◌, List, length, Contains, sum_by}
use Rattle.sol_model.specs.declared.system.System.{System}
use Rattle.sol_model.specs.declared.rows.Rows.{Rows}
use Rattle.sol_model.specs.Families.{members}
use Rattle.round_pieces.specs.declared.delta_prop.turn.Turn.{Turn}
use Rattle.round_pieces.specs.delta_prop.Deltas.{gained}
use Rattle.edge_book.specs.Edges.{AreApart}
use Rattle.edge_book.specs.Leaving.{targets_of}
use Rattle.new_members.specs.News.{IsFact}
use Rattle.round_pieces.specs.Work.{edge_work}

-- the work that is paid for between two rounds: what is done has passed each edge of the book, and each of the
-- facts was added
abbrev pub paid_for : System → Rows → List (ℕ × ℕ) → List (ℕ × ℕ) → ℕ
paid_for S done book facts = edge_work S (members done) book + length facts

-- what turns pay: their new members, for each edge of their rows
abbrev pub spent : ℕ → List (ℕ × ℕ) → (ℕ → List ℕ) → List Turn → ℕ
spent width book done turns =
    sum_by (λ turn. gained width (done turn.row) turn.done.items * length (targets_of turn.row book)) turns

-- no edge of the book and no fact of the set stands twice, and each fact is demanded of what is done
pub record IsBooked (S : System) (done : Rows) (book facts : List (ℕ × ℕ)) : Type 0 where
  pub edges : AreApart book
  pub facts_once : AreApart facts
  pub demanded : (row location : ℕ) → Contains facts (row, location) → IsFact S (members done) row location
