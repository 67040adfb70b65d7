-- What a row's turn does.
use Rattle.std.specs.Prelude.{◌≡◌, ◌⊎◌, ℕ, ◌+◌, ◌*◌, ◌<◌, ◌≤◌, List, length, slice_index, Contains}
use Rattle.std.specs.Int.{bit_at}
use Rattle.sol_model.specs.Words.{Within}
use Rattle.set_rows.specs.declared.view.View.{View}
use Rattle.round_pieces.specs.declared.delta_prop.turn.Turn.{Turn}
use Rattle.edge_book.specs.Leaving.{targets_of}
use Rattle.round_pieces.specs.delta_prop.Deltas.{gained, IsDoneBeside, IsSeenOf}

-- what is done of a row was seen of each row to which one of its edges leads
abbrev pub TargetsSeen : ℕ → List ℕ → ℕ → List (ℕ × ℕ) → List ℕ → Type 0
TargetsSeen width seen row book done = (to : ℕ) → Contains book (row, to) → IsSeenOf width seen to done

-- each location that had been seen of a word was done, or is treated
abbrev pub IsTreatedIn : ℕ → ℕ → ℕ → Type 0
IsTreatedIn seen done now = (b : ℕ) → bit_at seen b ≡ 1 → (bit_at done b ≡ 1) ⊎ (bit_at now b ≡ 1)

pub record IsTurn (width : ℕ) (book : List (ℕ × ℕ)) (row : ℕ) (done : List ℕ) (old new : View)
    (turn : Turn) : Type 0 where
  pub row_is : turn.row ≡ row
  pub short : length turn.done.items ≤ width
  pub sized : turn.first < turn.end → length turn.done.items ≡ width
  -- what is done now was seen of the row, and of each row to which one of its edges leads
  pub done_seen : IsSeenOf width new.seen row turn.done.items
  pub targets : TargetsSeen width new.seen row book turn.done.items
  -- what is new is among the words from the turn's first on and below its end
  pub beside : IsDoneBeside width turn.first turn.end done turn.done.items
  pub range : (turn.first ≤ width) × (turn.end ≤ width)
  pub ors : new.ors ≤ old.ors + gained width done turn.done.items * length (targets_of row book)
