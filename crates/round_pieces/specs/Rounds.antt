-- What holds before and after a round.
use Rattle.std.specs.Prelude.{◌≡◌, ◌≢◌, ◌⊎◌, ◌↔◌, ℕ, ◌+◌, ◌<◌, ◌≤◌, true, List, length, map, slice_index, AllPairs}
use Rattle.std.specs.Prelude.{Contains}
use Rattle.sol_model.specs.declared.system.System.{System}
use Rattle.sol_model.specs.declared.rows.Rows.{Rows}
use Rattle.sol_model.specs.Families.{Family, Has, IsInside, members}
use Rattle.sol_model.specs.Solutions.{IsEdge}
use Rattle.sol_model.specs.Systems.{IsRow, IsLocation, Fits, width_of}
use Rattle.sol_model.specs.Words.{Within}
use Rattle.set_rows.specs.declared.view.View.{View}
use Rattle.set_rows.specs.Views.{known, SamePart}
use Rattle.round_pieces.specs.declared.delta_prop.turn.Turn.{Turn}
use Rattle.round_pieces.specs.delta_prop.Deltas.{AllDemanded, IsSound}
use Rattle.new_members.specs.News.{AreAmong, IsIn, IsFact, Renews}

-- no row stands twice
abbrev pub AreRowsApart : List ℕ → Type 0
AreRowsApart rows = AllPairs (λ one other. one ≢ other) rows

-- what one row has in a family was seen in the other row of each edge
abbrev pub AreCarried : List (ℕ × ℕ) → Family → Family → Type 0
AreCarried book F G = (a b location : ℕ) → Contains book (a, b) → Has F a location → Has G b location

-- each edge of the book is demanded, and what is done of its source was seen of its target
pub record IsReady (S : System) (v : View) (book : List (ℕ × ℕ)) (done : Rows) : Type 0 where
  pub demanded : AllDemanded S (known v) book
  pub fits : Fits S done
  pub own : IsInside (members done) (known v)
  pub carried : AreCarried book (members done) (known v)

-- the seat has worked, alone or with seats split from it that have all been joined again
pub record HasWorked (v w : View) : Type 0 where
  pub system : w.system ≡ v.system
  pub ors : v.ors ≤ w.ors
  pub shuts : w.shuts ≡ v.shuts
  pub reads : w.reads ≡ v.reads
  pub last : w.last ≡ v.last
  pub knows : w.knows ≡ v.knows
  pub part : SamePart v w
  pub sound : IsSound v → IsSound w
  pub seen : (word : ℕ) → Within (slice_index v.seen word) (slice_index w.seen word)

-- what a turn tells of what is seen after a round
pub record IsPiece (S : System) (book : List (ℕ × ℕ)) (w : View) (turn : Turn) : Type 0 where
  pub row : IsRow S turn.row
  pub short : length turn.done.items ≤ width_of S
  pub sized : turn.first < turn.end → length turn.done.items ≡ width_of S
  pub done : (location : ℕ) → IsIn turn.done.items location → Has (known w) turn.row location
  pub targets : (to location : ℕ)
      → Contains book (turn.row, to)
      → IsIn turn.done.items location
      → Has (known w) to location

-- what the turns of a round have done is seen after it
abbrev pub HasServed : System → List (ℕ × ℕ) → View → List Turn → Type 0
HasServed S book w turns = (turn : Turn) → Contains turns turn → IsPiece S book w turn

-- the edges and the facts that rules demand of what is done are in the book and in what was seen
pub record IsTreated (S : System) (v : View) (book : List (ℕ × ℕ)) (done : Rows) : Type 0 where
  pub edges : (a b : ℕ) → IsEdge S (members done) a b → Contains book (a, b)
  pub facts : (row location : ℕ) → IsFact S (members done) row location → Has (known v) row location

-- what was seen of any row is done, or the row is one of these
abbrev pub IsRest : View → Rows → List ℕ → Type 0
IsRest v done todo =
    (row location : ℕ) → Has (known v) row location → Has (members done) row location ⊎ Contains todo row

-- what holds between two rounds
pub record IsSettled (S : System) (v : View) (book : List (ℕ × ℕ)) (done : Rows) : Type 0 where
  pub ready : IsReady S v book done
  pub treated : IsTreated S v book done
  pub sound : IsSound v

-- the seat has worked, closed the table, and read that it is closed
pub record HasClosed (v w : View) : Type 0 where
  pub system : w.system ≡ v.system
  pub ors : v.ors < w.ors
  pub shuts : w.shuts ≡ v.shuts + 1
  pub reads : w.reads ≡ v.reads + 1
  pub last : w.last ≡ 1
  pub knows : w.knows ≡ true
  pub part : SamePart v w
  pub seen : (word : ℕ) → Within (slice_index v.seen word) (slice_index w.seen word)

-- a turn's row is one, and what is done of it are locations
pub record IsTurnOf (S : System) (turn : Turn) : Type 0 where
  pub row : IsRow S turn.row
  pub sized : turn.first < turn.end → length turn.done.items ≡ width_of S
  pub known : (location : ℕ) → IsIn turn.done.items location → IsLocation S location

-- what a turn's row has newly is in the words that the turn names
pub record IsChange (S : System) (done : Rows) (turn : Turn) : Type 0 where
  pub among : AreAmong (members done) turn.row turn.done.items turn.first turn.end
  pub range : turn.end ≤ width_of S

-- what turns have done was taken in: into what is done, and the edges and facts that rules demand for it
pub record IsTakenIn (S : System) (turns : List Turn) (done after : Rows)
    (book more known news : List (ℕ × ℕ)) : Type 0 where
  pub fits : Fits S after
  pub has : (row location : ℕ)
      → Has (members after) row location
      ↔ (Has (members done) row location
      ⊎ ((turn : Turn) × Contains turns turn × (turn.row ≡ row) × IsIn turn.done.items location))
  pub edges : Renews book more (IsEdge S (members done)) (IsEdge S (members after))
  pub facts : Renews known news (IsFact S (members done)) (IsFact S (members after))

-- a round has been worked, and none of its rows has had two turns
pub record IsWorked (S : System) (v w : View) (book : List (ℕ × ℕ)) (done : Rows) (turns : List Turn) : Type 0 where
  pub before : IsSettled S v book done
  pub worked : HasWorked v w
  pub served : HasServed S book w turns
  pub once : AreRowsApart (map (λ turn. turn.row) turns)
  pub changes : (turn : Turn) → Contains turns turn → IsChange S done turn
