-- The turns of a round, one after another, and how they are shared out.
use Rattle.std.specs.Prelude.{◌≡◌, ℕ, ◌+◌, ◌*◌, ◌≤◌, List, [], ◌∷◌, ◌++◌, length, map, slice_get, Some, Ok, Result}
use Rattle.pta_base.specs.declared.memory.OutOfMemory.{OutOfMemory}
use Rattle.sol_model.specs.declared.system.System.{System}
use Rattle.sol_model.specs.declared.rows.Rows.{Rows}
use Rattle.sol_model.specs.Families.{IsInside}
use Rattle.sol_model.specs.Systems.{width_of}
use Rattle.set_rows.specs.declared.view.View.{View}
use Rattle.set_rows.specs.Views.{known, OnlyAdded}
use Rattle.round_pieces.specs.declared.delta_prop.turn.Turn.{Turn}
use Rattle.round_pieces.specs.delta_prop.Turns.{IsTurn}
use Rattle.new_members.specs.News.{words_at}
use Rattle.round_pieces.specs.declared.joining.Told.{Told}
use Rattle.round_pieces.specs.Rounds.{HasServed}
use Rattle.round_pieces.specs.Balance.{spent}

abbrev pub row_of : Turn → ℕ
row_of turn = turn.row

-- turns of one seat, one after another: each is between two views of the seat
abbrev pub AreTurns : ℕ → List (ℕ × ℕ) → (ℕ → List ℕ) → View → List Turn → View → Type 0
AreTurns width book done v [] w = w ≡ v
AreTurns width book done v (turn ∷ turns) w =
    (u : View) × IsTurn width book turn.row (done turn.row) v u turn × OnlyAdded v u
    × AreTurns width book done u turns w

-- a worker's turns are those of its share of the rows: of number `worker`, `worker + workers` and so on; its seat
-- began with all that had been seen before the round, and what it has seen is seen after it
pub record IsShare (S : System) (book : List (ℕ × ℕ)) (done : Rows) (todo : List ℕ) (workers worker : ℕ)
    (v w : View) (turns : List Turn) : Type 0 where
  pub from : View
  pub to : View
  pub begun : IsInside (known v) (known from)
  pub turns_are : AreTurns (width_of S) book (words_at done) from turns to
  pub ended : IsInside (known to) (known w)
  pub rows : (i : ℕ) → slice_get (map row_of turns) i ≡ slice_get todo (worker + i * workers)

-- the lists one after another
abbrev pub all_of : List (List Turn) → List Turn
all_of [] = []
all_of (turns ∷ more) = turns ++ all_of more

-- the turns of the workers from `first` up to `last`, each with its share; they have paid no more than what is new
-- in their rows, for each edge
pub record HasShares (S : System) (book : List (ℕ × ℕ)) (done : Rows) (todo : List ℕ)
    (workers first last : ℕ)
    (v w : View) (turns : List Turn) : Type 0 where
  pub shares : List (List Turn)
  pub all : turns ≡ all_of shares
  pub count : length shares + first ≡ last
  pub each : (k : ℕ) (share : List Turn)
      → slice_get shares k ≡ Some share
      → IsShare S book done todo workers (first + k) v w share
  pub served : HasServed S book w turns
  pub ors : w.ors ≤ v.ors + spent (width_of S) book (words_at done) turns

-- both were given, and these are the turns of the one after those of the other
abbrev pub AreTogether : Result Told OutOfMemory → Result Told OutOfMemory → Told → Type 0
AreTogether first second both =
    (one : Told) × (other : Told) × (first ≡ Ok one) × (second ≡ Ok other)
    × (both.turns.items ≡ one.turns.items ++ other.turns.items)
