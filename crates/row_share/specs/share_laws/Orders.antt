-- The order in which a search in depth along copies leaves rows (Tarjan 1972; Sharir 1981 for its use).
use Rattle.std.specs.Prelude.{◌≡◌, ◌⊎◌, ℕ, ◌+◌, ◌≤◌, ◌<◌, ◌==◌, Bool, true, false, List, [], ◌∷◌, length, map}
use Rattle.std.specs.Prelude.{Contains, slice_index, slice_index_or, if◌then◌else◌}
use Rattle.sol_model.specs.declared.system.System.{System}
use Rattle.sol_model.specs.Systems.{IsRow}
use Rattle.row_share.specs.share_laws.Classes.{IsCopy, Reaches}

-- each row's list has exactly the rows to which copies lead from it
pub record AreTargets (S : System) (targets : ℕ → List ℕ) : Type 0 where
  pub listed : (from to : ℕ) → IsCopy S from to → Contains (targets from) to
  pub copies : (from to : ℕ) → Contains (targets from) to → IsCopy S from to

-- the same from the row that a copy enters to the one that it leaves
pub record AreSources (S : System) (sources : ℕ → List ℕ) : Type 0 where
  pub listed : (from to : ℕ) → IsCopy S from to → Contains (sources to) from
  pub copies : (from to : ℕ) → Contains (sources to) from → IsCopy S from to

-- where a copy leads from a row of the order, then each row that is left no sooner than that row is reached from
-- the copy's end, or is left no sooner than that end too
abbrev pub LeavesLate : System → List ℕ → Type 0
LeavesLate S order = (i j to : ℕ) → i ≤ j → j < length order → IsCopy S (slice_index order i) to
    → ((k : ℕ) × (k ≤ j) × (slice_index order k ≡ to)) ⊎ Reaches S to (slice_index order j)

-- each row once, in such an order
pub record IsOrder (S : System) (order : List ℕ) : Type 0 where
  pub known : (i : ℕ) → i < length order → IsRow S (slice_index order i)
  pub all : (row : ℕ) → IsRow S row → (i : ℕ) × (i < length order) × (slice_index order i ≡ row)
  pub once : (i j : ℕ) → i < length order → j < length order → slice_index order i ≡ slice_index order j → i ≡ j
  pub late : LeavesLate S order

abbrev pub is_seen : List Bool → ℕ → Bool
is_seen seen row = slice_index_or seen row false

-- how often a row stands in a list
abbrev pub times : ℕ → List ℕ → ℕ
times row [] = 0
times row (x ∷ xs) = (if x == row then 1 else 0) + times row xs

-- the rows of a path, without what is noted of each
abbrev pub rows_on : List (ℕ × ℕ) → List ℕ
rows_on path = map (λ step. step.0) path

-- a step of a path; past its end, row 0
abbrev pub step_at : List (ℕ × ℕ) → ℕ → ℕ × ℕ
step_at path i = slice_index_or path i (0, 0)

-- a search under way: the rows that were left, the path to the present row with how many targets of each of its
-- rows were looked at, and which rows were seen
pub record IsSearch (S : System) (targets : ℕ → List ℕ) (order : List ℕ) (path : List (ℕ × ℕ))
    (seen : List Bool) : Type 0 where
  pub sized : length seen ≡ S.rows
  pub counted : (row : ℕ) → times row order + times row (rows_on path) ≡ (if is_seen seen row then 1 else 0)
  pub above : (i j : ℕ) → i ≤ j → j < length path → Reaches S (step_at path i).0 (step_at path j).0
  pub looked : (i k : ℕ)
      → i < length path
      → k < (step_at path i).1
      → k < length (targets (step_at path i).0)
      → is_seen seen (slice_index (targets (step_at path i).0) k) ≡ true
  pub left : (i to : ℕ) → i < length order → IsCopy S (slice_index order i) to → is_seen seen to ≡ true
  pub late : LeavesLate S order

-- how many rows weren't seen
abbrev pub unseen : List Bool → ℕ
unseen [] = 0
unseen (true ∷ seen) = unseen seen
unseen (false ∷ seen) = 1 + unseen seen
