-- Cells by path: what is listed under a step, before it and behind it.
use Rattle.std.specs.Prelude.{ℕ, ◌≡◌, ◌≤◌, take, length, Bool, ◌+◌, ◌*◌, ◌==◌, nat_lt, List, ◌++◌, [], ◌∷◌, map}
use Rattle.std.specs.Prelude.{filter, drop}
use Rattle.c_types.specs.declared.term.PathStep.{PathStep}
use Rattle.c_types.specs.declared.term.PathStep.TheVariants.{Index, Member}
use Rattle.ref_cells.specs.declared.cells.Cell.{Cell}

abbrev pub Entry : Type 0
Entry = List PathStep × Cell

abbrev pub CellList : Type 0
CellList = List Entry

-- a step as a number: those of one array or structure stand in the order of their indices or members
abbrev pub step_key : PathStep → ℕ
step_key (Index i) = 2 * i + 1
step_key (Member k) = 2 * k + 2

-- the first step of a path, 0 where it has none
abbrev pub head_key : List PathStep → ℕ
head_key [] = 0
head_key (s ∷ rest) = step_key s

-- a path without its first step
abbrev pub tail : List PathStep → List PathStep
tail [] = []
tail (s ∷ rest) = rest

abbrev pub is_below : ℕ → Entry → Bool
is_below key e = nat_lt (head_key e.0) key

abbrev pub is_above : ℕ → Entry → Bool
is_above key e = nat_lt key (head_key e.0)

abbrev pub is_under : ℕ → Entry → Bool
is_under key e = head_key e.0 == key

-- a cell seen from behind the first step of its path
abbrev pub behind : Entry → Entry
behind e = (tail e.0, e.1)

-- the cells whose path begins with a step, seen from behind it
abbrev pub under : PathStep → CellList → CellList
under s cells = map behind (filter (is_under (step_key s)) cells)

-- the cells that stand before those, and behind them
abbrev pub below : PathStep → CellList → CellList
below s cells = filter (is_below (step_key s)) cells

abbrev pub above : PathStep → CellList → CellList
above s cells = filter (is_above (step_key s)) cells

-- cells seen from before a step
abbrev pub prefixed : PathStep → CellList → CellList
prefixed s cells = map (λ e. (s ∷ e.0, e.1)) cells

-- cells seen from before a path
abbrev pub joined : List PathStep → CellList → CellList
joined path cells = map (λ e. (path ++ e.0, e.1)) cells

-- cells seen from so many steps on
abbrev pub seen : ℕ → CellList → CellList
seen depth cells = map (λ e. (drop depth e.0, e.1)) cells

-- each path has that step at a depth
abbrev pub Begins : PathStep → ℕ → CellList → Type 0
Begins s depth [] = Unit {0}
Begins s depth (e ∷ rest) = (drop depth e.0 ≡ s ∷ drop (depth + 1) e.0) × Begins s depth rest

-- a list stands in another one from a place on
pub record IsPart (whole : CellList) (start : ℕ) (part : CellList) : Type 0 where
  pub within : start + length part ≤ length whole
  pub cells : part ≡ take (length part) (drop start whole)
