-- A text, and the order of two texts, said of the characters at their places (C11 7.1.1p1, 7.24.4).
use Rattle.std.specs.Prelude.{ℕ, ◌≡◌, ◌<◌, ◌⊎◌, true, false, ℤ, pos, negsuc, int_lt, List, Some, Result, Ok, Err}
use Rattle.std.specs.Prelude.{length, slice_get}
use Rattle.ref_cells.specs.declared.cells.Reason.{Reason}
use Rattle.ref_cells.specs.Numbers.{low_of}

-- the characters from a place on, each of which can be read or stops the reader
abbrev pub Characters : Type 0
Characters = ℕ → Result ℤ Reason

-- these characters stand there, and none of them is the zero
abbrev pub StandAt : Characters → List ℤ → Type 0
StandAt at text = (j : ℕ) (c : ℤ) → slice_get text j ≡ Some c → (at j ≡ Ok c) × (c ≡ pos 0 → ⊥)

-- a text: its characters, and the zero behind them
pub record IsText (at : Characters) (text : List ℤ) : Type 0 where
  pub stand : StandAt at text
  pub zero : at (length text) ≡ Ok (pos 0)

-- no text: these characters, and what can't be read behind them
pub record IsBroken (at : Characters) (reason : Reason) : Type 0 where
  pub front : List ℤ
  pub stand : StandAt at front
  pub stop : at (length front) ≡ Err reason

-- a character that stands at both places and isn't the zero
pub record IsShared (left right : Characters) (j : ℕ) : Type 0 where
  pub character : ℤ
  pub left_is : left j ≡ Ok character
  pub right_is : right j ≡ Ok character
  pub other : character ≡ pos 0 → ⊥

-- what two characters say: 0 for two zeros, else which is less as an unsigned one
abbrev pub Says : ℤ → ℤ → ℤ → Type 0
Says x y n =
    ((x ≡ pos 0) × (y ≡ pos 0) × (n ≡ pos 0))
    ⊎ (((x ≡ y → ⊥) × (int_lt (low_of 128 x) (low_of 128 y) ≡ true) × (n ≡ negsuc 0))
    ⊎ ((x ≡ y → ⊥) × (int_lt (low_of 128 x) (low_of 128 y) ≡ false) × (n ≡ pos 1)))

-- the order of two texts: that of the first characters that aren't shared
pub record IsOrder (left right : Characters) (n : ℤ) : Type 0 where
  pub first : ℕ
  pub shared : (j : ℕ) → j < first → IsShared left right j
  pub x : ℤ
  pub y : ℤ
  pub left_is : left first ≡ Ok x
  pub right_is : right first ≡ Ok y
  pub says : Says x y n
