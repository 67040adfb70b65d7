-- The parts of an object's name, and the text that they make.
use Rattle.std.specs.Prelude.{ℕ, ◌^◌, ◌<◌, ◌≡◌, ⊤, List, ◌∷◌, ◌++◌, Option, Some, None}
use Rattle.std.specs.Fmt.{decimal}
use Rattle.linked_laws.specs.location_laws.name_shapes.Bytes.{is_unit_byte, is_base_byte, IsMadeOf, IsWord}
use Rattle.linked_laws.specs.location_laws.name_shapes.Bytes.{IsSuffix}

-- a line and a column
pub record Spot : Type 0 where
  pub line : ℕ
  pub column : ℕ

-- what stands behind an object's own name: nothing; a slash, a local's name and maybe its place; a slash and three
-- dots, for what a function is passed past its parameters; the place of an unnamed object; or the star of all calls
pub data Tail : Type 0 where
  Nothing : Tail
  Inner : List ℕ → Option Spot → Tail
  Further : Tail
  Placed : List ℕ → Spot → Tail
  AnyCall : Tail

-- an object's name: maybe a unit, its own name, or that of a local's function or of an unnamed object's kind, and
-- what follows
pub record Shape : Type 0 where
  pub unit : Option (List ℕ)
  pub base : List ℕ
  pub tail : Tail

-- the unit and a colon
abbrev pub head_text : Option (List ℕ) → List ℕ → List ℕ
head_text None rest = rest
head_text (Some unit) rest = unit ++ (58 ∷ rest)

abbrev pub spot_text : Spot → List ℕ → List ℕ
spot_text spot rest = decimal spot.line ++ (58 ∷ (decimal spot.column ++ rest))

abbrev pub at_text : Option Spot → List ℕ → List ℕ
at_text None rest = rest
at_text (Some spot) rest = 64 ∷ spot_text spot rest

abbrev pub tail_text : Tail → List ℕ → List ℕ
tail_text Nothing rest = rest
tail_text (Inner name at) rest = 47 ∷ (name ++ at_text at rest)
tail_text Further rest = 47 ∷ 46 ∷ 46 ∷ 46 ∷ rest
tail_text (Placed unit spot) rest = 64 ∷ (unit ++ (58 ∷ spot_text spot rest))
tail_text AnyCall rest = 64 ∷ 42 ∷ rest

-- the text of a name, with what stands behind it
abbrev pub text_of : Shape → List ℕ → List ℕ
text_of shape rest = head_text shape.unit (shape.base ++ tail_text shape.tail rest)

-- numbers that are written in full
pub record IsSpot (spot : Spot) : Type 0 where
  pub line : spot.line < 2 ^ 64
  pub column : spot.column < 2 ^ 64

abbrev pub IsAt : Option Spot → Type 0
IsAt None = ⊤
IsAt (Some spot) = IsSpot spot

abbrev pub IsHead : Option (List ℕ) → Type 0
IsHead None = ⊤
IsHead (Some unit) = IsMadeOf is_unit_byte unit

abbrev pub IsTail : Tail → Type 0
IsTail Nothing = ⊤
IsTail (Inner name at) = IsWord name × IsAt at
IsTail Further = ⊤
IsTail (Placed unit spot) = IsMadeOf is_unit_byte unit × IsSpot spot
IsTail AnyCall = ⊤

-- parts that are made of their bytes
pub record IsShape (shape : Shape) : Type 0 where
  pub unit : IsHead shape.unit
  pub base : IsMadeOf is_base_byte shape.base
  pub tail : IsTail shape.tail

-- texts that are the same have the same parts
abbrev pub ReadBack : Type 0
ReadBack =
    (a b : Shape) (s t : List ℕ)
    → IsShape a
    → IsShape b
    → IsSuffix s
    → IsSuffix t
    → text_of a s ≡ text_of b t
    → (a ≡ b) × (s ≡ t)
