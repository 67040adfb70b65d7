-- The parts of an object one level down, for a cursor.
use Rattle.std.specs.Prelude.{ℕ, zero, suc, cond, eqb, nat_lt, ◌≡◌, false, [], ◌∷◌, Option, Some, None}
use Rattle.c_types.specs.declared.term.PathStep.{PathStep}
use Rattle.c_types.specs.declared.term.PathStep.TheVariants.{Index, Member}
use Rattle.c_inits.specs.Shapes.{Shape, Fields, Scalar, Elements, Structured, Overlaid, NoFields, Field, Path}

pub record Part : Type 0 where
  pub step : PathStep
  pub shape : Shape

-- the shape at a path
abbrev mutual
  pub shape_at : Shape → Path → Option Shape
  shape_at t [] = Some t
  shape_at (Elements type of length) (Index k ∷ path) = shape_at of path
  shape_at (Structured type list) (Member m ∷ path) = shape_in list m path
  shape_at (Overlaid type list) (Member m ∷ path) = shape_in list m path
  shape_at _ _ = None

  pub shape_in : Fields → ℕ → Path → Option Shape
  shape_in NoFields m path = None
  shape_in (Field name number shape rest) m path = cond (eqb number m) (shape_at shape path) (shape_in rest m path)

abbrev pub first_field : Fields → Option Part
first_field NoFields = None
first_field (Field name number shape rest) = Some (record { step = Member number; shape = shape })

-- the first part
abbrev pub first_part : Shape → Option Part
first_part (Scalar type) = None
first_part (Elements type of zero) = None
first_part (Elements type of (suc more)) = Some (record { step = Index 0; shape = of })
first_part (Structured type list) = first_field list
first_part (Overlaid type list) = first_field list

abbrev pub next_field : Fields → ℕ → Option Part
next_field NoFields m = None
next_field (Field name number shape rest) m = cond (eqb number m) (first_field rest) (next_field rest m)

-- the part behind another, in order
abbrev pub next_part : Shape → PathStep → Option Part
next_part (Elements type of length) (Index k) =
    cond (nat_lt (suc k) length) (Some (record { step = Index (suc k); shape = of })) None
next_part (Structured type list) (Member m) = next_field list m
next_part _ _ = None

-- the members of a list have other numbers than that
abbrev pub Apart : Fields → ℕ → Type 0
Apart NoFields m = Unit {0}
Apart (Field name number shape rest) m = (eqb m number ≡ false) × Apart rest m

-- each number stands once
abbrev pub Distinct : Fields → Type 0
Distinct NoFields = Unit {0}
Distinct (Field name number shape rest) = Apart rest number × Distinct rest

abbrev pub DistinctIn : Shape → Type 0
DistinctIn (Structured type list) = Distinct list
DistinctIn t = Unit {0}
