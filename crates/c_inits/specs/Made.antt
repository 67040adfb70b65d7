-- The shape of a type, from the members of the completed tags.
use Rattle.std.specs.Prelude.{ℕ, suc, cond, eqb, List, [], ◌∷◌, ◌++◌, Option, Some, None, option_map}
use Rattle.c_types.specs.Trees.{Ctype, VoidType, BoolType, IntegerType, FloatingType, VaListType, PointerTo}
use Rattle.c_types.specs.Trees.{ArrayOf, FunctionFrom, StructureOf, UnionOf}
use Rattle.c_inits.specs.Shapes.{Shape, Fields, Scalar, Elements, Structured, Overlaid, NoFields, Field}

-- a member: its name, its type, and its width where it is a bit-field
pub record Part : Type 0 where
  pub name : Option (List ℕ)
  pub type : Ctype
  pub bits : Option ℕ

-- what can be initialised in a complete tag
abbrev pub Look : Type 0
Look = ℕ → Option Fields

-- a complete type's shape
abbrev pub shape_of : Look → Ctype → Option Shape
shape_of look VoidType = None
shape_of look BoolType = Some (Scalar BoolType)
shape_of look (IntegerType size rank signed) = Some (Scalar (IntegerType size rank signed))
shape_of look FloatingType = Some (Scalar FloatingType)
shape_of look VaListType = Some (Scalar VaListType)
shape_of look (PointerTo to) = Some (Scalar (PointerTo to))
shape_of look (ArrayOf of None) = None
shape_of look (ArrayOf of (Some n)) = option_map (λ s. Elements (ArrayOf of (Some n)) s n) (shape_of look of)
shape_of look (FunctionFrom result parameters form) = None
shape_of look (StructureOf tag) = option_map (Structured (StructureOf tag)) (look tag)
shape_of look (UnionOf tag) = option_map (Overlaid (UnionOf tag)) (look tag)

-- an array without a length has as many elements as are wanted, below the limit that is given
abbrev pub shape_for : Look → ℕ → Ctype → Option Shape
shape_for look limit (ArrayOf of None) = option_map (λ s. Elements (ArrayOf of None) s limit) (shape_of look of)
shape_for look limit t = shape_of look t

-- unnamed bit-fields, and flexible arrays, which have no shape, are passed over
abbrev pub with_field : Part → ℕ → Option Shape → Fields → Fields
with_field m k None rest = rest
with_field m k (Some shape) rest =
    elim m.name [
      | Some name ↦ Field (Some name) k shape rest
      | None ↦ elim m.bits [ Some bits ↦ rest | None ↦ Field None k shape rest ]
    ]

abbrev pub fields_of : Look → ℕ → List Part → Fields
fields_of look k [] = NoFields
fields_of look k (m ∷ rest) = with_field m k (shape_of look m.type) (fields_of look (suc k) rest)

-- a completed tag with its members
pub record TagParts : Type 0 where
  pub tag : ℕ
  pub members : List Part

abbrev pub looked_up : List (ℕ × Fields) → Look
looked_up [] tag = None
looked_up (entry ∷ rest) tag = cond (eqb entry.0 tag) (Some entry.1) (looked_up rest tag)

-- each completed tag's fields, over the tags that were completed before it
abbrev pub laid_out : List (ℕ × Fields) → List TagParts → List (ℕ × Fields)
laid_out done [] = done
laid_out done (c ∷ rest) = laid_out (done ++ (c.tag, fields_of (looked_up done) 0 c.members) ∷ []) rest
