-- Parts of objects by their paths, and the shapes of types.
use Rattle.std.specs.Prelude.{ℕ, ◌≡◌, ⊤, nat_lt, true, List, [], ◌∷◌, Option, Some, None, is_some, slice_get}
use Rattle.std.specs.Prelude.{option_and_then, if◌then◌else◌}
use Rattle.c_types.specs.declared.term.PathStep.{PathStep}
use Rattle.c_types.specs.declared.term.PathStep.TheVariants.{Index, Member}
use Rattle.c_types.specs.Trees.{Ctype, ArrayOf, StructureOf, UnionOf}
use Rattle.c_types.specs.Paths.{with_length}
use Rattle.c_inits.specs.Shapes.{Shape, Fields, Scalar, Elements, Structured, Overlaid, NoFields, Field, Path}
use Rattle.c_inits.specs.Made.{Part, Look, shape_for}
use Rattle.c_inits.specs.Syntax.{Init}
use Rattle.c_inits.specs.Initial.{Placed, Action, Places, initial, is_character, lasting, length_given}

-- the members of complete structures and unions
abbrev pub Members : Type 0
Members = ℕ → Option (List Part)

-- a member's type, or none where it is a flexible array
abbrev pub part_type : Option (List Part) → ℕ → Option Ctype
part_type None k = None
part_type (Some parts) k = option_and_then (λ m. with_length m.type) (slice_get parts k)

module _ (members : Members) where
  abbrev pub step_in : Ctype → PathStep → Option Ctype
  step_in (ArrayOf of (Some n)) (Index i) = if nat_lt i n then Some of else None
  step_in (StructureOf tag) (Member k) = part_type (members tag) k
  step_in (UnionOf tag) (Member k) = part_type (members tag) k
  step_in t step = None

  abbrev pub step_under : Option Ctype → PathStep → Option Ctype
  step_under None step = None
  step_under (Some t) step = step_in t step

  -- the type at the end of a path, or none where the path leaves the type
  abbrev pub type_in : Option Ctype → Path → Option Ctype
  type_in t [] = t
  type_in t (step ∷ path) = type_in (step_under t step) path

  -- a shape is one of that type: the elements of its arrays, and members by their numbers
  abbrev mutual
    pub IsShape : Ctype → Shape → Type 0
    IsShape t (Scalar type) = t ≡ type
    IsShape t (Elements type of length) =
        (element : Ctype) × (t ≡ ArrayOf element (Some length)) × IsShape element of
    IsShape t (Structured type fields) =
        (tag : ℕ) × (parts : List Part) × (t ≡ StructureOf tag) × (members tag ≡ Some parts)
        × AreShapes parts fields
    IsShape t (Overlaid type fields) =
        (tag : ℕ) × (parts : List Part) × (t ≡ UnionOf tag) × (members tag ≡ Some parts) × AreShapes parts fields

    pub AreShapes : List Part → Fields → Type 0
    AreShapes parts NoFields = ⊤
    AreShapes parts (Field name number shape rest) =
        (type : Ctype) × (part_type (Some parts) number ≡ Some type) × IsShape type shape × AreShapes parts rest

  -- what is known of a tag's members is of its shape
  abbrev pub Knows : Look → Type 0
  Knows look =
      (tag : ℕ) (fields : Fields)
      → look tag ≡ Some fields
      → (parts : List Part) × (members tag ≡ Some parts) × AreShapes parts fields

  -- a value goes to a part of an object of that type, and a character of a string to a character
  abbrev pub GoesWithin : Ctype → Placed → Type 0
  GoesWithin t p =
      (type : Ctype) × (type_in (Some t) p.path ≡ Some type)
      × (is_some p.character ≡ true → is_character (Scalar type) ≡ true)

  abbrev pub AllGoWithin : Ctype → List Placed → Type 0
  AllGoWithin t [] = ⊤
  AllGoWithin t (p ∷ rest) = GoesWithin t p × AllGoWithin t rest

-- the type of an array that gets its length from its initialiser
abbrev pub sized : Ctype → List Action → Ctype
sized (ArrayOf of None) actions = ArrayOf of (Some (length_given actions))
sized t actions = t

abbrev pub PlacesWithin : Type 0
PlacesWithin =
    (members : Members) (look : Look) → Knows members look
    → (limit : ℕ) (t : Ctype) (shape : Shape) (init : Init) (actions : List Action)
    → shape_for look limit t ≡ Some shape
    → initial shape init ≡ Places actions
    → AllGoWithin members (sized t actions) (lasting [] actions)
