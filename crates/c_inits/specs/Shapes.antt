-- An object's sub-objects in order, as its type gives them.
use Rattle.std.specs.Prelude.{ℕ, zero, suc, ◌-◌, cond, eqb, List, [], ◌∷◌, ◌++◌, Option, map}
use Rattle.c_types.specs.Trees.{Ctype}
use Rattle.c_types.specs.declared.term.PathStep.{PathStep}
use Rattle.c_types.specs.declared.term.PathStep.TheVariants.{Index, Member}

-- a complete type with what can be initialised in it: unnamed bit-fields and flexible arrays are left out
mutual
  pub data Shape : Type 0 where
    Scalar : (type : Ctype) → Shape
    Elements : (type : Ctype) (of : Shape) (length : ℕ) → Shape
    Structured : (type : Ctype) (fields : Fields) → Shape
    Overlaid : (type : Ctype) (fields : Fields) → Shape

  pub data Fields : Type 0 where
    NoFields : Fields
    Field : (name : Option (List ℕ)) (number : ℕ) (shape : Shape) (rest : Fields) → Fields

abbrev pub Path : Type 0
Path = List PathStep

pub record SubObject : Type 0 where
  pub path : Path
  pub shape : Shape

-- sub-objects of an element or member, as those of the whole
abbrev pub under : PathStep → SubObject → SubObject
under step s = record s { path = step ∷ s.path }

abbrev pub within : PathStep → List SubObject → List SubObject
within step subs = map (under step) subs

-- the sub-objects of so many elements from that index on
abbrev pub elements : ℕ → ℕ → List SubObject → List SubObject
elements k zero of = []
elements k (suc more) of = within (Index k) of ++ elements (suc k) more of

abbrev pub whole : Shape → SubObject
whole t = record { path = []; shape = t }

-- the sub-objects of an object in order: those of elements by rising index, of members as declared, of a union's
-- first member
abbrev mutual
  pub inner : Shape → List SubObject
  inner (Scalar type) = []
  inner (Elements type of length) = elements 0 length (whole of ∷ inner of)
  inner (Structured type fields) = members fields
  inner (Overlaid type fields) = first_member fields

  pub members : Fields → List SubObject
  members NoFields = []
  members (Field name number shape rest) = within (Member number) (whole shape ∷ inner shape) ++ members rest

  pub first_member : Fields → List SubObject
  first_member NoFields = []
  first_member (Field name number shape rest) = within (Member number) (whole shape ∷ inner shape)

-- an object and its sub-objects
abbrev pub subs : Shape → List SubObject
subs t = whole t ∷ inner t

-- the sub-objects from the one at that path on: of that one those that `start` gives, then all that are behind it
abbrev mutual
  pub onward : (start : Shape → List SubObject) (t : Shape) (path : Path) → List SubObject
  onward start t [] = start t
  onward start (Elements type of length) (Index k ∷ path) =
      within (Index k) (onward start of path) ++ elements (suc k) (length - suc k) (subs of)
  onward start (Structured type fields) (Member m ∷ path) = onward_in start fields m path
  onward start (Overlaid type fields) (Member m ∷ path) = onward_at start fields m path
  onward start _ _ = []

  pub onward_in : (start : Shape → List SubObject) (fields : Fields) (m : ℕ) (path : Path) → List SubObject
  onward_in start NoFields m path = []
  onward_in start (Field name number shape rest) m path =
      cond (eqb number m) (within (Member number) (onward start shape path) ++ members rest)
      (onward_in start rest m path)

  pub onward_at : (start : Shape → List SubObject) (fields : Fields) (m : ℕ) (path : Path) → List SubObject
  onward_at start NoFields m path = []
  onward_at start (Field name number shape rest) m path =
      cond (eqb number m) (within (Member number) (onward start shape path)) (onward_at start rest m path)

-- the sub-object at that path, what is in it, and what is behind it
abbrev pub from : Shape → Path → List SubObject
from t path = onward subs t path

-- what is behind the sub-object at that path, and not in it
abbrev pub behind : Shape → Path → List SubObject
behind t path = onward (λ s. []) t path
