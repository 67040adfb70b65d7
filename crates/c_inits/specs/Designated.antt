-- What a designator's search answers.
use Rattle.std.specs.Prelude.{ℕ, ◌≡◌, ◌<◌, [], ◌∷◌, ◌++◌, Option, Some, length}
use Rattle.c_types.specs.declared.term.PathStep.{PathStep}
use Rattle.c_types.specs.declared.term.PathStep.TheVariants.{Index, Member}
use Rattle.c_types.specs.Table.{Table}
use Rattle.c_inits.specs.Shapes.{Path, SubObject, Shape, Fields, Structured, Overlaid}
use Rattle.c_inits.specs.declared.designators.Designator.{Designator as DesignatorTerm}
use Rattle.c_inits.specs.declared.designators.Designator.TheVariants.{Index as IndexTerm, Name as NameTerm}
use Rattle.c_inits.specs.Syntax.{Designator, AtIndex, AtName, designator_node}
use Rattle.c_inits.specs.Initial.{element}
use Rattle.c_inits.specs.Parts.{shape_in, shape_at}
use Rattle.c_inits.specs.Tables.{HasShape, type_shape}

-- that sub-object is the member in some position among the fields, with the type there
pub record IsStep (table : Table) (limit : ℕ) (fields : Fields) (place : Option SubObject) (step : PathStep)
    (id : ℕ) : Type 0 where
  pub is : place ≡ Some (record { path = step ∷ []; shape = type_shape table limit id })
  pub position : ℕ
  pub member : step ≡ Member position
  pub within : shape_in fields position [] ≡ Some (type_shape table limit id)
  pub known : id < length table.terms
  pub shaped : HasShape table limit id

-- that is the type of the element of that index
pub record IsElement (table : Table) (limit id index next : ℕ) : Type 0 where
  pub is : element (type_shape table limit id) index
      ≡ Some (record { path = Index index ∷ []; shape = type_shape table limit next })
  pub within : shape_at (type_shape table limit id) (Index index ∷ []) ≡ Some (type_shape table limit next)
  pub known : next < length table.terms
  pub shaped : HasShape table limit next

-- one path is another, and then the way to that sub-object, with the type there
pub record LeadsTo (table : Table) (limit : ℕ) (place : Option SubObject) (before path : Path)
    (id : ℕ) : Type 0 where
  pub way : Path
  pub is : place ≡ Some (record { path = way; shape = type_shape table limit id })
  pub along : path ≡ before ++ way

-- a structure or union with these fields
abbrev pub HasFields : Shape → Fields → Type 0
HasFields (Structured type list) all = list ≡ all
HasFields (Overlaid type list) all = list ≡ all
HasFields shape all = ⊥

abbrev pub designator_of : DesignatorTerm → Designator
designator_of (IndexTerm node index) = AtIndex node index
designator_of (NameTerm node name) = AtName node name

abbrev pub node_of : DesignatorTerm → ℕ
node_of d = designator_node (designator_of d)
