-- The library's names in linked programs.
use Rattle.std.specs.Prelude.{◌≡◌, ◌⊎◌, ℕ, ◌<◌, true, List, None, Some, length, slice_get}
use Rattle.pta_base.specs.declared.place.Place.{Place}
use Rattle.c_types.specs.declared.key.ObjectKey.TheVariants.{Function as FunctionKey}
use Rattle.c_types.specs.declared.term.TypeId.{TypeId}
use Rattle.c_types.specs.Table.{type_of}
use Rattle.type_rules.specs.Kinds.{IsFunction}
use Rattle.core_tree.specs.declared.node.Unit.{Unit}
use Rattle.core_tree.specs.declared.node.Program.{Program}
use Rattle.core_tree.specs.declared.node.Node.{Node}
use Rattle.core_tree.specs.declared.node.Entity.{Entity}
use Rattle.core_tree.specs.declared.node.Linkage.TheVariants.{External}
use Rattle.core_tree.specs.declared.node.NodeKind.TheVariants.{FunctionName}
use Rattle.core_tree.specs.declared.node.Storage.TheVariants.{FunctionBody, Declared}
use Rattle.core_tree.specs.Typed.{CoreTrees, trees_of, trees_in}
use Rattle.core_tree.specs.Valid.{EachEntity, IsFunctionEntity, ValidProgram}
use Rattle.lib_summaries.specs.Table.{Row, Numbered, rows, summary_of}
use Rattle.link_model.specs.filled_units.Filled.{AreFilled}
use Rattle.link_names.specs.Shape.{HasShape, is_function_shape}
use Rattle.link_names.specs.Together.{is_listed}
use Rattle.obj_made.specs.Uses.{is_named}
use Rattle.row_numbers.specs.Functions.{key_id}
use Rattle.row_numbers.specs.Objects.{library_number}
use Rattle.unit_link.specs.Linked.{LinkedAt}
use Rattle.unit_link.specs.Needs.{AreLinkable}

-- a library name's row stands in the place of its number, and is a function's exactly below number 55
pub record IsNumbered (name : List ℕ) (found : Numbered) : Type 0 where
  pub row_is : slice_get rows found.number ≡ Some found.row
  pub name_is : found.row.name ≡ name
  pub below : is_function_shape found.row.shape ≡ true → found.number < 55
  pub function : found.number < 55 → is_function_shape found.row.shape ≡ true

abbrev pub NumbersKnown : Type 0
NumbersKnown = (name : List ℕ) (found : Numbered) → summary_of name ≡ Some found → IsNumbered name found

-- an entity of a program has the shape of that row, and a function that is used has a parameter list
pub record IsShaped (p : Program) (x : Entity) (found : Numbered) : Type 0 where
  pub shape : HasShape (type_of p.types x.ty.0) found.row.shape
  pub listed : is_function_shape found.row.shape ≡ true
      → (place : Place)
      → x.used ≡ Some place
      → is_listed (type_of p.types x.ty.0) ≡ true

-- so is each name of a linked program that is the library's, and that no unit defines
abbrev pub NamesShaped : Type 0
NamesShaped =
    (entered : List (List ℕ)) (units : List Unit) (p : Program)
    → AreLinkable units
    → AreFilled units
    → LinkedAt entered units p
    → (e : ℕ) (x : Entity) (found : Numbered)
    → slice_get p.entities.items e ≡ Some x
    → x.linkage ≡ External
    → x.storage ≡ Declared
    → summary_of x.name ≡ Some found
    → IsShaped p x found

-- a unit's function that has no body is only declared
pub record AreDeclaredOnly (units : List Unit) : Type 0 where
  pub each : (u : ℕ) (x : Unit)
      → slice_get units u ≡ Some x
      → EachEntity (trees_of x)
      (λ e entity. IsFunctionEntity (trees_of x) entity → entity.body ≡ None → entity.storage ≡ Declared)

-- a function has a body, or is the library's
abbrev pub IsDefined : Entity → Type 0
IsDefined x = (x.storage ≡ FunctionBody) ⊎ ((k : ℕ) × (library_number x ≡ Some k) × (k < 55))

-- each function that a linked program names is one
abbrev pub FunctionsDefined : Type 0
FunctionsDefined =
    (entered : List (List ℕ)) (units : List Unit) (p : Program)
    → AreLinkable units
    → AreFilled units
    → AreDeclaredOnly units
    → LinkedAt entered units p
    → ValidProgram p
    → (n : ℕ) (node : Node) (e : ℕ)
    → slice_get p.nodes.items n ≡ Some node
    → node.kind ≡ FunctionName e
    → (x : Entity) × (slice_get p.entities.items e ≡ Some x) × IsDefined x

-- a library name has the type by which the program declares it: of its row's shape, and a function's, which are
-- those below number 55, has a parameter list
pub record IsTypedBy (u : CoreTrees) (k : ℕ) : Type 0 where
  pub row : Row
  pub row_is : slice_get rows k ≡ Some row
  pub id : TypeId
  pub id_is : key_id u (FunctionKey k) ≡ Some id
  pub within : id.0 < length u.types.terms
  pub shape : HasShape (type_of u.types id.0) row.shape
  pub listed : k < 55 → is_listed (type_of u.types id.0) ≡ true
  pub function : IsFunction (type_of u.types id.0) → k < 55

-- so has each that a linked program names
abbrev pub LibraryTyped : Type 0
LibraryTyped =
    (entered : List (List ℕ)) (units : List Unit) (p : Program)
    → AreLinkable units
    → AreFilled units
    → LinkedAt entered units p
    → ValidProgram p
    → (k : ℕ)
    → is_named p.entities.items p.nodes.items k ≡ true
    → IsTypedBy (trees_in p) k
