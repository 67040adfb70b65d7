-- The functions that give new objects, and the calls that reach them.
use Rattle.std.specs.Prelude.{◌≡◌, ◌⊎◌, ℕ, ◌<◌, true, false, List, [], ◌∷◌, Some, length, slice_get}
use Rattle.c_types.specs.declared.key.ObjectKey.TheVariants.{Function as FunctionKey}
use Rattle.c_types.specs.Table.{type_of}
use Rattle.c_types.specs.Made.{IsMade, AreNamed}
use Rattle.core_tree.specs.declared.node.Entity.{Entity}
use Rattle.core_tree.specs.declared.node.Node.{Node}
use Rattle.core_tree.specs.declared.node.NodeKind.TheVariants.{Return}
use Rattle.core_tree.specs.declared.node.Program.{Program}
use Rattle.core_tree.specs.declared.node.Storage.TheVariants.{FunctionBody}
use Rattle.core_tree.specs.Range.{EachNode, EachEntity, ChildOnce}
use Rattle.core_tree.specs.Rows.{IsFunction}
use Rattle.core_tree.specs.Typed.{type_at, trees_in}
use Rattle.core_tree.specs.Valid.{InRows, Literals}
use Rattle.sol_model.specs.declared.system.System.{System}
use Rattle.sol_model.specs.Families.{Family}
use Rattle.sol_model.specs.Solutions.{IsLeast}
use Rattle.sol_model.specs.Systems.{IsValid}
use Rattle.sol_model.specs.Targets.{IsTargetOf}
use Rattle.obj_made.specs.Uses.{is_allocator, is_starred}
use Rattle.obj_space.specs.declared.location.Location.{Location}
use Rattle.obj_space.specs.Space.{HasTrees, locations_in}
use Rattle.obj_space.specs.View.{first_from, view_of}
use Rattle.row_numbers.specs.Functions.{functions_of}
use Rattle.row_numbers.specs.Objects.{library_number}
use Rattle.call_sites.specs.Calls.{calls_upto, named_library}
use Rattle.normal_form.specs.Assignments.{given_type}
use Rattle.normal_form.specs.SystemOf.{setting_of, SystemOf}
use Rattle.linked_laws.specs.merged_laws.Merged.{TagsFit}

-- a program whose nodes stand in their rows, each in one place, over a made table
pub record IsRight (p : Program) : Type 0 where
  pub made : IsMade p.types
  pub named : AreNamed p.types
  pub fit : TagsFit p.types
  pub rows : InRows (trees_in p)
  pub once : ChildOnce (trees_in p)
  pub literals : Literals (trees_in p)
  -- what is called as an allocating function of the library is a function
  pub shaped : EachEntity (trees_in p)
      (λ e entity. (k : ℕ) → library_number entity ≡ Some k → is_allocator k ≡ true
      → IsFunction (type_of p.types entity.ty.0))

-- what a function returns is of its result type
abbrev pub ReturnsFit : (p : Program) (space : List Location) (system : System)
    → SystemOf p (view_of space) system
    → Type 0
ReturnsFit p space system is =
    EachNode (trees_in p) (λ n node. (v f : ℕ) → node.kind ≡ Return → node.children ≡ v ∷ []
    → slice_get is.owners n ≡ Some (Some f)
    → type_at (trees_in p) v ≡ given_type (setting_of p (view_of space) is.owners) f)

-- the locations of its objects: those of a structure stand behind each other, a library function is one location of no
-- structure, and other objects stand before these
pub record AreSpaced (p : Program) (space : List Location) : Type 0 where
  pub trees : HasTrees p.types space
  pub functions : (l k : ℕ) (x : Location)
      → slice_get space l ≡ Some x
      → x.key ≡ FunctionKey k
      → (x.ty ≡ 5) × (x.collapsed ≡ false)
  pub after : (k l : ℕ) → first_from 0 space (FunctionKey k) ≡ Some l → 0 < l

-- so they are in each program that has a function with a body
abbrev pub ObjectsSpaced : Type 0
ObjectsSpaced =
    (p : Program) (e : ℕ) (body : Entity)
    → IsMade p.types
    → slice_get p.entities.items e ≡ Some body
    → body.storage ≡ FunctionBody
    → AreSpaced p (locations_in p)

-- in the least solution a call that has an allocating function among its targets names it, or the program has it
-- otherwise than as what a call calls
abbrev pub AllocatorsSpread : Type 0
AllocatorsSpread =
    (p : Program) (space : List Location) (system : System) (is : SystemOf p (view_of space) system) (F : Family)
    (n k call number : ℕ) (node : Node)
    → IsRight p
    → ReturnsFit p space system is
    → AreSpaced p space
    → IsValid system
    → IsLeast system F
    → slice_get p.nodes.items n ≡ Some node
    → slice_get (calls_upto p.nodes.items (length p.nodes.items)) call ≡ Some n
    → slice_get (functions_of (trees_in p) (view_of space)) number ≡ Some (FunctionKey k)
    → IsTargetOf system F call number
    → is_allocator k ≡ true
    → (named_library (trees_in p) node ≡ Some k) ⊎ (is_starred p.entities.items p.nodes.items k ≡ true)
