-- That the objects that live for the whole run are covered, before any initialiser.
use Rattle.std.specs.Prelude.{◌≡◌, ℕ, List, Some, None, length, slice_get}
use Rattle.c_types.specs.declared.term.Term.{Term}
use Rattle.c_types.specs.declared.term.TypeId.{TypeId}
use Rattle.c_types.specs.Table.{Table}
use Rattle.c_types.specs.Made.{IsMade, AreNamed}
use Rattle.core_tree.specs.declared.node.Program.{Program}
use Rattle.core_tree.specs.Typed.{CoreTrees, trees_in}
use Rattle.sol_model.specs.declared.system.System.{System}
use Rattle.sol_model.specs.Families.{Family}
use Rattle.sol_model.specs.Solutions.{IsClosed}
use Rattle.obj_space.specs.Space.{locations_in}
use Rattle.obj_space.specs.View.{view_of}
use Rattle.normal_form.specs.SystemOf.{SystemOf}
use Rattle.ref_cells.specs.declared.instance.Instance.{Instance}
use Rattle.ref_state.specs.ref_types.Types.{library_terms, library_ids}
use Rattle.ref_start.specs.Objects.{static_objects}
use Rattle.covering_laws.specs.covered_memory.Covered.{Sets, InstanceIn, MemoryIn}
use Rattle.covering_laws.specs.covered_memory.Demands.{Grounds}
use Rattle.covering_laws.specs.covered_library.Calls.{Takes}
use Rattle.covering_laws.specs.grown_programs.Grown.{with_terms, with_types}

-- the types of the library's objects, behind those of a program
abbrev pub terms_behind : Program → List Term
terms_behind p = library_terms (length p.types.terms)

-- the machine's table of types
abbrev pub machine_table : Program → Table
machine_table p = with_terms p.types (terms_behind p)

-- a program's trees over the machine's table
abbrev pub machine_trees : Program → CoreTrees
machine_trees p = record (trees_in p) { types = machine_table p }

-- its sets over that table
abbrev pub machine_sets : Program → Family → Sets
machine_sets p family = record { table = machine_table p; space = locations_in p; family = family }

-- the types are those of a table that was made, and a family is closed for the program's system
pub record IsSolved (p : Program) (system : System) (family : Family) : Type 0 where
  pub made : IsMade p.types
  pub named : AreNamed p.types
  pub is_system : SystemOf (with_types p (terms_behind p)) (view_of (locations_in p)) system
  pub closed : IsClosed system family
  pub grounds : Grounds p.types (locations_in p) system

-- the objects before any initialiser
abbrev pub objects_at_start : Program → List Instance
objects_at_start p = static_objects (machine_trees p) (locations_in p) (library_ids (length p.types.terms))

-- they are covered by the sets of each family that is closed for the program's system
abbrev pub ObjectsCovered : Type 0
ObjectsCovered =
    (p : Program) (system : System) (family : Family)
    → IsSolved p system family
    → MemoryIn (machine_sets p family) (objects_at_start p)

-- each instance without a type may have any
abbrev pub TakeAny : Sets → List Instance → Type 0
TakeAny g memory =
    (i : ℕ) (inst : Instance) (id : TypeId)
    → slice_get memory i ≡ Some inst
    → inst.ty ≡ None
    → (h : InstanceIn g memory inst)
    → Takes g.table id h.location.content

-- no object at the start waits for the type of a conversion
abbrev pub ObjectsTake : Type 0
ObjectsTake =
    (p : Program) (family : Family)
    → IsMade p.types
    → TakeAny (machine_sets p family) (objects_at_start p)
