-- That what a node computes is covered.
use Rattle.std.specs.Prelude.{◌≡◌, ◌≢◌, ◌⊎◌, ℕ, ◌+◌, ◌<◌, ⊤, false, List, [], ◌∷◌, Some, None, Ok, All, Contains}
use Rattle.std.specs.Prelude.{slice_get}
use Rattle.c_types.specs.declared.key.ObjectKey.TheVariants.{Entity as EntityKey, Varargs as VarargsKey}
use Rattle.c_types.specs.declared.term.PathStep.TheVariants.{Index}
use Rattle.c_types.specs.declared.term.TypeId.{TypeId}
use Rattle.c_types.specs.Trees.{Ctype}
use Rattle.c_types.specs.Table.{type_of}
use Rattle.type_rules.specs.Kinds.{IsPointer}
use Rattle.core_tree.specs.declared.node.Node.{Node}
use Rattle.core_tree.specs.declared.node.NodeKind.{NodeKind}
use Rattle.core_tree.specs.declared.node.NodeKind.TheVariants.{FunctionName, Convert, NextArg}
use Rattle.core_tree.specs.Typed.{type_at}
use Rattle.core_tree.specs.Range.{EachNode}
use Rattle.core_tree.specs.Valid.{InRows, Literals, IsEntryAt}
use Rattle.sol_model.specs.Solutions.{IsClosed}
use Rattle.obj_space.specs.View.{first_from}
use Rattle.row_numbers.specs.Objects.{entity_key}
use Rattle.ref_cells.specs.declared.cells.Cell.{Cell}
use Rattle.ref_cells.specs.declared.cells.Cell.TheVariants.{Pointer, Function}
use Rattle.ref_cells.specs.declared.cells.Value.{Value}
use Rattle.ref_cells.specs.declared.instance.Instance.{Instance}
use Rattle.ref_cells.specs.Cells.{under}
use Rattle.ref_mem.specs.Reads.{read, one_cell, converted_cell}
use Rattle.ref_mem.specs.Writes.{write}
use Rattle.ref_elements.specs.Outcomes.{Effected, stores_and_gives}
use Rattle.ref_state.specs.Values.{cell_of, cell_in, first_cell}
use Rattle.ref_values.specs.Memory.{pointee, stores_at}
use Rattle.ref_values.specs.Values.{computed}
use Rattle.covering_laws.specs.object_contents.Contents.{IsOutside}
use Rattle.covering_laws.specs.covered_types.Whole.{AreWhole, HasFew}
use Rattle.covering_laws.specs.covered_memory.Covered.{InstanceIn, MemoryIn, Leaves}
use Rattle.covering_laws.specs.covered_memory.Demands.{Grounds}
use Rattle.covering_laws.specs.covered_library.Calls.{Takes, StoresIn}
use Rattle.covering_laws.specs.covered_rows.Nodes.{PlaceIn}
use Rattle.covering_laws.specs.covered_state.World.{World, trees_of, sets_of, setting_in}
use Rattle.covering_laws.specs.covered_state.Items.{Each, NodeIn}

-- a function that is named has a location
abbrev pub IsFound : World → NodeKind → Type 0
IsFound world (FunctionName e) =
    (l : ℕ) × (first_from 0 world.space (entity_key e (slice_get (trees_of world).entities e)) ≡ Some l)
IsFound world kind = ⊤

-- an entity has a location
abbrev pub HasFirst : World → ℕ → Type 0
HasFirst world e = (l : ℕ) × (first_from 0 world.space (EntityKey e) ≡ Some l)

-- a program that is entered from outside: what lies there has its location, and so does each function at which the
-- program is entered, which is one that may be
pub record IsOpened (world : World) : Type 0 where
  pub outside : IsOutside world.space
  pub entries : All (λ e. IsEntryAt (trees_of world) e) world.program.entries.items
  pub firsts : (e : ℕ) → Contains world.program.entries.items e → HasFirst world e

-- the family is closed, and the program's nodes stand in their rows, over types that are complete where they must be
pub record Stands (world : World) : Type 0 where
  pub closed : IsClosed world.system world.family
  pub grounds : Grounds world.program.types world.space world.system
  pub whole : AreWhole world.program
  pub few : HasFew world.program.types
  pub rows : InRows (trees_of world)
  pub literals : Literals (trees_of world)
  pub found : EachNode (trees_of world) (λ n node. IsFound world node.kind)
  pub opened : world.program.entries.items ≢ [] → IsOpened world

-- an object without a type may have the one to which a pointer of that type points
abbrev pub MayType : World → List Instance → Cell → TypeId → Type 0
MayType world memory (Pointer i path past) ty =
    (inst : Instance) (id : TypeId)
    → slice_get memory i ≡ Some inst
    → inst.ty ≡ None
    → pointee (slice_get world.program.types.terms ty.0) ≡ Some id
    → (h : InstanceIn (sets_of world) memory inst)
    → Takes world.program.types id h.location.content
MayType world memory cell ty = ⊤

-- each instance was there before, and one that has no type had none
abbrev pub GoesBack : List Instance → List Instance → Type 0
GoesBack old new =
    (i : ℕ) (b : Instance)
    → slice_get new i ≡ Some b
    → (a : Instance) × (slice_get old i ≡ Some a) × (b.ty ≡ None → a.ty ≡ None)

-- what is computed at a node leaves the memory covered, its value is covered, and so is what it stores
pub record IsComputed (world : World) (memory : List Instance) (n : ℕ) (e : Effected) : Type 0 where
  pub leaves : Leaves (sets_of world) memory e.memory
  pub before : GoesBack memory e.memory
  pub value : NodeIn world e.memory n e.outcome.value
  pub stores : StoresIn (sets_of world) e.memory e.outcome.stores

-- what a place or a value computes over covered operands is covered
abbrev pub ValuesCovered : Type 0
ValuesCovered =
    (world : World) (memory : List Instance) (own : List ℕ) (n : ℕ) (node : Node) (values : List (ℕ × Value))
    (word : ℕ) (e : Effected)
    → Stands world
    → MemoryIn (sets_of world) memory
    → slice_get (trees_of world).nodes n ≡ Some node
    → Each (λ v. NodeIn world memory v.0 v.1) values
    → ((v : ℕ) → node.kind ≡ Convert → node.children ≡ v ∷ [] → MayType world memory (cell_in values v) node.ty)
    → computed (trees_of world) memory own n node values word ≡ Ok e
    → IsComputed world memory n e

-- a cell that doesn't point
abbrev pub IsPlain : Cell → Type 0
IsPlain (Pointer i path past) = ⊥
IsPlain (Function key) = ⊥
IsPlain cell = ⊤

-- the value of a type that a cell gives; only a pointer's points
pub record IsCellOf (t : Ctype) (c : Cell) (value : Value) : Type 0 where
  pub value_is : value ≡ one_cell (converted_cell t c)
  pub points : IsPointer t ⊎ IsPlain c

-- what a list at a covered place gives: argument k of what an instance was passed past its parameters; and the list
-- behind it, which is put back at the place
pub record IsNext (world : World) (memory : List Instance) (p : ℕ) (place : Cell) (t : Ctype) (value : Value)
    (after : List Instance) : Type 0 where
  pub list : Value
  pub list_is : read world.program.types memory place (type_at (trees_of world) p) ≡ Ok list
  pub i : ℕ
  pub k : ℕ
  pub points : cell_of list ≡ Pointer i (Index k ∷ []) false
  pub inst : Instance
  pub inst_is : slice_get memory i ≡ Some inst
  pub e : ℕ
  pub key : inst.key ≡ VarargsKey e
  pub within : k < inst.bytes
  pub value_is : IsCellOf t (first_cell (under (Index k) inst.cells)) value
  pub after_is : write world.program.types memory place (type_at (trees_of world) p)
      (one_cell (Pointer i (Index (k + 1) ∷ []) false))
      ≡ Ok after

-- the next argument of a list at a covered place is covered, and so is the list behind it (C11 7.16.1.1)
abbrev pub NextsCovered : Type 0
NextsCovered =
    (world : World) (memory after : List Instance) (n p : ℕ) (node : Node) (place : Cell) (value : Value)
    (e : Effected)
    → Stands world
    → MemoryIn (sets_of world) memory
    → slice_get (trees_of world).nodes n ≡ Some node
    → node.kind ≡ NextArg
    → node.children ≡ p ∷ []
    → PlaceIn (sets_of world) (setting_in world) memory p place
    → (next : IsNext world memory p place (type_of world.program.types node.ty.0) value after)
    → stores_and_gives after value (stores_at place (([], Pointer next.i (Index (next.k + 1) ∷ []) false) ∷ [])) ≡ Ok e
    → IsComputed world memory n e
