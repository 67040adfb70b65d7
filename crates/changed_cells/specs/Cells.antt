-- What the cells of memory hold, and which of them the step of a state writes.
use Rattle.std.specs.Prelude.{◌≡◌, ◌≢◌, ◌⊎◌, ℕ, List, [], ◌∷◌, ◌++◌, Option, Some, None, slice_get}
use Rattle.std.specs.Option.{option_map}
use Rattle.c_types.specs.declared.key.ObjectKey.{ObjectKey}
use Rattle.c_types.specs.declared.key.ObjectKey.TheVariants.{Library as LibraryKey}
use Rattle.c_types.specs.declared.term.PathStep.{PathStep}
use Rattle.c_types.specs.declared.term.PathStep.TheVariants.{Index, Member}
use Rattle.c_types.specs.declared.term.TypeId.{TypeId}
use Rattle.c_types.specs.Trees.{Ctype, UnionOf}
use Rattle.c_types.specs.Table.{Table}
use Rattle.type_rules.specs.Kinds.{IsScalar, IsList}
use Rattle.core_tree.specs.Typed.{CoreTrees}
use Rattle.obj_space.specs.Spots.{Reached, part_at}
use Rattle.mod_ref.specs.declared.access.Access.TheVariants.{Write}
use Rattle.ref_cells.specs.declared.cells.Cell.{Cell}
use Rattle.ref_cells.specs.declared.instance.Instance.{Instance}
use Rattle.ref_cells.specs.Values.{cell_in}
use Rattle.ref_cells.specs.Wholes.{whole_of}
use Rattle.ref_mem.specs.Reads.{opened}
use Rattle.ref_state.specs.declared.items.Item.{Item}
use Rattle.ref_state.specs.declared.items.Item.TheVariants.{Library}
use Rattle.ref_state.specs.declared.frames.Frame.{Frame}
use Rattle.covering_laws.specs.covered_memory.Spots.{whole_part, part_in}
use Rattle.covered_runs.specs.touched_runs.Accesses.{ItemAccesses, MayBeCell}

-- ---- cells
-- a scalar type, or that of variadic lists
abbrev pub IsPlain : Ctype → Type 0
IsPlain t = IsScalar t ⊎ IsList t

-- what an instance holds at a path to such a type: the cell that is listed there, or a blank one where none is; nothing
-- where the path goes through a member of a union that isn't the active one
abbrev pub held : Table → Instance → List PathStep → Ctype → Option Cell
held table inst path t = option_map (cell_in inst.zero t) (opened table (whole_of table inst) path inst.cells)

-- an instance as it is with another type, or without one
abbrev pub with_type : Instance → Option TypeId → Instance
with_type inst ty = record inst { ty = ty }

-- A cell of an object, no aggregate (C11 6.2.5p21), holds something else in a memory than in an earlier one. An object
-- that had no type is seen by the type that it has now, both times: what is copied into it gives it its effective type
-- (C11 6.5p6).
pub record IsChanged (table : Table) (before after : List Instance) (i : ℕ) (key : ObjectKey)
    (path : List PathStep) : Type 0 where
  pub old : Instance
  pub was : slice_get before i ≡ Some old
  pub new : Instance
  pub there : slice_get after i ≡ Some new
  pub key_is : new.key ≡ key
  pub part : Reached
  pub part_is : part_in table new path ≡ Some part
  pub plain : IsPlain part.ty
  pub differs : held table (with_type old new.ty) path part.ty ≢ held table new path part.ty

-- An object that has no type yet has other cells listed than in an earlier memory, or what isn't listed is zero in one
-- of the two and blank in the other.
pub record IsBareChanged (before after : List Instance) (i : ℕ) (key : ObjectKey) : Type 0 where
  pub old : Instance
  pub was : slice_get before i ≡ Some old
  pub new : Instance
  pub there : slice_get after i ≡ Some new
  pub key_is : new.key ≡ key
  pub untyped : new.ty ≡ None
  pub differs : (new.cells ≡ old.cells) × (new.zero ≡ old.zero) → ⊥

-- two paths that go into one union: its members share their storage (C11 6.2.5p20, 6.7.2.1p16)
pub record AreInUnion (table : Table) (whole : Option Reached) (p q : List PathStep) : Type 0 where
  pub front : List PathStep
  pub top : Reached
  pub top_is : part_at table whole front ≡ Some top
  pub tag : ℕ
  pub union : top.ty ≡ UnionOf tag
  pub first : ℕ
  pub below : List PathStep
  pub p_is : p ≡ front ++ Member first ∷ below
  pub second : ℕ
  pub beside : List PathStep
  pub q_is : q ≡ front ++ Member second ∷ beside

-- ---- what a step writes
-- `__ctype_b_loc`, the library's function of number 53, writes each cell of `<ctypes>`, the library's eighth object
abbrev pub ItemFills : List Item → ObjectKey → Type 0
ItemFills (Library n k arguments ∷ items) key = (k ≡ 53) × (key ≡ LibraryKey 8)
ItemFills items key = ⊥

-- the step of these frames writes the cell at a path of an instance of an object, be it that the object has it before
-- the step or gets it in the step
abbrev pub FramesWrite : CoreTrees → List Instance → List Frame → ℕ → ObjectKey → List PathStep → Type 0
FramesWrite u memory [] i key path = ⊥
FramesWrite u memory (f ∷ rest) i key path =
    (ItemAccesses u memory f.instances Write f.items i path × MayBeCell u.types memory i key path)
    ⊎ ItemFills f.items key

-- it writes the cell, or another one of a union that the cell is in
pub record IsWritten (u : CoreTrees) (memory : List Instance) (frames : List Frame) (i : ℕ) (inst : Instance)
    (path : List PathStep) : Type 0 where
  pub cell : List PathStep
  pub written : FramesWrite u memory frames i inst.key cell
  pub same : (cell ≡ path) ⊎ AreInUnion u.types (whole_part (whole_of u.types inst)) cell path

-- What the step of these frames leaves of an instance: it is of the same object, with the bytes and the type that it
-- had, and each cell holds what it held unless it is written. Of one without a type all that is listed stays, and so
-- does the mark by which what isn't listed is zero, unless each cell of each element is written.
pub record StaysBut (u : CoreTrees) (memory : List Instance) (frames : List Frame) (i : ℕ)
    (old new : Instance) : Type 0 where
  pub key : new.key ≡ old.key
  pub bytes : new.bytes ≡ old.bytes
  pub ty : (id : TypeId) → old.ty ≡ Some id → new.ty ≡ Some id
  pub cells : (path : List PathStep) (part : Reached)
      → part_in u.types old path ≡ Some part
      → IsPlain part.ty
      → (held u.types new path part.ty ≡ held u.types old path part.ty) ⊎ IsWritten u memory frames i old path
  pub bare : old.ty ≡ None
      → ((new.cells ≡ old.cells) × (new.zero ≡ old.zero))
      ⊎ ((k : ℕ) (path : List PathStep) → FramesWrite u memory frames i old.key (Index k ∷ path))
