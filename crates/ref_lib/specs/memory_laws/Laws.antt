-- That each change of a memory leads to one that follows it. The type of a new instance, and a type that one gets,
-- is the table's.
use Rattle.std.specs.Prelude.{ℕ, ◌≡◌, ◌<◌, true, false, List, [], ◌∷◌, ◌++◌, Option, Some, None, IfOk, length}
use Rattle.std.specs.Prelude.{slice_get}
use Rattle.c_types.specs.declared.key.ObjectKey.{ObjectKey}
use Rattle.c_types.specs.declared.term.TypeId.{TypeId}
use Rattle.c_types.specs.Trees.{Ctype}
use Rattle.c_types.specs.Table.{Table}
use Rattle.c_types.specs.Made.{AreNamed, IsMade}
use Rattle.ref_cells.specs.declared.cells.Cell.{Cell}
use Rattle.ref_cells.specs.declared.cells.Value.{Value}
use Rattle.ref_cells.specs.declared.instance.Instance.{Instance}
use Rattle.ref_cells.specs.Places.{IsKnown, AreKnown}
use Rattle.ref_mem.specs.Writes.{write, changed, typed_as, with_parts}
use Rattle.ref_elements.specs.Parts.{Parts}
use Rattle.ref_lib.specs.Effects.{rows, effect}
use Rattle.ref_lib.specs.memory_laws.Kept.{Follows}
use Rattle.ref_lib.specs.memory_laws.Ends.{ended_by}

-- a memory with one instance more
abbrev pub NewFollows : Type 0
NewFollows =
    (types : ℕ) (memory : List Instance) (inst : Instance) → AreKnown types memory → IsKnown types inst.ty →
    Follows types None memory (memory ++ inst ∷ [])

-- an instance without a type gets one
abbrev pub TypedFollows : Type 0
TypedFollows = (types : ℕ) (memory : List Instance) (i : ℕ) (id : TypeId) → AreKnown types memory → id.0 < types →
    ((inst : Instance) → slice_get memory i ≡ Some inst → inst.ty ≡ None) →
    Follows types None memory (changed memory i (slice_get memory i) (λ inst. record inst { ty = Some id }))

-- an instance gets the mark by which what isn't listed is zero
abbrev pub ZeroFollows : Type 0
ZeroFollows = (types : ℕ) (memory : List Instance) (i : ℕ) → AreKnown types memory →
    Follows types None memory (changed memory i (slice_get memory i) (λ inst. record inst { zero = true }))

-- each cell of an instance becomes zero or null
abbrev pub ClearFollows : Type 0
ClearFollows = (types : ℕ) (memory : List Instance) (i : ℕ) → AreKnown types memory →
    Follows types None memory
    (changed memory i (slice_get memory i) (λ inst. record inst { zero = true; cells = [] }))

-- an instance ends
abbrev pub EndFollows : Type 0
EndFollows = (types : ℕ) (memory : List Instance) (i : ℕ) → AreKnown types memory →
    Follows types (Some i) memory (changed memory i (slice_get memory i) (λ inst. record inst { live = false }))

-- parts are put into an instance
abbrev pub PutFollows : Type 0
PutFollows = (table : Table) (types : ℕ) (memory : List Instance) (i : ℕ) (parts : Parts) → AreKnown types memory →
    Follows types None memory (changed memory i (slice_get memory i) (with_parts table parts))

-- parts are put into an instance, which gets a type where it has none
abbrev pub PartsFollow : Type 0
PartsFollow =
    (table : Table) (types : ℕ) (memory : List Instance) (i : ℕ) (id : TypeId) (parts : Parts)
    → AreKnown types memory
    → id.0 < types →
    Follows types None memory
    (changed memory i (slice_get memory i) (λ inst. with_parts table parts (typed_as id inst)))

-- a value is put at a place
abbrev pub WriteFollows : Type 0
WriteFollows =
    (table : Table) (types : ℕ) (memory : List Instance) (place : Cell) (t : Ctype) (value : Value)
    → AreKnown types memory →
    IfOk (write table memory place t value) (λ after. Follows types None memory after)

-- a library function is called
abbrev pub EffectFollows : Type 0
EffectFollows =
    (table : Table) (memory : List Instance) (function : ℕ) (key : ObjectKey) (fixed : Option TypeId)
    (result : TypeId)
    (arguments : List Value) (word : ℕ) → AreNamed table → IsMade table → AreKnown (length table.terms) memory →
    IsKnown (length table.terms) fixed → IfOk (effect table memory function key fixed result arguments word) (λ e.
    Follows (length table.terms) (ended_by memory (slice_get rows function) arguments word) memory e.memory)
