-- What names mean, and which linkage they have, written by hand from C11.
use Rattle.std.specs.Prelude.{false, true, [], ◌∷◌, Some, None, codes}
use Rattle.c_types.specs.declared.term.Form.TheVariants.{Unspecified}
use Rattle.c_types.specs.declared.term.PathStep.TheVariants.{Index}
use Rattle.c_types.specs.Trees.{NoTypes, VoidType, PointerTo, ArrayOf, FunctionFrom, StructureOf}
use Rattle.core_tree.specs.declared.node.Op.TheVariants.{Plus}
use Rattle.core_tree.specs.declared.node.NodeKind.TheVariants.{For, Skip}
use Rattle.core_tree.specs.declared.node.Storage.TheVariants.{Static, FunctionBody, Declared}
use Rattle.core_tree.specs.Rows.{int, long, character}
use Rattle.sense_cases.specs.Cores.{unsigned_long, ints, of_void, of_one, takes_nothing, takes_one, object}
use Rattle.sense_cases.specs.Cores.{function, deref, read, decayed, number, changed, addressed, moved, assigned}
use Rattle.sense_cases.specs.Cores.{updated, called, expression, returned, block, initialised, statement, HasBody}
use Rattle.sense_cases.specs.Cores.{HasOperand, takes_any}
use Rattle.sense_cases.specs.Declared.{file_object, only_declared, defined, local, parameter, internal, whole}
use Rattle.sense_cases.specs.Declared.{IsUnit}
use Rattle.sense_cases.specs.NameTexts as text

-- 6.2.2p4: `extern` behind `static` is one object with it
abbrev pub InternalObject : Type 0
InternalObject =
    IsUnit text.internal_object
    (internal 3 3 int None
    ∷ defined 10 (of_void int) (block [] 14 (returned 15 (read (object 3 16 int)) ∷ []))
    ∷ [])
    []

-- each declaration of an external name has its own type
abbrev pub ExternalObject : Type 0
ExternalObject =
    IsUnit text.external_object
    (file_object 2 (ArrayOf int None) None ∷ only_declared 8 (ArrayOf int (Some 3)) ∷ []) []

-- 6.9.2: an internal object has its definition's place, and the type that its declarations give together
abbrev pub TentativeDefinition : Type 0
TentativeDefinition =
    IsUnit text.tentative_definition
    (internal 3 9 (ArrayOf int (Some 2))
    (Some (initialised 3 14 ((Index 0 ∷ []) ∷ []) (number 4 15 int ∷ [])))
    ∷ [])
    []

abbrev pub OneElement : Type 0
OneElement = IsUnit text.one_element (internal 3 3 (ArrayOf int (Some 1)) None ∷ []) []

abbrev pub InternalFunction : Type 0
InternalFunction = IsUnit text.internal_function (
    record
    (internal 3 10 (of_one int int) (Some (block [] 15 (returned 16 (read (object 13 17 int)) ∷ []))))
    { storage = FunctionBody }
    ∷ parameter 3 13 int
    ∷ []) []

-- 6.2.2p4: a declaration in a block takes over the linkage of the one that it sees; one that is hidden counts for
-- nothing
abbrev pub SeenInBlock : Type 0
SeenInBlock =
    IsUnit text.seen_in_block
    (internal 3 3 int None
    ∷ defined 6 (of_void VoidType) (block [] 10 (expression 15 (read (object 3 15 int)) ∷ [])) ∷ [])
    []

abbrev pub HiddenInBlock : Type 0
HiddenInBlock = IsUnit text.hidden_in_block (
    internal 3 3 int None
    ∷ defined 6 (of_void VoidType)
    (block (12 ∷ []) 10 (block [] 14 (expression 19 (read (object 17 19 int)) ∷ []) ∷ []))
    ∷ local 6 12 int None
    ∷ only_declared 17 int
    ∷ []) []

-- 6.2.1p4: a parameter hides the function
abbrev pub ParameterOfItsOwnName : Type 0
ParameterOfItsOwnName = IsUnit text.parameter_of_its_own_name (
    defined 2 (of_one int int) (block [] 7 (returned 8 (read (object 5 9 int)) ∷ [])) ∷ parameter 2 5 int ∷ []) []

-- 6.2.7p4: a use names the latest declaration, with the type of those that are seen
abbrev pub CompositeType : Type 0
CompositeType = IsUnit text.composite_type (
    only_declared 2 (of_one VoidType int)
    ∷ only_declared 8 (FunctionFrom VoidType NoTypes Unspecified)
    ∷ defined 13 (of_void VoidType) (block [] 17 (
    expression 19
    (called 19 VoidType
    (decayed (PointerTo (of_one VoidType int)) (function 8 18 (of_one VoidType int)))
    (changed int (number 1 20 long) ∷ []))
    ∷ []))
    ∷ []) []

abbrev pub SeenLength : Type 0
SeenLength = IsUnit text.seen_length (
    file_object 2 (ArrayOf int (Some 3)) None
    ∷ defined 9 (of_void unsigned_long) (block [] 13 (returned 20 (number 12 21 unsigned_long) ∷ []))
    ∷ only_declared 16 (ArrayOf int None)
    ∷ []) []

abbrev pub UnseenLength : Type 0
UnseenLength = IsUnit text.unseen_length (
    only_declared 3 (ArrayOf int None)
    ∷ defined 8 (of_void VoidType) (block [] 12 (
    block [] 13 []
    ∷ expression 23
    (read
    (deref 23 int (moved false 23 (decayed ints (object 3 22 (ArrayOf int None))) (number 0 24 int))))
    ∷ []))
    ∷ only_declared 16 (ArrayOf int (Some 3))
    ∷ []) []

-- 6.2.4: automatic objects are listed by their block, a static one is not
abbrev pub BlockObjects : Type 0
BlockObjects = IsUnit text.block_objects (
    defined 2 (of_void VoidType)
    (block (8 ∷ []) 6 (initialised 8 10 ([] ∷ []) (number 1 10 int ∷ []) ∷ block (20 ∷ []) 18 [] ∷ []))
    ∷ local 2 8 int (whole (number 1 10 int ∷ []) 8 10)
    ∷ record (local 2 14 int (whole (number 2 16 int ∷ []) 14 16)) { storage = Static }
    ∷ local 2 20 int None
    ∷ []) []

abbrev pub ForObjects : Type 0
ForObjects = IsUnit text.for_objects (
    defined 2 (of_void VoidType) (block [] 6 (
    statement (For (10 ∷ []) true true) 7 (
    initialised 10 12 ([] ∷ []) (number 0 12 int ∷ [])
    ∷ read (object 10 14 int)
    ∷ updated Plus true 17 (object 10 16 int) (number 1 17 int)
    ∷ statement Skip 19 []
    ∷ [])
    ∷ []))
    ∷ local 2 10 int (whole (number 0 12 int ∷ []) 10 12)
    ∷ []) []

-- 6.2.1p4: an object hides a typedef name
abbrev pub HiddenTypedef : Type 0
HiddenTypedef =
    HasBody text.hidden_typedef
    (block (12 ∷ []) 10
    (initialised 12 14 ([] ∷ []) (number 1 14 int ∷ []) ∷ expression 16 (read (object 12 16 int)) ∷ []))

abbrev pub HiddenEnumerator : Type 0
HiddenEnumerator =
    HasBody text.hidden_enumerator
    (block (15 ∷ []) 13
    (initialised 15 17 ([] ∷ []) (number 2 17 int ∷ []) ∷ returned 19 (read (object 15 20 int)) ∷ []))

-- 6.2.2p5: functions that are declared in a block, by a typedef name, and behind `static`
abbrev pub BlockFunction : Type 0
BlockFunction = HasBody text.block_function (block [] 6 (
    expression 14
    (called 14 int (decayed takes_one (function 8 13 (of_one int int)))
    (changed int (number 1 15 long) ∷ []))
    ∷ []))

-- 6.2.2p4, p5: a function in a block takes over the linkage that it sees
abbrev pub BlockTakesOver : Type 0
BlockTakesOver = IsUnit text.block_takes_over (
    record (internal 3 3 (of_void int) None) { storage = Declared }
    ∷ defined 9 (of_void int)
    (block [] 13
    (returned 20 (called 22 int (decayed takes_nothing (function 3 21 (of_void int))) []) ∷ []))
    ∷ []) []

abbrev pub TypedefFunction : Type 0
TypedefFunction = IsUnit text.typedef_function (
    only_declared 9 (of_void int)
    ∷ file_object 12 (PointerTo (of_void int)) None
    ∷ defined 15 (of_void VoidType)
    (block [] 19
    (expression 21
    (assigned 21 (object 12 20 (PointerTo (of_void int)))
    (decayed (PointerTo (of_void int)) (function 9 22 (of_void int))))
    ∷ []))
    ∷ []) []

abbrev pub TakenOver : Type 0
TakenOver = IsUnit text.taken_over (
    record
    (internal 3 21 (of_void int) (Some (block [] 25 (returned 26 (number 1 27 int) ∷ []))))
    { storage = FunctionBody }
    ∷ defined 9 (of_void int)
    (block [] 13
    (returned 14 (called 16 int (decayed (PointerTo (of_void int)) (function 3 15 (of_void int))) [])
    ∷ []))
    ∷ []) []

abbrev pub StaticThenExtern : Type 0
StaticThenExtern = IsUnit text.static_then_extern (
    record (internal 3 3 (of_one int int) None) { storage = Declared }
    ∷ defined 15 (of_void int)
    (block [] 19
    (returned 20
    (called 22 int (decayed takes_one (function 3 21 (of_one int int)))
    (changed int (number 1 23 long) ∷ []))
    ∷ []))
    ∷ []) []

-- 6.2.4p3: static objects of two functions
abbrev pub StaticTwice : Type 0
StaticTwice = IsUnit text.static_twice (
    defined 2 (of_void VoidType) (block [] 6 [])
    ∷ record (local 2 9 int None) { storage = Static }
    ∷ defined 13 (of_void VoidType) (block [] 17 [])
    ∷ record (local 13 20 int (whole (number 1 22 int ∷ []) 20 22)) { storage = Static }
    ∷ []) []

abbrev pub ExternInitialised : Type 0
ExternInitialised = IsUnit text.extern_initialised (file_object 3 int (whole (number 1 5 int ∷ []) 3 5) ∷ []) []

-- an object that is only declared may have an incomplete type
abbrev pub ExternOpen : Type 0
ExternOpen = IsUnit text.extern_open (
    only_declared 4 (StructureOf 3)
    ∷ defined 9 (of_void (PointerTo (StructureOf 3)))
    (block [] 13 (returned 14 (addressed 15 (object 4 16 (StructureOf 3))) ∷ []))
    ∷ []) (record { known_at = 3; members = None; key = Some (codes "struct s") } ∷ [])

-- 6.5.3.4: an operand that isn't evaluated may call, also in a static initialiser
abbrev pub UncalledSize : Type 0
UncalledSize =
    IsUnit text.uncalled_size
    (only_declared 2 (of_void int)
    ∷ internal 10 10 unsigned_long (whole (number 4 12 unsigned_long ∷ []) 10 12)
    ∷ [])
    []

-- 6.2.1p7: a name is known behind its declarator, so not in its length and already in its initialiser
abbrev pub OuterInItsLength : Type 0
OuterInItsLength =
    HasBody text.outer_in_its_length (block (12 ∷ []) 10 (returned 18 (number 4 19 unsigned_long) ∷ []))

abbrev pub SizeInInitialiser : Type 0
SizeInInitialiser =
    IsUnit text.size_in_initialiser
    (file_object 2 int (whole (changed int (number 4 4 unsigned_long) ∷ []) 2 4) ∷ []) []

abbrev pub ItselfInInitialiser : Type 0
ItselfInInitialiser =
    HasBody text.itself_in_initialiser
    (block (8 ∷ []) 6 (initialised 8 10 ([] ∷ []) (read (object 8 10 int) ∷ []) ∷ []))

-- an array's own initialiser sees the length of an earlier declaration, if its elements agree, and that
-- declaration's object
abbrev pub LengthInInitialiser : Type 0
LengthInInitialiser = HasOperand text.length_in_initialiser (object 3 15 (ArrayOf (PointerTo VoidType) (Some 2)))

abbrev pub OtherInInitialiser : Type 0
OtherInInitialiser = HasOperand text.other_in_initialiser (object 10 15 (ArrayOf (PointerTo VoidType) None))

-- where the declarations of an external name don't agree, a use has the latest one's type
abbrev pub DifferentElements : Type 0
DifferentElements = IsUnit text.different_elements (
    file_object 2 (ArrayOf long (Some 3)) None
    ∷ only_declared 9 (ArrayOf int None)
    ∷ defined 14 (of_void int)
    (block [] 18
    (returned 19
    (read
    (deref 21 int
    (moved false 21 (decayed ints (object 9 20 (ArrayOf int None))) (number 0 22 int))))
    ∷ []))
    ∷ []) []

abbrev pub DifferentResults : Type 0
DifferentResults = IsUnit text.different_results (
    only_declared 2 (of_one long int)
    ∷ only_declared 8 takes_any
    ∷ defined 13 (of_void long)
    (block [] 17
    (returned 18
    (changed long
    (called 20 int (decayed (PointerTo takes_any) (function 8 19 takes_any))
    (number 1 21 int ∷ [])))
    ∷ []))
    ∷ []) []

-- 6.2.7p4: an array without a length has the length that is seen of its name, so that fewer values than elements
-- may follow
abbrev pub SeenBeforeValues : Type 0
SeenBeforeValues =
    IsUnit text.seen_before_values
    (only_declared 3 (ArrayOf int (Some 3))
    ∷ file_object 9 (ArrayOf int (Some 3))
    (Some
    (initialised 9 13 ((Index 0 ∷ []) ∷ (Index 1 ∷ []) ∷ []) (number 1 14 int ∷ number 2 16 int ∷ [])))
    ∷ [])
    []

abbrev pub StaticBeforeValues : Type 0
StaticBeforeValues =
    IsUnit text.static_before_values
    (internal 3 10 (ArrayOf int (Some 3))
    (Some (initialised 3 14 ((Index 0 ∷ []) ∷ []) (number 1 15 int ∷ [])))
    ∷ [])
    []

-- a string has no closing zero where that length leaves no room for it
abbrev pub LengthOfLatest : Type 0
LengthOfLatest = IsUnit text.length_of_latest (
    file_object 2 (ArrayOf character (Some 2)) None
    ∷ file_object 8 (ArrayOf character (Some 2))
    (Some
    (initialised 8 12 ((Index 0 ∷ []) ∷ (Index 1 ∷ []) ∷ [])
    (number 97 12 character ∷ number 98 12 character ∷ [])))
    ∷ defined 15 (of_void int) (block [] 19 (returned 20 (changed int (number 2 21 unsigned_long)) ∷ []))
    ∷ []) []

-- a function that is defined with `()` has that type, also where a call goes by the list of another declaration
abbrev pub DefinedWithoutList : Type 0
DefinedWithoutList = IsUnit text.defined_without_list (
    record (internal 3 10 takes_any (Some (block [] 13 (
    returned 14
    (called 16 int (decayed takes_one (function 3 15 (of_one int int)))
    (changed int (number 1 17 long) ∷ []))
    ∷ [])))) { storage = FunctionBody }
    ∷ []) []

-- 6.7.8p3: a typedef name is no object of its block
abbrev pub TypedefInBlock : Type 0
TypedefInBlock = IsUnit text.typedef_in_block (
    defined 2 (of_void int)
    (block (12 ∷ []) 6
    (initialised 12 14 ([] ∷ []) (number 3 14 int ∷ []) ∷ returned 16 (read (object 12 17 int)) ∷ []))
    ∷ local 2 12 int (whole (number 3 14 int ∷ []) 12 14)
    ∷ []) []

-- all of these
pub record NamesStand : Type 0 where
  pub internal_object : InternalObject
  pub external_object : ExternalObject
  pub tentative_definition : TentativeDefinition
  pub one_element : OneElement
  pub internal_function : InternalFunction
  pub seen_in_block : SeenInBlock
  pub hidden_in_block : HiddenInBlock
  pub parameter_of_its_own_name : ParameterOfItsOwnName
  pub composite_type : CompositeType
  pub seen_length : SeenLength
  pub unseen_length : UnseenLength
  pub block_objects : BlockObjects
  pub for_objects : ForObjects
  pub hidden_typedef : HiddenTypedef
  pub hidden_enumerator : HiddenEnumerator
  pub block_function : BlockFunction
  pub block_takes_over : BlockTakesOver
  pub typedef_function : TypedefFunction
  pub taken_over : TakenOver
  pub static_then_extern : StaticThenExtern
  pub static_twice : StaticTwice
  pub extern_initialised : ExternInitialised
  pub extern_open : ExternOpen
  pub uncalled_size : UncalledSize
  pub outer_in_its_length : OuterInItsLength
  pub size_in_initialiser : SizeInInitialiser
  pub itself_in_initialiser : ItselfInInitialiser
  pub length_in_initialiser : LengthInInitialiser
  pub other_in_initialiser : OtherInInitialiser
  pub different_elements : DifferentElements
  pub different_results : DifferentResults
  pub seen_before_values : SeenBeforeValues
  pub static_before_values : StaticBeforeValues
  pub length_of_latest : LengthOfLatest
  pub defined_without_list : DefinedWithoutList
  pub typedef_in_block : TypedefInBlock
