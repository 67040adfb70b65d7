-- What specifiers and declarators make, and what tags have, written by hand from C11.
use Rattle.std.specs.Prelude.{◌+◌, false, true, [], ◌∷◌, Some, None, codes}
use Rattle.c_types.specs.declared.term.Form.TheVariants.{Fixed, Unspecified}
use Rattle.c_types.specs.Trees.{NoTypes, MoreTypes, VoidType, BoolType, IntegerType, FloatingType, PointerTo}
use Rattle.c_types.specs.Trees.{ArrayOf, FunctionFrom, StructureOf, UnionOf}
use Rattle.core_tree.specs.declared.node.NodeKind.TheVariants.{Skip}
use Rattle.core_tree.specs.Rows.{int, long, character}
use Rattle.sense_cases.specs.Cores.{short, unsigned, unsigned_long, ints, three_ints, S, of_void, of_one}
use Rattle.sense_cases.specs.Cores.{takes_nothing, takes_one, object, deref, member, read, number, null, moved}
use Rattle.sense_cases.specs.Cores.{called, expression, returned, block, statement, HasBody}
use Rattle.sense_cases.specs.Declared.{file_object, only_declared, defined, local, parameter, whole, part, unnamed}
use Rattle.sense_cases.specs.Declared.{tag, IsUnit, HasTags}
use Rattle.sense_cases.specs.TypeTexts as text

-- 6.7.2p2: type words in any order
abbrev pub WordTypes : Type 0
WordTypes = IsUnit text.word_types (
    file_object 4 unsigned_long None
    ∷ file_object 8 unsigned_long None
    ∷ file_object 11 short None
    ∷ file_object 15 (IntegerType 1 2 true) None
    ∷ file_object 18 (IntegerType 1 1 true) None
    ∷ file_object 22 (IntegerType 1 2 false) None
    ∷ file_object 27 (IntegerType 8 6 true) None
    ∷ file_object 30 BoolType None
    ∷ file_object 33 unsigned None
    ∷ file_object 37 FloatingType None
    ∷ file_object 41 int None
    ∷ []) []

-- 6.7.6: a declarator from the outside in; a parameter of array or function type is a pointer
abbrev pub DerivedTypes : Type 0
DerivedTypes = IsUnit text.derived_types (
    only_declared 4 (of_void (PointerTo (of_one int int)))
    ∷ file_object 15 (ArrayOf ints (Some 3)) None
    ∷ file_object 23 (PointerTo (ArrayOf int (Some 3))) None
    ∷ only_declared 30 (FunctionFrom int (MoreTypes ints (MoreTypes (PointerTo (of_one int int)) NoTypes)) Fixed)
    ∷ []) []

-- 6.7.8, 6.7.2.2: a typedef name is no entity; an enumerator is one more than the one before
abbrev pub NamedTypes : Type 0
NamedTypes =
    IsUnit text.named_types
    (file_object 12 ints None ∷ file_object 25 int None ∷ file_object 28 (ArrayOf int (Some 6)) None ∷ []) []

-- 6.7.2.2p3
abbrev pub CountedOn : Type 0
CountedOn = IsUnit text.counted_on (file_object 16 (ArrayOf int (Some 3)) None ∷ []) []

abbrev pub EnumeratorInStructure : Type 0
EnumeratorInStructure = IsUnit text.enumerator_in_structure (file_object 19 S None ∷ []) (
    tag 2 (part (codes "e") int ∷ part (codes "a") three_ints ∷ []) (Some (codes "struct s")) ∷ [])

-- 6.7p3, 6.7.6
abbrev pub TypedefAgain : Type 0
TypedefAgain = IsUnit text.typedef_again (file_object 10 int None ∷ []) []

abbrev pub ArrayOfPointers : Type 0
ArrayOfPointers = IsUnit text.array_of_pointers (file_object 4 (ArrayOf takes_nothing (Some 3)) None ∷ []) []

-- an assembler name has no meaning
abbrev pub AssemblerName : Type 0
AssemblerName =
    IsUnit text.assembler_name
    (file_object 2 int (whole (number 3 8 int ∷ []) 2 8)
    ∷ file_object 10 int (whole (number 4 16 int ∷ []) 10 16) ∷ [])
    []

-- 6.7.6.3p7, p10: void alone by a typedef or with a qualifier; arrays are pointers
abbrev pub Parameters : Type 0
Parameters = IsUnit text.parameters (
    only_declared 6 (of_void int)
    ∷ only_declared 12 (of_void int)
    ∷ only_declared 19 (of_one int VoidType)
    ∷ defined 33
    (FunctionFrom VoidType
    (MoreTypes ints (MoreTypes (PointerTo (ArrayOf int (Some 3))) (MoreTypes ints NoTypes))) Fixed)
    (block [] 52 (
    expression 53 (number 8 53 unsigned_long)
    ∷ expression 56 (read (object 39 56 (PointerTo (ArrayOf int (Some 3))))) ∷ []))
    ∷ parameter 33 36 ints
    ∷ parameter 33 39 (PointerTo (ArrayOf int (Some 3)))
    ∷ parameter 33 48 ints
    ∷ []) []

-- a length that isn't constant, in a parameter's outermost array
abbrev pub ParameterLengths : Type 0
ParameterLengths = IsUnit text.parameter_lengths (
    file_object 2 int None
    ∷ only_declared 5
    (FunctionFrom int
    (MoreTypes ints (MoreTypes ints (MoreTypes (PointerTo (ArrayOf int (Some 4))) NoTypes))) Fixed)
    ∷ []) []

-- a length that names another parameter
abbrev pub LengthByParameter : Type 0
LengthByParameter = IsUnit text.length_by_parameter (
    defined 2 (FunctionFrom int (MoreTypes int (MoreTypes ints NoTypes)) Fixed) (block [] 13 (
    returned 14 (read (deref 16 int (moved false 16 (read (object 8 15 ints)) (number 0 17 int)))) ∷ []))
    ∷ parameter 2 5 int
    ∷ parameter 2 8 ints
    ∷ []) []

abbrev pub ParameterFunction : Type 0
ParameterFunction = IsUnit text.parameter_function (
    defined 2 (of_one int takes_one)
    (block [] 11 (returned 12 (called 14 int (read (object 5 13 takes_one)) (number 1 15 int ∷ [])) ∷ []))
    ∷ parameter 2 5 takes_one ∷ []) []

-- 6.9.1: definitions without a list, in parentheses, and of a function that returns a pointer to one
abbrev pub FunctionWithoutList : Type 0
FunctionWithoutList =
    IsUnit text.function_without_list
    (defined 2 (FunctionFrom int NoTypes Unspecified) (block [] 5 (returned 6 (number 1 7 int) ∷ [])) ∷ []) []

abbrev pub Parenthesised : Type 0
Parenthesised =
    IsUnit text.parenthesised
    (defined 3 (of_one int int) (block [] 9 (returned 10 (read (object 7 12 int)) ∷ [])) ∷ parameter 3 7 int
    ∷ [])
    []

abbrev pub ReturnsPointer : Type 0
ReturnsPointer =
    IsUnit text.returns_pointer
    (defined 4 (of_void takes_one) (block [] 12 (returned 13 (null 14 takes_one) ∷ [])) ∷ []) []

-- 6.9.1: a structure in the specifiers of a definition
abbrev pub StructureResult : Type 0
StructureResult =
    IsUnit text.structure_result
    (defined 8 (of_one S S) (block [] 14 (returned 15 (read (object 12 16 S)) ∷ [])) ∷ parameter 8 12 S ∷ []) (
    tag 2 (part (codes "n") int ∷ []) (Some (codes "struct s")) ∷ [])

abbrev pub EmptyThings : Type 0
EmptyThings =
    IsUnit text.empty_things (defined 11 (of_void int) (block [] 15 (statement Skip 16 [] ∷ [])) ∷ [])
    (tag 4 [] (Some (codes "struct s")) ∷ [])

-- 6.7.2.3: a tag alone with its semicolon is declared anew, and the next list of its scope completes it; a tag in a
-- block has no key
abbrev pub TagAgain : Type 0
TagAgain = IsUnit text.tag_again (
    defined 10 (of_void VoidType)
    (block (21 ∷ []) 14
    (expression 32
    (read
    (member 0 32 character
    (deref 32 (StructureOf 16) (read (object 21 31 (PointerTo (StructureOf 16)))))))
    ∷ []))
    ∷ local 10 21 (PointerTo (StructureOf 16)) None
    ∷ []) (
    tag 2 (part (codes "n") int ∷ []) (Some (codes "struct t"))
    ∷ tag 16 (part (codes "c") character ∷ []) None ∷ [])

-- 6.7.2.3: a tag of an outer scope, one of a parameter list, and one that a block declares anew as a union
abbrev pub OuterTagUsed : Type 0
OuterTagUsed =
    HasBody text.outer_tag_used (block (17 ∷ []) 14 (expression 20 (read (member 0 20 int (object 17 19 S))) ∷ []))

abbrev pub ParameterListTag : Type 0
ParameterListTag = HasBody text.parameter_list_tag (block [] 14 (
    expression 16
    (read (member 0 16 int (deref 16 (StructureOf 5) (read (object 12 15 (PointerTo (StructureOf 5)))))))
    ∷ []))

-- a tag in a parameter list has no key; the first name that is declared with an untagged structure is its key
abbrev pub ParameterTag : Type 0
ParameterTag =
    IsUnit text.parameter_tag
    (defined 2 (of_one VoidType (PointerTo (StructureOf 5))) (block [] 9 [])
    ∷ parameter 2 7 (PointerTo (StructureOf 5)) ∷ [])
    (
    record { known_at = 5; members = None; key = None } ∷ [])

abbrev pub InnerUnion : Type 0
InnerUnion = IsUnit text.inner_union (
    defined 10 (of_void VoidType) (block (21 ∷ []) 14 []) ∷ local 10 21 (PointerTo (UnionOf 16)) None ∷ []) (
    tag 2 (part (codes "n") int ∷ []) (Some (codes "struct t"))
    ∷ record { known_at = 16; members = None; key = None } ∷ [])

abbrev pub TagOfItself : Type 0
TagOfItself =
    IsUnit text.tag_of_itself (file_object 10 (StructureOf 2) None ∷ [])
    (tag 2 (part (codes "next") (PointerTo (StructureOf 2)) ∷ []) (Some (codes "struct t")) ∷ [])

-- types name a tag by the number that the source gives to its first declaration, here the tree's second node
abbrev pub NumberedTag : Type 0
NumberedTag =
    HasTags text.tag_of_itself (λ node. node + 4)
    (record { tag = 5; members = part (codes "next") (PointerTo (StructureOf 5)) ∷ [] } ∷ [])

-- a tag that an operand of sizeof declares
abbrev pub TagInExpression : Type 0
TagInExpression =
    IsUnit text.tag_in_expression
    (file_object 3 unsigned_long (whole (number 4 5 unsigned_long ∷ []) 3 5)
    ∷ file_object 18 (StructureOf 8) None
    ∷ [])
    (
    tag 8 (part (codes "a") int ∷ []) (Some (codes "struct t")) ∷ [])

abbrev pub UnionTag : Type 0
UnionTag =
    IsUnit text.union_tag
    (file_object 11 (UnionOf 2) None
    ∷ file_object 15 unsigned_long (whole (number 8 17 unsigned_long ∷ []) 15 17)
    ∷ [])
    (
    tag 2 (part (codes "c") character ∷ part (codes "n") long ∷ []) (Some (codes "union u")) ∷ [])

-- an object may stand before the list that completes its tag
abbrev pub LaterTag : Type 0
LaterTag =
    IsUnit text.later_tag (file_object 3 (StructureOf 2) None ∷ [])
    (tag 2 (part (codes "n") int ∷ []) (Some (codes "struct s")) ∷ [])

-- a parameter's tag may be completed later
abbrev pub LaterParameter : Type 0
LaterParameter =
    IsUnit text.later_parameter
    (defined 5 (of_one int S) (block [] 11 (returned 12 (number 0 13 int) ∷ [])) ∷ parameter 5 9 S ∷ []) (
    tag 2 (part (codes "n") int ∷ []) (Some (codes "struct s")) ∷ [])

-- 6.7.2.1: a width of 0 is no member, an unnamed width is one without a name, and a flexible array comes last
abbrev pub FieldMembers : Type 0
FieldMembers = IsUnit text.field_members [] (
    tag 2 (
    record (part (codes "a") int) { bits = Some 3 }
    ∷ record (unnamed int) { bits = Some 2 }
    ∷ part (codes "b") unsigned
    ∷ part (codes "c") (ArrayOf character None)
    ∷ []) (Some (codes "struct s")) ∷ [])

-- 6.7.2.1: a bit-field takes a whole cell of its type
abbrev pub FieldSizes : Type 0
FieldSizes =
    IsUnit text.field_sizes (file_object 21 unsigned_long (whole (number 12 23 unsigned_long ∷ []) 21 23) ∷ []) (
    tag 2
    (record (part (codes "a") int) { bits = Some 3 } ∷ record (part (codes "b") int) { bits = Some 4 }
    ∷ part (codes "c") character ∷ [])
    (Some (codes "struct s"))
    ∷ [])

-- 6.7.2.1p18: specifiers alone are no member, so that the flexible array is the last one
abbrev pub FlexibleBeforeNothing : Type 0
FlexibleBeforeNothing =
    IsUnit text.flexible_before_nothing
    (file_object 18 unsigned_long (whole (number 4 20 unsigned_long ∷ []) 18 20) ∷ []) (
    tag 2 (part (codes "n") int ∷ part (codes "c") (ArrayOf character None) ∷ []) (Some (codes "struct s")) ∷ [])

-- keys: by the tag; by the first name that is declared with it; by the structure around and the position
abbrev pub Keys : Type 0
Keys =
    IsUnit text.keys (file_object 23 (StructureOf 12) None ∷ defined 38 (of_void VoidType) (block [] 42 []) ∷ []) (
    tag 2 (part (codes "n") int ∷ []) (Some (codes "struct :T"))
    ∷ tag 14 (part (codes "k") int ∷ []) (Some (codes "struct struct :w:0"))
    ∷ tag 12 (part (codes "m") (StructureOf 14) ∷ []) (Some (codes "struct :w"))
    ∷ tag 26 (unnamed (UnionOf 28) ∷ []) (Some (codes "struct K"))
    ∷ tag 28 (part (codes "a") int ∷ []) (Some (codes "union struct K:0"))
    ∷ tag 44 (part (codes "n") int ∷ []) None
    ∷ [])

abbrev pub ExternalKey : Type 0
ExternalKey =
    IsUnit text.external_key
    (file_object 7 (StructureOf 1) None ∷ file_object 10 (PointerTo (StructureOf 1)) None
    ∷ file_object 19 (PointerTo (StructureOf 12)) None ∷ [])
    (
    tag 1 (part (codes "a") int ∷ []) (Some (codes "struct :x"))
    ∷ tag 12 (part (codes "b") int ∷ []) (Some (codes "struct :z")) ∷ [])

-- a tag's key is that of the specifier that declares it, not of one in its list; brackets take no key away
abbrev pub MentionsItself : Type 0
MentionsItself =
    IsUnit text.mentions_itself (file_object 16 S None ∷ [])
    (tag 2 (part (codes "f") (PointerTo (of_one int (PointerTo S))) ∷ []) (Some (codes "struct s")) ∷ [])

abbrev pub InBrackets : Type 0
InBrackets =
    IsUnit text.in_brackets (file_object 2 (ArrayOf int (Some 4)) None ∷ file_object 18 (StructureOf 7) None ∷ []) (
    tag 7 (part (codes "x") int ∷ []) (Some (codes "struct t")) ∷ [])

-- all of these
pub record TypesStand : Type 0 where
  pub word_types : WordTypes
  pub derived_types : DerivedTypes
  pub named_types : NamedTypes
  pub counted_on : CountedOn
  pub enumerator_in_structure : EnumeratorInStructure
  pub typedef_again : TypedefAgain
  pub array_of_pointers : ArrayOfPointers
  pub assembler_name : AssemblerName
  pub parameters : Parameters
  pub parameter_lengths : ParameterLengths
  pub length_by_parameter : LengthByParameter
  pub parameter_function : ParameterFunction
  pub function_without_list : FunctionWithoutList
  pub parenthesised : Parenthesised
  pub returns_pointer : ReturnsPointer
  pub structure_result : StructureResult
  pub empty_things : EmptyThings
  pub tag_again : TagAgain
  pub outer_tag_used : OuterTagUsed
  pub parameter_list_tag : ParameterListTag
  pub parameter_tag : ParameterTag
  pub inner_union : InnerUnion
  pub tag_of_itself : TagOfItself
  pub numbered_tag : NumberedTag
  pub tag_in_expression : TagInExpression
  pub union_tag : UnionTag
  pub later_tag : LaterTag
  pub later_parameter : LaterParameter
  pub field_members : FieldMembers
  pub field_sizes : FieldSizes
  pub flexible_before_nothing : FlexibleBeforeNothing
  pub keys : Keys
  pub external_key : ExternalKey
  pub mentions_itself : MentionsItself
  pub in_brackets : InBrackets
