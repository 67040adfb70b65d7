-- What initialisers initialise, written by hand from C11.
use Rattle.std.specs.Prelude.{false, [], ◌∷◌, Some, None, codes}
use Rattle.c_types.specs.declared.term.PathStep.TheVariants.{Index, Member}
use Rattle.c_types.specs.Trees.{BoolType, PointerTo, ArrayOf, StructureOf, UnionOf}
use Rattle.core_tree.specs.declared.node.Op.TheVariants.{Minus}
use Rattle.core_tree.specs.declared.node.NodeKind.TheVariants.{Text, Literal, Arith}
use Rattle.core_tree.specs.Rows.{int, long, character}
use Rattle.c_consts.specs.Core.{leaf, over}
use Rattle.sense_cases.specs.Columns.{at}
use Rattle.sense_cases.specs.Cores.{unsigned_char, ints, pointers, two_ints, S, of_void, takes_nothing, two_letters}
use Rattle.sense_cases.specs.Cores.{object, function, deref, read, decayed, number, null, changed, addressed, moved}
use Rattle.sense_cases.specs.Cores.{block, initialised, HasBody}
use Rattle.sense_cases.specs.Declared.{file_object, only_declared, internal, whole, part, unnamed, tag, IsUnit}
use Rattle.sense_cases.specs.InitialiserTexts as text

-- 6.7.9: lists within lists, with braces and without
abbrev pub NestedLists : Type 0
NestedLists = IsUnit text.nested_lists (
    file_object 17 (ArrayOf (StructureOf 2) (Some 2)) (Some (initialised 17 22 (
    (Index 0 ∷ Member 0 ∷ [])
    ∷ (Index 0 ∷ Member 1 ∷ Index 0 ∷ [])
    ∷ (Index 1 ∷ Member 0 ∷ [])
    ∷ (Index 1 ∷ Member 1 ∷ Index 0 ∷ [])
    ∷ (Index 1 ∷ Member 1 ∷ Index 1 ∷ [])
    ∷ []) (number 1 24 int ∷ number 2 27 int ∷ number 3 31 int ∷ number 4 33 int ∷ number 5 35 int ∷ [])))
    ∷ []) (tag 2 (part (codes "x") int ∷ part (codes "y") (ArrayOf int (Some 2)) ∷ [])
    (Some (codes "struct p"))
    ∷ [])

abbrev pub InnerBraces : Type 0
InnerBraces = IsUnit text.inner_braces (
    file_object 2 (ArrayOf (ArrayOf int (Some 2)) (Some 2))
    (Some
    (initialised 2 10
    ((Index 0 ∷ Index 0 ∷ []) ∷ (Index 0 ∷ Index 1 ∷ []) ∷ (Index 1 ∷ Index 0 ∷ []) ∷ [])
    (number 1 11 int ∷ number 2 13 int ∷ number 3 16 int ∷ [])))
    ∷ []) []

abbrev pub Rows : Type 0
Rows = IsUnit text.rows (
    file_object 2 (ArrayOf (ArrayOf int (Some 2)) (Some 3))
    (Some
    (initialised 2 10
    ((Index 1 ∷ Index 1 ∷ []) ∷ (Index 2 ∷ Index 0 ∷ []) ∷ (Index 2 ∷ Index 1 ∷ []) ∷ [])
    (number 5 18 int ∷ number 6 20 int ∷ number 7 23 int ∷ [])))
    ∷ []) []

-- 6.7.9p14: a string gives an array its length, and may lack room for its closing zero
abbrev pub StringsInArrays : Type 0
StringsInArrays = IsUnit text.strings_in_arrays (
    file_object 2 (ArrayOf character (Some 3))
    (Some
    (initialised 2 6 ((Index 0 ∷ []) ∷ (Index 1 ∷ []) ∷ (Index 2 ∷ []) ∷ [])
    (number 97 6 character ∷ number 98 6 character ∷ number 0 6 character ∷ [])))
    ∷ file_object 9 (ArrayOf character (Some 2))
    (Some
    (initialised 9 14 ((Index 0 ∷ []) ∷ (Index 1 ∷ []) ∷ [])
    (number 99 14 character ∷ number 100 14 character ∷ [])))
    ∷ []) []

-- 6.7.9p14: a string in braces or in parentheses
abbrev pub StringInBraces : Type 0
StringInBraces = IsUnit text.string_in_braces (
    file_object 2 (ArrayOf character (Some 3))
    (Some
    (initialised 2 7 ((Index 0 ∷ []) ∷ (Index 1 ∷ []) ∷ (Index 2 ∷ []) ∷ [])
    (number 97 8 character ∷ number 98 8 character ∷ number 99 8 character ∷ [])))
    ∷ file_object 13 (ArrayOf unsigned_char (Some 2))
    (Some
    (initialised 13 19 ((Index 0 ∷ []) ∷ (Index 1 ∷ []) ∷ [])
    (number 120 19 unsigned_char ∷ number 0 19 unsigned_char ∷ [])))
    ∷ []) []

abbrev pub RowsOfStrings : Type 0
RowsOfStrings = IsUnit text.rows_of_strings (
    file_object 2 (ArrayOf (ArrayOf character (Some 2)) (Some 2)) (Some (initialised 2 10
    ((Index 0 ∷ Index 0 ∷ []) ∷ (Index 0 ∷ Index 1 ∷ []) ∷ (Index 1 ∷ Index 0 ∷ []) ∷ (Index 1 ∷ Index 1 ∷ []) ∷ [])
    (number 97 11 character ∷ number 0 11 character ∷ number 98 13 character ∷ number 99 13 character
    ∷ []))) ∷ []) []

abbrev pub EmptyList : Type 0
EmptyList =
    IsUnit text.empty_list
    (file_object 2 int (Some (initialised 2 4 [] []))
    ∷ file_object 14 (StructureOf 8) (Some (initialised 14 16 [] [])) ∷ [])
    (
    tag 8 (part (codes "a") int ∷ []) (Some (codes "struct s")) ∷ [])

-- 6.7.9p17: the first member of a union; designators through unnamed members and along a path
abbrev pub UnionInitialised : Type 0
UnionInitialised = IsUnit text.union_initialised (
    file_object 17 (UnionOf 2)
    (Some
    (initialised 17 19 ((Member 0 ∷ Member 0 ∷ []) ∷ (Member 0 ∷ Member 1 ∷ []) ∷ [])
    (number 1 20 int ∷ number 2 22 int ∷ [])))
    ∷ file_object 27 (UnionOf 2) (Some (initialised 27 29 ((Member 1 ∷ []) ∷ []) (number 3 33 int ∷ [])))
    ∷ []) (
    tag 2 (unnamed (StructureOf 4) ∷ part (codes "c") int ∷ []) (Some (codes "union u"))
    ∷ tag 4 (part (codes "a") int ∷ part (codes "b") int ∷ []) (Some (codes "struct union u:0"))
    ∷ [])

abbrev pub DesignatedUnnamed : Type 0
DesignatedUnnamed = IsUnit text.designated_unnamed (
    file_object 25 S
    (Some (initialised 25 27 ((Member 1 ∷ Member 1 ∷ Member 0 ∷ []) ∷ []) (number 1 31 int ∷ [])))
    ∷ []) (
    tag 2 (part (codes "n") int ∷ unnamed (StructureOf 7) ∷ []) (Some (codes "struct s"))
    ∷ tag 12 (part (codes "b") int ∷ part (codes "c") long ∷ []) (Some (codes "union struct struct s:1:1"))
    ∷ tag 7 (part (codes "a") int ∷ unnamed (UnionOf 12) ∷ []) (Some (codes "struct struct s:1"))
    ∷ [])

abbrev pub DesignatedPath : Type 0
DesignatedPath = IsUnit text.designated_path (
    file_object 14 (ArrayOf S (Some 2))
    (Some
    (initialised 14 19
    ((Index 1 ∷ Member 1 ∷ Index 1 ∷ []) ∷ (Index 1 ∷ Member 1 ∷ Index 2 ∷ []) ∷ [])
    (number 5 29 int ∷ number 6 31 int ∷ [])))
    ∷ []) (
    tag 2 (part (codes "n") int ∷ part (codes "a") (ArrayOf int (Some 3)) ∷ []) (Some (codes "struct s")) ∷ [])

-- 6.7.9p9, p20: what is passed over, and where lists without braces go on
abbrev pub UnnamedFieldPassed : Type 0
UnnamedFieldPassed = IsUnit text.unnamed_field_passed (
    file_object 15 S
    (Some
    (initialised 15 17 ((Member 0 ∷ []) ∷ (Member 2 ∷ []) ∷ [])
    (number 1 18 int ∷ number 2 20 int ∷ [])))
    ∷ []) (
    tag 2 (part (codes "a") int ∷ record (unnamed int) { bits = Some 3 } ∷ part (codes "b") int ∷ [])
    (Some (codes "struct s"))
    ∷ [])

abbrev pub EmptyStructurePassed : Type 0
EmptyStructurePassed = IsUnit text.empty_structure_passed (
    file_object 17 (StructureOf 7) (Some (initialised 17 19 ((Member 1 ∷ []) ∷ []) (number 1 20 int ∷ []))) ∷ []) (
    tag 2 [] (Some (codes "struct e"))
    ∷ tag 7 (part (codes "a") S ∷ part (codes "n") int ∷ []) (Some (codes "struct :v")) ∷ [])

-- 6.7.9p19: a later value takes an earlier one's place, and one for a whole takes away all that is in it
abbrev pub Overridden : Type 0
Overridden = IsUnit text.overridden (
    file_object 10 (StructureOf 2)
    (Some
    (initialised 10 12 ((Member 0 ∷ []) ∷ (Member 1 ∷ []) ∷ [])
    (number 2 21 int ∷ number 3 26 int ∷ [])))
    ∷ []) (
    tag 2 (part (codes "x") int ∷ part (codes "y") int ∷ []) (Some (codes "struct p")) ∷ [])

abbrev pub ReplacedWhole : Type 0
ReplacedWhole = IsUnit text.replaced_whole (
    file_object 19 (StructureOf 12)
    (Some (initialised 19 21 ((Member 0 ∷ Member 0 ∷ []) ∷ []) (number 3 35 int ∷ [])))
    ∷ []) (
    tag 2 (part (codes "x") int ∷ part (codes "y") int ∷ []) (Some (codes "struct p"))
    ∷ tag 12 (part (codes "p") (StructureOf 2) ∷ []) (Some (codes "struct q"))
    ∷ [])

-- 6.7.9p13, p19: a value of the whole, and a later one of a part, which takes nothing away
abbrev pub WholeThenPart : Type 0
WholeThenPart = HasBody text.whole_then_part (block (21 ∷ 32 ∷ []) 18 (
    initialised 21 23 ([] ∷ []) (read (object 16 23 S) ∷ [])
    ∷ initialised 32 34 ((Member 0 ∷ []) ∷ (Member 0 ∷ Member 0 ∷ []) ∷ [])
    (read (object 16 38 S) ∷ number 1 45 int ∷ [])
    ∷ []))

abbrev pub ValueInList : Type 0
ValueInList = HasBody text.value_in_list (block (27 ∷ []) 16 (
    initialised 27 29 ((Member 0 ∷ []) ∷ (Member 1 ∷ []) ∷ []) (read (object 14 30 S) ∷ number 1 32 int ∷ []) ∷ []))

-- 6.6p9: addresses, strings, null constants and functions may initialise static pointers
abbrev pub FixedPointers : Type 0
FixedPointers = IsUnit text.fixed_pointers (
    file_object 2 (ArrayOf int (Some 3)) None
    ∷ file_object 9 ints
    (whole
    (addressed 11
    (deref 13 int
    (moved false 13 (decayed ints (object 2 12 (ArrayOf int (Some 3)))) (number 1 14 int)))
    ∷ [])
    9 11)
    ∷ file_object 19 (PointerTo character)
    (whole
    (decayed (PointerTo character) (leaf (Text (120 ∷ [])) (at 21) (ArrayOf character (Some 2))) ∷ [])
    19
    21)
    ∷ file_object 26 (PointerTo (of_void int)) (whole (null 32 (PointerTo (of_void int)) ∷ []) 26 32)
    ∷ only_declared 35 (of_void int)
    ∷ file_object 43 (PointerTo (of_void int))
    (whole (decayed (PointerTo (of_void int)) (function 35 49 (of_void int)) ∷ []) 43 49)
    ∷ []) []

abbrev pub MovedAddresses : Type 0
MovedAddresses = IsUnit text.moved_addresses (
    file_object 2 (ArrayOf two_ints (Some 2)) None
    ∷ file_object 12 (PointerTo character)
    (whole (moved false 15 (decayed (PointerTo character) (two_letters 14)) (number 1 16 int) ∷ []) 12 15)
    ∷ file_object 20 ints (whole (
    moved false 26
    (decayed ints
    (deref 23 two_ints
    (moved false 23 (decayed (PointerTo two_ints) (object 2 22 (ArrayOf two_ints (Some 2))))
    (number 1 24 int))))
    (number 1 27 int)
    ∷ []) 20 26)
    ∷ file_object 32 takes_nothing None
    ∷ file_object 41 pointers (whole (addressed 43 (object 20 44 ints) ∷ []) 41 43)
    ∷ []) []

abbrev pub StaticPair : Type 0
StaticPair = IsUnit text.static_pair (
    internal 12 12 S (Some (initialised 12 14 ((Member 0 ∷ []) ∷ []) (number 1 15 int ∷ [])))
    ∷ internal 19 19 (PointerTo S) (whole (addressed 21 (object 12 22 S) ∷ []) 19 21)
    ∷ []) (tag 2 (part (codes "n") int ∷ []) (Some (codes "struct s")) ∷ [])

-- 6.5.2.5p6: a compound literal at file scope is static
abbrev pub FileLiteral : Type 0
FileLiteral = IsUnit text.file_literal (
    file_object 3 ints
    (whole
    (decayed ints
    (over (Literal 5) (at 5) (ArrayOf int (Some 1))
    (initialised 5 11 ((Index 0 ∷ []) ∷ []) (number 7 12 int ∷ [])))
    ∷ [])
    3 5)
    ∷ []) []

-- 6.7.9p11: a value is converted as in an assignment
abbrev pub ConvertedItems : Type 0
ConvertedItems = IsUnit text.converted_items (
    file_object 2 character (whole (changed character (number 300 4 int) ∷ []) 2 4)
    ∷ file_object 7 long (whole (changed long (over (Arith Minus) (at 9) int (number 1 10 int)) ∷ []) 7 9)
    ∷ file_object 13 BoolType (whole (changed BoolType (number 5 15 int) ∷ []) 13 15)
    ∷ []) []

-- all of these
pub record InitialisersStand : Type 0 where
  pub nested_lists : NestedLists
  pub inner_braces : InnerBraces
  pub rows : Rows
  pub strings_in_arrays : StringsInArrays
  pub string_in_braces : StringInBraces
  pub rows_of_strings : RowsOfStrings
  pub empty_list : EmptyList
  pub union_initialised : UnionInitialised
  pub designated_unnamed : DesignatedUnnamed
  pub designated_path : DesignatedPath
  pub unnamed_field_passed : UnnamedFieldPassed
  pub empty_structure_passed : EmptyStructurePassed
  pub overridden : Overridden
  pub replaced_whole : ReplacedWhole
  pub whole_then_part : WholeThenPart
  pub value_in_list : ValueInList
  pub fixed_pointers : FixedPointers
  pub moved_addresses : MovedAddresses
  pub static_pair : StaticPair
  pub file_literal : FileLiteral
  pub converted_items : ConvertedItems
