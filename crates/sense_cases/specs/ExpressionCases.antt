-- What expressions stand for, written by hand from C11.
use Rattle.std.specs.Prelude.{false, true, [], ◌∷◌, Some}
use Rattle.c_types.specs.declared.term.PathStep.TheVariants.{Index, Member}
use Rattle.c_types.specs.Trees.{VoidType, PointerTo, ArrayOf, StructureOf}
use Rattle.core_tree.specs.declared.node.Op.TheVariants.{Plus, Minus, Not}
use Rattle.core_tree.specs.declared.node.NodeKind.TheVariants.{Literal, Sequence, MemberOfValue, Arith, Initialise}
use Rattle.core_tree.specs.Rows.{int, long, character}
use Rattle.c_consts.specs.Core.{Of, over, over_two}
use Rattle.sense_cases.specs.Columns.{at}
use Rattle.sense_cases.specs.Cores.{short, unsigned_long, ints, three_ints, two_ints, S, of_one, procedure}
use Rattle.sense_cases.specs.Cores.{takes_nothing, takes_one, takes_more, takes_any, two_letters, cores, object}
use Rattle.sense_cases.specs.Cores.{function, deref, member, read, decayed, number, changed, addressed, moved}
use Rattle.sense_cases.specs.Cores.{computed, assigned, updated, chosen, called, expression, returned, block}
use Rattle.sense_cases.specs.Cores.{initialised, HasBody}
use Rattle.sense_cases.specs.ExpressionTexts as text

-- 6.5.2.1: a pointer comes before the index, in whatever order they stand
abbrev pub Indexed : Type 0
Indexed =
    HasBody text.index
    (block [] 13
    (returned 14
    (read (deref 16 int (moved false 16 (decayed ints (object 2 15 three_ints)) (read (object 11 17 int)))))
    ∷ []))

abbrev pub IndexTurned : Type 0
IndexTurned =
    HasBody text.index_turned
    (block [] 13
    (returned 14
    (read (deref 16 int (moved false 16 (decayed ints (object 2 17 three_ints)) (read (object 11 15 int)))))
    ∷ []))

-- 6.5.3.2: nothing is simplified
abbrev pub ThroughPointers : Type 0
ThroughPointers =
    HasBody text.through_pointers
    (block [] 8 (returned 9 (read (deref 10 int (addressed 11 (deref 12 int (read (object 6 13 ints)))))) ∷ []))

-- 6.5.2.3: a member of a place, and one through an unnamed member
abbrev pub Members : Type 0
Members = HasBody text.members (block [] 28 (
    expression 30 (read (member 0 30 int (object 26 29 (StructureOf 2))))
    ∷ returned 33
    (read
    (member 0 35 character
    (member 1 35 (StructureOf 7)
    (deref 35 (StructureOf 2) (read (object 22 34 (PointerTo (StructureOf 2))))))))
    ∷ []))

-- 6.5.16, 6.5.15: members of what is no place
abbrev pub MembersOfValues : Type 0
MembersOfValues = HasBody text.members_of_values (block [] 23 (
    expression 29 (over (MemberOfValue 0) (at 29) int (assigned 26 (object 14 25 S) (read (object 18 27 S))))
    ∷ returned 32
    (over (MemberOfValue 0) (at 40) int
    (chosen 35 S (read (object 21 34 int)) (read (object 14 36 S)) (read (object 18 38 S))))
    ∷ []))

-- a list's own names come before those within its unnamed members
abbrev pub SameNamedMember : Type 0
SameNamedMember = HasBody text.same_named_member (block [] 27 (
    returned 28
    (computed Plus 32 int (read (member 0 30 int (deref 30 S (read (object 25 29 (PointerTo S))))))
    (read
    (member 1 34 int (member 1 34 (StructureOf 7) (deref 34 S (read (object 25 33 (PointerTo S))))))))
    ∷ []))

-- 6.5.2.3: an array before an arrow
abbrev pub ArrayArrow : Type 0
ArrayArrow =
    HasBody text.array_arrow
    (block [] 18
    (returned 19
    (read (member 0 21 int (deref 21 S (decayed (PointerTo S) (object 8 20 (ArrayOf S (Some 2)))))))
    ∷ []))

-- 6.5.2.2p1, 6.3.2.1p4: every way of calling a function
abbrev pub FunctionsCalled : Type 0
FunctionsCalled = HasBody text.functions_called (block [] 6 (
    expression 11
    (called 11 VoidType
    (decayed (PointerTo procedure)
    (deref 8 procedure (decayed (PointerTo procedure) (function 2 9 procedure))))
    [])
    ∷ expression 18 (called 18 VoidType (addressed 15 (function 2 16 procedure)) [])
    ∷ expression 26
    (called 26 VoidType
    (decayed (PointerTo procedure)
    (deref 22 procedure
    (decayed (PointerTo procedure)
    (deref 23 procedure (decayed (PointerTo procedure) (function 2 24 procedure))))))
    [])
    ∷ []))

-- 6.5.2.2: calls through pointers that are elements and members
abbrev pub MemberCalls : Type 0
MemberCalls = HasBody text.member_calls (block [] 35 (
    expression 40
    (called 40 int
    (read
    (deref 37 takes_nothing
    (moved false 37 (read (object 26 36 (PointerTo takes_nothing))) (number 1 38 int))))
    [])
    ∷ returned 43
    (called 47 int (read (member 0 45 takes_one (deref 45 S (read (object 21 44 (PointerTo S))))))
    (changed int (number 1 48 long) ∷ []))
    ∷ []))

-- 6.5.2.2: arguments are converted to the parameters, and promoted past them and without a list
abbrev pub Calls : Type 0
Calls = HasBody text.calls (block [] 26 (
    expression 28
    (called 28 int (decayed (PointerTo takes_more) (function 2 27 takes_more))
    (changed int (read (object 18 29 character)) ∷ changed int (read (object 21 31 short))
    ∷ read (object 24 33 long) ∷ []))
    ∷ expression 37
    (called 37 int (decayed (PointerTo takes_any) (function 10 36 takes_any))
    (changed int (read (object 18 38 character)) ∷ []))
    ∷ []))

-- 6.5.16, 6.5.2.4, 6.5.3.1
abbrev pub Assignments : Type 0
Assignments = HasBody text.assignments (block [] 14 (
    expression 16 (assigned 16 (object 5 15 long) (changed long (read (object 8 17 character))))
    ∷ expression 20 (updated Plus false 20 (object 8 19 character) (read (object 5 21 long)))
    ∷ expression 24 (updated Plus true 24 (object 5 23 long) (number 1 24 int))
    ∷ expression 26 (updated Minus false 26 (object 12 27 ints) (number 1 26 int))
    ∷ expression 30 (updated Minus false 30 (object 12 29 ints) (changed int (read (object 8 31 character))))
    ∷ []))

abbrev pub StructuresAssigned : Type 0
StructuresAssigned =
    HasBody text.structures_assigned
    (block [] 21
    (expression 24 (assigned 24 (deref 22 S (read (object 19 23 (PointerTo S)))) (read (object 14 25 S))) ∷ []))

abbrev pub NestedAssignments : Type 0
NestedAssignments = HasBody text.nested_assignments (block [] 10 (
    expression 12
    (assigned 12 (object 5 11 int)
    (changed int (assigned 14 (object 8 13 long) (changed long (read (object 5 15 int))))))
    ∷ []))

abbrev pub PointerStepped : Type 0
PointerStepped =
    HasBody text.pointer_stepped
    (block [] 8
    (returned 9 (read (deref 10 int (updated Plus true 12 (object 6 11 ints) (number 1 12 int)))) ∷ []))

-- 6.5.3.4: the operand isn't turned into a value, and leaves nothing
abbrev pub Sizes : Type 0
Sizes =
    HasBody text.sizes
    (block [] 20 (expression 21 (number 4 21 unsigned_long) ∷ returned 27 (number 16 28 unsigned_long) ∷ []))

abbrev pub SizeOfLiteral : Type 0
SizeOfLiteral = HasBody text.size_of_literal (block [] 7 (returned 8 (number 3 9 unsigned_long) ∷ []))

abbrev pub Alignments : Type 0
Alignments = HasBody text.alignments (block [] 7 (returned 8 (number 4 9 unsigned_long) ∷ []))

-- 6.5.13, 6.5.14, 6.5.3.3: the right operand stands under the left one's choice; the operand of ! isn't promoted
abbrev pub Logic : Type 0
Logic = HasBody text.logic (block [] 11 (
    returned 12
    (chosen 14 int (read (object 6 13 ints))
    (chosen 14 int (over (Arith Not) (at 15) int (read (object 9 16 character))) (number 1 14 int)
    (number 0 14 int))
    (number 0 14 int))
    ∷ []))

abbrev pub Either : Type 0
Either = HasBody text.either (block [] 10 (
    returned 11
    (chosen 13 int (read (object 5 12 int)) (number 1 13 int)
    (chosen 13 int (read (object 8 14 int)) (number 1 13 int) (number 0 13 int)))
    ∷ []))

-- 6.5.3.3
abbrev pub AddressesDenied : Type 0
AddressesDenied = HasBody text.addresses_denied (block [] 8 (
    expression 9
    (over (Arith Not) (at 9) int (decayed (PointerTo (of_one int ints)) (function 2 10 (of_one int ints))))
    ∷ returned 12 (over (Arith Not) (at 13) int (read (object 6 14 ints)))
    ∷ []))

-- 6.5.17
abbrev pub Followed : Type 0
Followed = HasBody text.followed (block [] 10 (
    returned 11
    (changed int
    (over_two Sequence (at 13) character (read (object 5 12 int)) (read (object 8 14 character))))
    ∷ []))

-- 6.5.2.5: the object of a compound literal is known by its parenthesis, and its values stand under it
abbrev pub Literals : Type 0
Literals = HasBody text.literal (block [] 6 (
    returned 7
    (read
    (deref 19 int
    (moved false 19
    (decayed ints
    (over (Literal 8) (at 8) two_ints
    (Of (Initialise 8 ((Index 0 ∷ []) ∷ (Index 1 ∷ []) ∷ [])) (at 14) VoidType
    (cores (number 1 15 int ∷ number 2 17 int ∷ [])))))
    (number 0 20 int))))
    ∷ []))

-- 6.5.2.5: what follows a compound literal stands over it
abbrev pub LiteralMember : Type 0
LiteralMember = HasBody text.literal_member (block [] 14 (
    returned 15
    (read
    (member 0 23 int
    (over (Literal 16) (at 16) S (initialised 16 20 ((Member 0 ∷ []) ∷ []) (number 1 21 int ∷ [])))))
    ∷ []))

-- 6.4.5, 6.3.2.1p3: a string is a place; the operands of & and sizeof don't decay
abbrev pub StringPlaces : Type 0
StringPlaces = HasBody text.string_places (block [] 7 (
    expression 9
    (read
    (deref 9 character (moved false 9 (decayed (PointerTo character) (two_letters 8)) (number 1 10 int))))
    ∷ expression 13 (addressed 13 (two_letters 14))
    ∷ returned 16 (number 3 17 unsigned_long)
    ∷ []))

abbrev pub AddressOfArray : Type 0
AddressOfArray =
    HasBody text.address_of_array
    (block (21 ∷ []) 19 (returned 26 (addressed 27 (object 21 28 (ArrayOf int (Some 2)))) ∷ []))

-- all of these
pub record ExpressionsStand : Type 0 where
  pub indexed : Indexed
  pub index_turned : IndexTurned
  pub through_pointers : ThroughPointers
  pub members : Members
  pub members_of_values : MembersOfValues
  pub same_named_member : SameNamedMember
  pub array_arrow : ArrayArrow
  pub functions_called : FunctionsCalled
  pub member_calls : MemberCalls
  pub calls : Calls
  pub assignments : Assignments
  pub structures_assigned : StructuresAssigned
  pub nested_assignments : NestedAssignments
  pub pointer_stepped : PointerStepped
  pub sizes : Sizes
  pub size_of_literal : SizeOfLiteral
  pub alignments : Alignments
  pub logic : Logic
  pub either : Either
  pub addresses_denied : AddressesDenied
  pub followed : Followed
  pub literals : Literals
  pub literal_member : LiteralMember
  pub string_places : StringPlaces
  pub address_of_array : AddressOfArray
