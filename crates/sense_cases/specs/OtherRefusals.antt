-- Words, linkages, initialisers and statements that the rows refuse: the kind and the column, written by hand from
-- C11 and the rules of places.
use Rattle.pta_base.specs.declared.kind.Kind.TheVariants.{Constant, Initialiser, InlineDefinition, Operand}
use Rattle.sense_cases.specs.Cores.{IsRefused}
use Rattle.sense_cases.specs.OtherRefusalTexts as text

-- 6.7.1, 6.7.4: words that don't go together, at the specifiers, or with what is declared, at its name
pub record WordFaults : Type 0 where
  pub two_storages : IsRefused text.two_storages Operand 1
  pub auto_at_file : IsRefused text.auto_at_file Operand 1
  pub static_parameter : IsRefused text.static_parameter Operand 8
  pub inline_object : IsRefused text.inline_object Operand 3
  pub typedef_initialised : IsRefused text.typedef_initialised Operand 3
  pub block_extern_initialised : IsRefused text.block_extern_initialised Operand 9
  pub block_static_function : IsRefused text.block_static_function Operand 9
  pub for_static : IsRefused text.for_static Operand 11
  pub storage_in_member : IsRefused text.storage_in_member Operand 4
  pub storage_in_type_name : IsRefused text.storage_in_type_name Operand 6
  pub inline_alone : IsRefused text.inline_alone Operand 1
  pub external_then_static : IsRefused text.external_then_static Operand 7
  pub function_then_static : IsRefused text.function_then_static Operand 9
  pub extern_inline : IsRefused text.extern_inline InlineDefinition 4
  pub typedef_defined : IsRefused text.typedef_defined Operand 3
  pub incomplete_result : IsRefused text.incomplete_result Operand 6
  pub incomplete_parameter : IsRefused text.incomplete_parameter Operand 6

-- 6.2.2, 6.7: declarations of one name that don't agree, at the later one
pub record LinkageFaults : Type 0 where
  pub both_linkages : IsRefused text.both_linkages Operand 6
  pub internal_differs : IsRefused text.internal_differs Operand 10
  pub length_differs : IsRefused text.length_differs Operand 11
  pub internal_again : IsRefused text.internal_again Operand 9
  pub typedef_differs : IsRefused text.typedef_differs Operand 7

-- 6.7.9: values and designators without a place, behind all faults of the expressions
pub record InitialiserFaults : Type 0 where
  pub too_many : IsRefused text.too_many Initialiser 12
  pub too_many_seen : IsRefused text.too_many_seen Initialiser 16
  pub braces_in_scalar : IsRefused text.braces_in_scalar Initialiser 5
  pub index_past : IsRefused text.index_past Initialiser 8
  pub no_member : IsRefused text.no_member Initialiser 11
  pub later_expression : IsRefused text.later_expression Operand 12
  pub string_too_long : IsRefused text.string_too_long Initialiser 7
  pub whole_array : IsRefused text.whole_array Initialiser 19
  pub other_structure : IsRefused text.other_structure Initialiser 29
  pub string_beside : IsRefused text.string_beside Operand 8
  pub value_in_elided : IsRefused text.value_in_elided Initialiser 23
  pub designated_in_scalar : IsRefused text.designated_in_scalar Initialiser 5
  pub negative_index : IsRefused text.negative_index Initialiser 8
  pub negative_in_largest : IsRefused text.negative_in_largest Initialiser 15
  pub incomplete_initial : IsRefused text.incomplete_initial Initialiser 5
  pub static_structure : IsRefused text.static_structure Operand 14
  pub past_designator : IsRefused text.past_designator Initialiser 18
  pub past_union : IsRefused text.past_union Initialiser 16
  pub past_flexible : IsRefused text.past_flexible Initialiser 18
  pub string_for_numbers : IsRefused text.string_for_numbers Initialiser 7

-- 6.7.9p4: what the initialiser of a static object can't hold
pub record StaticFaults : Type 0 where
  pub not_fixed : IsRefused text.not_fixed Operand 7
  pub call_in_static : IsRefused text.call_in_static Operand 11
  pub literal_in_static : IsRefused text.literal_in_static Operand 12
  pub automatic_in_static : IsRefused text.automatic_in_static Operand 14

-- 6.8: at the statement's word
pub record StatementFaults : Type 0 where
  pub returns_value : IsRefused text.returns_value Operand 7
  pub break_alone : IsRefused text.break_alone Operand 7
  pub continue_in_switch : IsRefused text.continue_in_switch Operand 13
  pub case_alone : IsRefused text.case_alone Operand 7
  pub case_again : IsRefused text.case_again Operand 17
  pub case_before : IsRefused text.case_before Operand 12
  pub default_again : IsRefused text.default_again Operand 16
  pub pointer_switched : IsRefused text.pointer_switched Operand 9
  pub pointer_with_case : IsRefused text.pointer_with_case Operand 9
  pub pointer_with_cases : IsRefused text.pointer_with_cases Operand 9
  pub scalar_condition : IsRefused text.scalar_condition Operand 17
  pub void_condition : IsRefused text.void_condition Operand 7
  pub case_wraps : IsRefused text.case_wraps Operand 17
  pub case_not_constant : IsRefused text.case_not_constant Constant 14
