-- Expressions that the rows refuse: the kind and the column, written by hand from C11 and the rules of places.
use Rattle.pta_base.specs.declared.kind.Kind.TheVariants.{ArrayOfValue, Constant, ConstantRange}
use Rattle.pta_base.specs.declared.kind.Kind.TheVariants.{FlexibleMember, Floating, Operand}
use Rattle.sense_cases.specs.Cores.{IsRefused}
use Rattle.sense_cases.specs.ExpressionRefusalTexts as text

-- an expression of floating type, whatever else is wrong with it
pub record FloatingFaults : Type 0 where
  pub floating_name : IsRefused text.floating_name Floating 10
  pub floating_call : IsRefused text.floating_call Floating 14
  pub floating_cast : IsRefused text.floating_cast Floating 8
  pub floating_literal : IsRefused text.floating_literal Floating 7
  pub floating_pointed : IsRefused text.floating_pointed Floating 9

-- 6.5: operands that don't fit, at their operator
pub record OperandFaults : Type 0 where
  pub argument_count : IsRefused text.argument_count Operand 14
  pub void_pointed : IsRefused text.void_pointed Operand 9
  pub bit_field_address : IsRefused text.bit_field_address Operand 20
  pub bit_field_size : IsRefused text.bit_field_size Operand 24
  pub incomplete_value : IsRefused text.incomplete_value Operand 13
  pub incomplete_size : IsRefused text.incomplete_size Operand 13
  pub two_operators : IsRefused text.two_operators Operand 19
  pub flexible : IsRefused text.flexible FlexibleMember 24
  pub array_of_value : IsRefused text.array_of_value ArrayOfValue 28
  pub number_ordered : IsRefused text.number_ordered Operand 10
  pub number_equated : IsRefused text.number_equated Operand 10
  pub pointer_negated : IsRefused text.pointer_negated Operand 9
  pub structure_denied : IsRefused text.structure_denied Operand 17
  pub pointer_shifted : IsRefused text.pointer_shifted Operand 10
  pub pointers_added : IsRefused text.pointers_added Operand 10
  pub function_moved : IsRefused text.function_moved Operand 8
  pub void_moved : IsRefused text.void_moved Operand 10
  pub value_assigned : IsRefused text.value_assigned Operand 8
  pub function_assigned : IsRefused text.function_assigned Operand 8
  pub array_assigned : IsRefused text.array_assigned Operand 14
  pub value_addressed : IsRefused text.value_addressed Operand 7
  pub void_value : IsRefused text.void_value Operand 11
  pub void_argument : IsRefused text.void_argument Operand 13
  pub chosen_apart : IsRefused text.chosen_apart Operand 14
  pub uncalled : IsRefused text.uncalled Operand 9
  pub member_missing : IsRefused text.member_missing Operand 19
  pub member_of_number : IsRefused text.member_of_number Operand 9
  pub member_of_open : IsRefused text.member_of_open Operand 14
  pub two_suffix_steps : IsRefused text.two_suffix_steps Operand 15
  pub floating_first : IsRefused text.floating_first Floating 11

-- 6.6: the part that isn't constant, is out of range or divides by zero; an enumerator that is no int
pub record ConstantFaults : Type 0 where
  pub not_constant : IsRefused text.not_constant Constant 9
  pub unevaluated_form : IsRefused text.unevaluated_form Constant 11
  pub out_of_range : IsRefused text.out_of_range ConstantRange 7
  pub no_enumerator : IsRefused text.no_enumerator Operand 8
  pub assert_fails : IsRefused text.assert_fails Operand 1

-- the first node in the order in which productions end
pub record OrderFaults : Type 0 where
  pub parenthesised_operand : IsRefused text.parenthesised_operand Operand 13
  pub first_of_two : IsRefused text.first_of_two Operand 9
  pub inner_before_outer : IsRefused text.inner_before_outer Operand 10
  pub value_member_assigned : IsRefused text.value_member_assigned Operand 27
  pub value_member_addressed : IsRefused text.value_member_addressed Operand 22
  pub early_size : IsRefused text.early_size Operand 14
  pub size_of_itself : IsRefused text.size_of_itself Operand 7
