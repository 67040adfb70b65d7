-- How the code's operators are those of the definitions.
use Rattle.std.specs.Prelude.{ℕ, ◌≡◌, ⊤, Result, Ok, Err}
use Rattle.pta_base.specs.declared.kind.Kind.TheVariants.{Operand}
use Rattle.core_tree.specs.declared.node.Unit.{Unit}
use Rattle.c_senses.specs.Given.{Given, Fits, Refuses}
use Rattle.c_senses.specs.Operators.{Between, Both}
use Rattle.c_senses.specs.Operators as between
use Rattle.core_nodes.specs.Standing.{core_at}
use Rattle.core_nodes.specs.declared.fault.CheckFault.{CheckFault}
use Rattle.core_nodes.specs.declared.fault.CheckFault.TheVariants.{BadOperand, Unsupported, OutOfMemory}
use Rattle.c_operators.specs.declared.operators.Operator.{Operator}
use Rattle.c_operators.specs.declared.operators.Operator.TheVariants.{Numeric, Shifting, Adding, Subtracting}
use Rattle.c_operators.specs.declared.operators.Operator.TheVariants.{Ordering, Equating, BothTrue, EitherTrue}
use Rattle.c_operators.specs.declared.operators.Operator.TheVariants.{Following, NoOperator}

abbrev pub operator_seen : Operator → Between
operator_seen (Numeric op) = between.Numeric op
operator_seen (Shifting op) = between.Shifting op
operator_seen Adding = between.Adding
operator_seen Subtracting = between.Subtracting
operator_seen (Ordering op) = between.Ordering op
operator_seen (Equating op) = between.Equating op
operator_seen BothTrue = between.BothTrue
operator_seen EitherTrue = between.EitherTrue
operator_seen Following = between.Following
operator_seen NoOperator = between.NoOperator

-- what a call answers of two values that are made operands of one type
abbrev pub BothGiven : Unit → Result (ℕ × ℕ) CheckFault → Given Both → Type 0
BothGiven u (Ok both) g = g ≡ Fits (record { left = core_at u both.0; right = core_at u both.1 })
BothGiven u (Err (BadOperand node)) g = g ≡ Refuses Operand node
BothGiven u (Err (Unsupported kind node)) g = g ≡ Refuses kind node
BothGiven u (Err OutOfMemory) g = ⊤
