-- Lengths of arrays.
use Rattle.std.specs.Prelude.{ℕ, ◌≡◌, Bool, Option, Some, None, Result, Ok, Err, ⊤, if◌then◌else◌}
use Rattle.pta_base.specs.declared.kind.Kind.TheVariants.{Operand, Vla}
use Rattle.c_consts.specs.Core.{Core}
use Rattle.core_nodes.specs.passed.c_senses.Tree.{Source}
use Rattle.core_nodes.specs.passed.c_senses.Given.{Given, Fits, Refuses, ◌>>=◌}
use Rattle.core_nodes.specs.passed.c_senses.World.{World}
use Rattle.core_nodes.specs.passed.c_senses.Conversions.{value_of}
use Rattle.core_nodes.specs.passed.c_senses.Declarators.{length_of}
use Rattle.core_nodes.specs.passed.c_senses.Sense.{Sense, Derivation, Elements}
use Rattle.core_nodes.specs.declared.fault.CheckFault.{CheckFault}
use Rattle.core_nodes.specs.declared.fault.CheckFault.TheVariants.{BadOperand, Unsupported, OutOfMemory}

-- what a call answers of an array's length
abbrev pub LengthMade : Result (Option ℕ) CheckFault → Given Derivation → Type 0
LengthMade (Ok n) g = g ≡ Fits (Elements n)
LengthMade (Err (BadOperand node)) g = g ≡ Refuses Operand node
LengthMade (Err (Unsupported kind node)) g = g ≡ Refuses kind node
LengthMade (Err OutOfMemory) g = ⊤

-- what is no constant is no length, but of a parameter's outermost array
abbrev pub open_length : Bool → ℕ → Given Derivation
open_length outermost at = if outermost then Fits (Elements None) else Refuses Vla at

-- the length that the value of an expression gives
abbrev pub length_by : World → Source → (ℕ → Sense) → ℕ → Core → Given Derivation
length_by w s sense at c = value_of w at c >>= length_of w s sense at
