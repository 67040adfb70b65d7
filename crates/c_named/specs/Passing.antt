-- What a call that only judges answers of a row that passes on what it is given, or refuses.
use Rattle.std.specs.Prelude.{◌≡◌, ⊤, Result, Ok, Err}
use Rattle.pta_base.specs.declared.kind.Kind.TheVariants.{Operand}
use Rattle.c_senses.specs.Given.{Given, Refuses}
use Rattle.c_senses.specs.Sense.{Sense}
use Rattle.core_nodes.specs.declared.fault.CheckFault.{CheckFault}
use Rattle.core_nodes.specs.declared.fault.CheckFault.TheVariants.{BadOperand, Unsupported, OutOfMemory}

abbrev pub Passes : {A : Type 0} → Result A CheckFault → (Given Sense → Given Sense) → Type 0
Passes (Ok x) row = (g : Given Sense) → row g ≡ g
Passes (Err (BadOperand node)) row = (g : Given Sense) → row g ≡ Refuses Operand node
Passes (Err (Unsupported kind node)) row = (g : Given Sense) → row g ≡ Refuses kind node
Passes (Err OutOfMemory) row = ⊤
