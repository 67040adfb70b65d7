-- The constant that is the width of a field.
use Rattle.std.specs.Prelude.{ℕ, ℤ, ◌≡◌, Option, Some, None, Result}
use Rattle.c_grammar.specs.Productions.{p_conditional}
use Rattle.c_senses.specs.Tree.{Source, child_of}
use Rattle.c_senses.specs.World.{World}
use Rattle.c_senses.specs.Sense.{Sense}
use Rattle.c_senses.specs.Constants.{constant_in}
use Rattle.core_nodes.specs.declared.fault.CheckFault.{CheckFault}
use Rattle.c_conversions.specs.constant_values.Constants.{ConstantMade}

abbrev pub WidthMade : World → Source → (ℕ → Sense) → ℕ → Option (Result ℤ CheckFault) → Type 0
WidthMade w s sense at None = child_of s p_conditional at ≡ None
WidthMade w s sense at (Some width) =
    (node : ℕ) × (child_of s p_conditional at ≡ Some node) × ConstantMade width (constant_in w s at (sense node))
