-- The parts of the row of a choice (C11 6.5.15).
use Rattle.std.specs.Prelude.{ℕ, if◌then◌else◌}
use Rattle.pta_base.specs.declared.place.Place.{Place}
use Rattle.c_consts.specs.Core.{Core, ctype_of}
use Rattle.c_senses.specs.Given.{Given, Fits, ◌>>=◌}
use Rattle.c_senses.specs.World.{World, same_type}
use Rattle.c_senses.specs.Conversions.{OperandSort, operand_of}
use Rattle.c_senses.specs.Operators.{Both, pointers_joined, branches, chosen}

abbrev pub pair : Core → Core → Both
pair a b = record { left = a; right = b }

-- branches that aren't both numbers
abbrev pub alike_or_joined : ℕ → Core → Core → OperandSort → OperandSort → Given Both
alike_or_joined at a b x y =
    if same_type (ctype_of a) (ctype_of b) then Fits (pair a b) else pointers_joined at a b x y

-- where the condition is a scalar
abbrev pub chosen_of : World → Place → ℕ → Core → Core → Core → Given Core
chosen_of w place at c a b =
    branches w at a b (operand_of (ctype_of a)) (operand_of (ctype_of b)) >>= (λ both. Fits (chosen place c both))
