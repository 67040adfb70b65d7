-- Pointers that are equated.
use Rattle.std.specs.Prelude.{ℕ}
use Rattle.pta_base.specs.declared.place.Place.{Place}
use Rattle.core_tree.specs.declared.node.Op.{Op}
use Rattle.c_consts.specs.Core.{Core}
use Rattle.c_senses.specs.Given.{Given, Fits, ◌>>=◌}
use Rattle.c_senses.specs.Conversions.{OperandSort}
use Rattle.c_senses.specs.Operators.{pointers_joined, compared}

-- 6.5.9: operands that are made ones of one type
abbrev pub equated : Op → Place → ℕ → Core → Core → OperandSort → OperandSort → Given Core
equated op place at a b x y = pointers_joined at a b x y >>= (λ both. Fits (compared op place both.left both.right))
