-- Operators between two operands, as far as they are built.
use Rattle.std.specs.Prelude.{ℕ, ◌≡◌, ◌⊎◌}
use Rattle.pta_base.specs.declared.kind.Kind.TheVariants.{Operand, NotBuilt}
use Rattle.pta_base.specs.declared.place.Place.{Place}
use Rattle.core_tree.specs.declared.node.Op.{Op}
use Rattle.c_consts.specs.Core.{Core, ctype_of}
use Rattle.c_senses.specs.Given.{Given, Fits, Refuses, ◌>>=◌}
use Rattle.c_senses.specs.World.{World}
use Rattle.c_senses.specs.Conversions.{OperandSort, Whole, operand_of}
use Rattle.c_senses.specs.Operators.{Between, Numeric, Shifting, Adding, Subtracting, Ordering, Equating, BothTrue}
use Rattle.c_senses.specs.Operators.{EitherTrue, Following, NoOperator, numeric_row, shift_row, plus_row, minus_row}
use Rattle.c_senses.specs.Operators.{order_row, both_row, either_row, comparison, compared, sequence}
use Rattle.c_operators.specs.Joined.{built_pointers_joined}

-- 6.5.9
abbrev pub built_equated : Op → Place → ℕ → Core → Core → OperandSort → OperandSort → Given Core
built_equated op place at a b x y =
    built_pointers_joined at a b x y >>= (λ both. Fits (compared op place both.left both.right))

abbrev pub built_equality : World → Op → Place → ℕ → Core → Core → OperandSort → OperandSort → Given Core
built_equality w op place at a b Whole Whole = Fits (comparison w op place a b)
built_equality w op place at a b x y = built_equated op place at a b x y

abbrev pub built_between : World → Between → Place → ℕ → Core → Core → Given Core
built_between w (Numeric op) place at a b =
    numeric_row w op place at a b (operand_of (ctype_of a)) (operand_of (ctype_of b))
built_between w (Shifting op) place at a b =
    shift_row w op place at a b (operand_of (ctype_of a)) (operand_of (ctype_of b))
built_between w Adding place at a b = plus_row w place at a b (operand_of (ctype_of a)) (operand_of (ctype_of b))
built_between w Subtracting place at a b =
    minus_row w place at a b (operand_of (ctype_of a)) (operand_of (ctype_of b))
built_between w (Ordering op) place at a b =
    order_row w op place at a b (operand_of (ctype_of a)) (operand_of (ctype_of b))
built_between w (Equating op) place at a b =
    built_equality w op place at a b (operand_of (ctype_of a)) (operand_of (ctype_of b))
built_between w BothTrue place at a b = both_row place at a b
built_between w EitherTrue place at a b = either_row place at a b
built_between w Following place at a b = Fits (sequence place a b)
built_between w NoOperator place at a b = Refuses Operand at

-- a row that is built in part gives what the whole one gives, or says at its node that it isn't built
abbrev pub PartOf : {A : Type 0} → Given A → Given A → Type 0
PartOf built whole = (built ≡ whole) ⊎ ((node : ℕ) × (built ≡ Refuses NotBuilt node))
