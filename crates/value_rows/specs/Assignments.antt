-- The parts of the rows of assignments (C11 6.5.16).
use Rattle.std.specs.Prelude.{ℕ, ◌==◌, true, false, if◌then◌else◌}
use Rattle.pta_base.specs.declared.kind.Kind.TheVariants.{Operand}
use Rattle.pta_base.specs.declared.place.Place.{Place}
use Rattle.core_tree.specs.declared.node.NodeKind.TheVariants.{Assign}
use Rattle.core_tree.specs.declared.node.Op.{Op}
use Rattle.c_types.specs.Trees.{Ctype}
use Rattle.c_grammar.specs.Words.{sign_assign}
use Rattle.c_consts.specs.Core.{Core, ctype_of, over_two}
use Rattle.c_senses.specs.Given.{Given, Fits, given_some, ◌>>=◌}
use Rattle.c_senses.specs.World.{World}
use Rattle.c_senses.specs.Conversions.{value_of, conversion}
use Rattle.c_senses.specs.Objects.{assign_row, assigned_op, update_row}

-- a place that takes a value
abbrev pub assigned_to : World → Place → ℕ → Core → Core → Given Core
assigned_to w place at p v =
    conversion w false at v (ctype_of p) >>= (λ x. Fits (over_two Assign place (ctype_of p) p x))

-- a place over the value of an expression
abbrev pub assigned_from : World → Place → ℕ → Core → Core → Given Core
assigned_from w place at p b = value_of w at b >>= assign_row w place at p

abbrev pub updated_from : World → Op → Place → ℕ → Core → Core → Given Core
updated_from w op place at p b = value_of w at b >>= update_row w op false place at p

-- the value of an expression, cast to a type that isn't refused by itself
abbrev pub cast_to : World → ℕ → Core → Ctype → Given Core
cast_to w at x t = value_of w at x >>= (λ v. conversion w true at v t)

-- the row of an assignment by its sign, which stands at that place: the right operand's value is taken, and then
-- the place's new one
abbrev pub assignment_by : World → Place → ℕ → Core → Core → ℕ → Given Core
assignment_by w place at p b sign =
    if sign == sign_assign then (value_of w at b >>= assign_row w place at p)
    else (given_some (assigned_op sign) Operand at >>= (λ op. value_of w at b >>= update_row w op false place at p))
