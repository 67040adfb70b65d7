-- The rows over their parts.
use Rattle.std.specs.Prelude.{ℕ}
use Rattle.pta_base.specs.declared.place.Place.{Place}
use Rattle.c_consts.specs.Core.{Core}
use Rattle.c_senses.specs.Given.{Given, ◌>>=◌}
use Rattle.c_senses.specs.Tree.{Source, sign_at}
use Rattle.c_senses.specs.World.{World}
use Rattle.c_senses.specs.Conversions.{value_of}
use Rattle.c_senses.specs.Operators.{Between, between, choice_row}
use Rattle.c_senses.specs.Objects.{cast_row}
use Rattle.c_senses.specs.Expressions.{assigned_by, step}
use Rattle.c_senses.specs.Sense.{Sense, core_of, value_in, type_of_sense}

-- two operands of an operator, by their values
abbrev pub joined_values : World → Between → Place → ℕ → Core → Core → Given Core
joined_values w op place named a b = value_of w named a >>= (λ x. value_of w named b >>= between w op place named x)

-- an operator over what stands to its left and the sense of its right operand
abbrev pub linked : World → Source → (ℕ → Sense) → ℕ → ℕ → Core → Sense → Given Core
linked w s sense named o a right =
    core_of named right >>= (λ b. step w s sense (between w) named o a b (sign_at s o))

module _ (w : World) (s : Source) (sense : ℕ → Sense) where
  abbrev pub assigned_parts : ℕ → ℕ → ℕ → ℕ → Given Core
  assigned_parts at p o v =
      core_of at (sense p) >>= (λ a. core_of at (sense v) >>= (λ b. assigned_by w s sense at o a b (sign_at s o)))

  abbrev pub chosen_parts : Place → ℕ → ℕ → ℕ → ℕ → Given Core
  chosen_parts place at c a b =
      value_in w at (sense c) >>=
      (λ x. value_in w at (sense a) >>= (λ y. value_in w at (sense b) >>= choice_row w place at x y))

  abbrev pub cast_parts : ℕ → ℕ → ℕ → Given Core
  cast_parts at t c = type_of_sense at (sense t) >>= (λ type. core_of at (sense c) >>= (λ x. cast_row w at x type))
