-- What rows of expressions give over senses whose constants can be computed.
use Rattle.std.specs.Prelude.{ℕ, List, ◌∷◌, Option}
use Rattle.pta_base.specs.declared.place.Place.{Place}
use Rattle.c_senses.specs.passed.c_consts.Core.{Core}
use Rattle.c_senses.specs.Tree.{Source}
use Rattle.c_senses.specs.World.{World}
use Rattle.c_senses.specs.Sense.{Sense}
use Rattle.c_senses.specs.Conversions.{value_of}
use Rattle.c_senses.specs.Operators.{between, operator}
use Rattle.c_senses.specs.Expressions.{primary_row, post_row, prefixed, sized, cast_row_of, conditional_row}
use Rattle.c_senses.specs.Expressions.{assignment_row, binary_row}
use Rattle.c_conversions.specs.Constants.{HasRows}
use Rattle.parsed_tree_laws.specs.sense_laws.Sound.{Gives}
use Rattle.parsed_tree_laws.specs.sense_laws.row_trees.Trees.{SenseHasRows, RowsValue, ValuesFit, ConstantFits}

-- 6.3.2.1, 6.5: the value of a tree whose constants stand in their rows, and what an operator makes of two, are so
-- again
pub record ValuesKept : Type 0 where
  pub values : (w : World) (at : ℕ) (c : Core) → HasRows c → Gives RowsValue (value_of w at c)
  pub between : (w : World) (sign : ℕ) (place : Place) (at : ℕ) (a b : Core)
      → RowsValue a
      → RowsValue b
      → Gives RowsValue (between w (operator sign) place at a b)

-- 6.5: the rows over senses whose constants stand in their rows give such a sense; a primary's constant has to fit
-- a type, and an enumerator's value in int
pub record ExpressionsKept (w : World) (s : Source) (sense : ℕ → Sense) : Type 0 where
  pub primaries : ValuesFit w
      → (at first : ℕ) (rest : List ℕ)
      → ConstantFits s first
      → Gives SenseHasRows (primary_row w s sense at (first ∷ rest))
  pub posts : (at : ℕ) (children : List ℕ) → Gives SenseHasRows (post_row w s sense at children)
  pub prefixes : (place : Place) (at sign : ℕ) (list : List ℕ)
      → Gives SenseHasRows (prefixed w s sense place at sign list)
  pub sizes : (place : Place) (at : ℕ) (o : Option ℕ) → Gives SenseHasRows (sized w s sense place at o)
  pub casts : (at : ℕ) (children : List ℕ) → Gives SenseHasRows (cast_row_of w s sense at children)
  pub choices : (at : ℕ) (children : List ℕ) → Gives SenseHasRows (conditional_row w s sense at children)
  pub assignments : (at : ℕ) (children : List ℕ) → Gives SenseHasRows (assignment_row w s sense at children)
  pub chains : (at : ℕ) (children : List ℕ) → Gives SenseHasRows (binary_row w s sense (between w) at children)

abbrev pub RowsKept : Type 0
RowsKept =
    (w : World) (s : Source) (sense : ℕ → Sense) → ((i : ℕ) → SenseHasRows (sense i)) → ExpressionsKept w s sense
