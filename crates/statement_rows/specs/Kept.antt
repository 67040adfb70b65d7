-- What the rows of statements give over senses whose constants can be computed.
use Rattle.std.specs.Prelude.{ℕ, ⊤, List, All}
use Rattle.core_tree.specs.declared.node.Unit.{Unit}
use Rattle.c_senses.specs.Tree.{Source}
use Rattle.c_senses.specs.World.{World}
use Rattle.c_senses.specs.Sense.{Sense, IsRun, IsInitial}
use Rattle.c_senses.specs.Statements.{statement_row, block_row, declaration_row, rest_row}
use Rattle.c_conversions.specs.Constants.{HasRows}
use Rattle.parsed_tree_laws.specs.sense_laws.Sound.{Gives}
use Rattle.parsed_tree_laws.specs.sense_laws.row_trees.Trees.{SenseHasRows, AllHaveRows}
use Rattle.c_results.specs.declared.made.Made.{Made}
use Rattle.c_results.specs.Standing.{sense_made}

-- what a declaration runs, and an initialiser: trees in which each node of a constant stands in its row; nothing is
-- asked of other senses
abbrev pub RunHasRows : Sense → Type 0
RunHasRows (IsRun cores) = AllHaveRows cores
RunHasRows (IsInitial c n) = HasRows c
RunHasRows x = ⊤

abbrev pub RunsMade : Unit → List Made → Type 0
RunsMade u results = All (λ m. RunHasRows (sense_made u m)) results

-- any sense whose trees are such
abbrev pub HasAllRows : Sense → Type 0
HasAllRows x = SenseHasRows x × RunHasRows x

-- 6.7, 6.8: the rows over such senses give such a sense
pub record StatementsKept (w : World) (s : Source) (sense : ℕ → Sense) : Type 0 where
  pub statements : (at : ℕ) (children : List ℕ) → Gives HasAllRows (statement_row w s sense at children)
  pub blocks : (at : ℕ) (children : List ℕ) → Gives HasAllRows (block_row w s sense at children)
  pub declarations : (children : List ℕ) → Gives HasAllRows (declaration_row w s sense children)
  pub rests : (children : List ℕ) → Gives HasAllRows (rest_row w s sense children)

abbrev pub RowsKept : Type 0
RowsKept =
    (w : World) (s : Source) (sense : ℕ → Sense) → ((i : ℕ) → HasAllRows (sense i)) → StatementsKept w s sense
