-- Units that are right for texts, and what is first used at one place of them.
use Rattle.std.specs.Prelude.{ℕ, ◌+◌, ⊤, List, [], ◌∷◌}
use Rattle.c_lexer.specs.declared.Tokens.{Tokens}
use Rattle.c_lexer.specs.Cut.{IsTokens}
use Rattle.c_grammar.specs.declared.trees.Tree.{Tree}
use Rattle.c_parser.specs.c_units.Units.{IsUnit}
use Rattle.core_tree.specs.declared.node.Unit.{Unit}
use Rattle.c_senses.specs.Names.{source_of, numbered}
use Rattle.c_senses.specs.Right.{Right}
use Rattle.twin_report_laws.specs.outcome_laws.fault_laws.Twins.{NamedByPlace}

-- a unit of that number that is right for a text that is cut and read
pub record IsRightAs (number : ℕ) (u : Unit) : Type 0 where
  pub tokens : Tokens
  pub tree : Tree
  pub tag_number : ℕ → ℕ
  pub name : List ℕ
  pub cut : IsTokens tokens.text.now tokens.list.items
  pub read : IsUnit tokens number tree
  pub right : Right (numbered tag_number (source_of tokens tree)) name u

-- units one after another, the first of them of that number
abbrev pub AreRightFrom : ℕ → List Unit → Type 0
AreRightFrom number [] = ⊤
AreRightFrom number (u ∷ us) = IsRightAs number u × AreRightFrom (number + 1) us

-- what is first used at one place of them has one name
abbrev pub RightNamedByPlace : Type 0
RightNamedByPlace = (units : List Unit) → AreRightFrom 0 units → NamedByPlace units
