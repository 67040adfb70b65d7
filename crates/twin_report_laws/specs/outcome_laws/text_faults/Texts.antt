-- Units that are right for the same texts, and their faults of linking.
use Rattle.std.specs.Prelude.{ℕ, ◌≡◌, ◌+◌, ⊤, List, [], ◌∷◌}
use Rattle.c_types.specs.Made.{IsMade, AreNamed}
use Rattle.c_lexer.specs.declared.Tokens.{Tokens}
use Rattle.c_lexer.specs.Cut.{IsTokens}
use Rattle.c_grammar.specs.declared.trees.Tree.{Tree}
use Rattle.c_parser.specs.c_units.Units.{IsUnit}
use Rattle.core_tree.specs.declared.node.Unit.{Unit}
use Rattle.core_tree.specs.declared.node.Program.{Program}
use Rattle.c_senses.specs.Names.{source_of, numbered}
use Rattle.c_senses.specs.Right.{Right}
use Rattle.link_names.specs.declared.fault.LinkFault.{LinkFault}
use Rattle.unit_link.specs.Linked.{LinkedAt, LinksBadlyAt}
use Rattle.struct_rows.specs.Built.{HasTagTypes}
use Rattle.twin_report_laws.specs.outcome_laws.fault_laws.Twins.{AreTwins, AreAllTwins}

-- two units that are both right for one text, which is cut and read as unit of that number, under one name and with
-- the same numbers of its tags, on tables that were made and have the type of each tag of the text, with the
-- keyword of the tag's first specifier
pub record AreOfOneText (number : ℕ) (u v : Unit) : Type 0 where
  pub tokens : Tokens
  pub tree : Tree
  pub tag_number : ℕ → ℕ
  pub name : List ℕ
  pub cut : IsTokens tokens.text.now tokens.list.items
  pub read : IsUnit tokens number tree
  pub right : Right (numbered tag_number (source_of tokens tree)) name u
  pub other_right : Right (numbered tag_number (source_of tokens tree)) name v
  pub types : HasTagTypes (numbered tag_number (source_of tokens tree)) u.types
  pub other_types : HasTagTypes (numbered tag_number (source_of tokens tree)) v.types
  pub made : IsMade u.types
  pub other_made : IsMade v.types
  pub named : AreNamed u.types
  pub other_named : AreNamed v.types

-- as many units, one by one right for the same texts, the first of them for the text of that number
abbrev pub AreOfOneTexts : ℕ → List Unit → List Unit → Type 0
AreOfOneTexts number [] [] = ⊤
AreOfOneTexts number (u ∷ us) (v ∷ vs) = AreOfOneText number u v × AreOfOneTexts (number + 1) us vs
AreOfOneTexts number us vs = ⊥

-- Units that are right for one text are twins; so are those for the same texts, one by one.
pub record RightTwins : Type 0 where
  pub one : (number : ℕ) (u v : Unit) → AreOfOneText number u v → AreTwins u v
  pub all : (us vs : List Unit) → AreOfOneTexts 0 us vs → AreAllTwins us vs

-- They have one fault of linking, or none, where the same entries are named.
pub record OneTextFault : Type 0 where
  pub one : {entered : List (List ℕ)} (us vs : List Unit) (fault other : LinkFault)
      → AreOfOneTexts 0 us vs
      → LinksBadlyAt entered us fault
      → LinksBadlyAt entered vs other
      → fault ≡ other
  pub none : {entered : List (List ℕ)} (us vs : List Unit) (p : Program) (fault : LinkFault)
      → AreOfOneTexts 0 us vs
      → LinkedAt entered us p
      → LinksBadlyAt entered vs fault
      → ⊥
