-- Texts that are right, as core units, and texts that are not (C11 6.5 to 6.9).
use Rattle.std.specs.Prelude.{◌≡◌, ℕ, ◌+◌, ⊤, List, [], ◌∷◌, ◌++◌, codes}
use Rattle.pta_base.specs.Kind.{name_of}
use Rattle.pta_base.specs.declared.kind.Kind.{Kind}
use Rattle.c_lexer.specs.declared.Tokens.{Tokens}
use Rattle.c_grammar.specs.declared.trees.Tree.{Tree}
use Rattle.c_parser.specs.c_units.Units.{IsUnit}
use Rattle.core_tree.specs.declared.node.Unit.{Unit}
use Rattle.c_senses.specs.Names.{source_of, numbered}
use Rattle.c_senses.specs.Places.{own_place}
use Rattle.c_senses.specs.Rows.{RefusedAt}
use Rattle.c_senses.specs.Right.{Right}
use Rattle.c_lower.specs.passed.unit_walk.Walked.{AreDense}
use Rattle.c_lower.specs.PassedOn.{HasTags}
use Rattle.text_units.specs.Answers.{NamedText, Answer, refusal, place_text}
use Rattle.text_units.specs.Alone.{IsReadAs}

-- the tokens of a text that is read alone, and its tree as unit of that number
pub record IsParsed (number : ℕ) (named : NamedText) (tokens : Tokens) (tree : Tree) : Type 0 where
  pub text_is : tokens.text.now ≡ named.1
  pub read : IsReadAs named tokens.list.items
  pub tree_is : IsUnit tokens number tree

-- the core unit is what the rows give for the text's tree, under the text's name, where the numbers of its tags are
-- those below their count; its table has the type of each tag, with the keyword of the tag's first specifier
pub record IsRightText (number : ℕ) (named : NamedText) (u : Unit) : Type 0 where
  pub tokens : Tokens
  pub tree : Tree
  pub parsed : IsParsed number named tokens tree
  pub tag_number : ℕ → ℕ
  pub dense : AreDense (numbered tag_number (source_of tokens tree))
  pub right : Right (numbered tag_number (source_of tokens tree)) named.0 u
  pub tags : HasTags (numbered tag_number (source_of tokens tree)) u

-- the texts, the first of them as unit of that number, each as its core unit
abbrev pub AreRightTexts : ℕ → List NamedText → List Unit → Type 0
AreRightTexts number [] [] = ⊤
AreRightTexts number (text ∷ texts) (u ∷ us) = IsRightText number text u × AreRightTexts (number + 1) texts us
AreRightTexts number texts us = ⊥

-- the refusal of a construct that isn't accepted, at the own token of a node of the tree
abbrev pub kind_refusal : List ℕ → Tokens → Tree → Kind → ℕ → Answer
kind_refusal name tokens tree kind node =
    let place = own_place (source_of tokens tree) node in refusal 4
    (place_text name place.line place.column ++ codes ": not accepted " ++ name_of kind)

-- the refusal of a text for the first node of its tree whose row doesn't fit, with such numbers of its tags
pub record IsRefusedRow (number : ℕ) (named : NamedText) (answer : Answer) : Type 0 where
  pub tokens : Tokens
  pub tree : Tree
  pub parsed : IsParsed number named tokens tree
  pub tag_number : ℕ → ℕ
  pub dense : AreDense (numbered tag_number (source_of tokens tree))
  pub kind : Kind
  pub node : ℕ
  pub refused : RefusedAt (numbered tag_number (source_of tokens tree)) kind node
  pub answer_is : answer ≡ kind_refusal named.0 tokens tree kind node
