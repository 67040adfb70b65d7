-- Labels of the functions of a unit whose names are bound.
use Rattle.std.specs.Prelude.{ℕ, ◌≡◌, true, false, List, ◌∷◌, Some}
use Rattle.c_lexer.specs.declared.Tokens.{Tokens}
use Rattle.c_lexer.specs.Cut.{IsTokens}
use Rattle.c_grammar.specs.declared.trees.Tree.{Tree}
use Rattle.c_grammar.specs.Productions.{p_external, p_block, p_statement}
use Rattle.c_scope.specs.declared.resolving.Bound.{Bound}
use Rattle.c_scope.specs.Resolves.{IsBound}
use Rattle.c_parser.specs.c_units.Units.{IsUnit}
use Rattle.c_senses.specs.Names.{source_of, numbered}
use Rattle.c_senses.specs.Tree.{Source, is_a, is_name, spelling_at, children_at, first_where}
use Rattle.core_node_laws.specs.passed.parsed_tree_laws.ordered_parts.Ordered.{IsPart, Beneath}

-- the body of a function: a block that is a part of an external declaration
pub record IsBody (s : Source) (block : ℕ) : Type 0 where
  pub external : ℕ
  pub is_external : is_a s p_external external ≡ true
  pub is_block : is_a s p_block block ≡ true
  pub part : IsPart s external block

-- a statement beneath a block that a name begins, with that name
pub record IsLabelled (s : Source) (block p name : ℕ) : Type 0 where
  pub beneath : Beneath s block p
  pub statement : is_a s p_statement p ≡ true
  pub rest : List ℕ
  pub children : children_at s p ≡ name ∷ rest
  pub named : is_name s name ≡ true

-- a label with the spelling of a name
pub record HasLabel (s : Source) (block c : ℕ) : Type 0 where
  pub statement : ℕ
  pub name : ℕ
  pub labelled : IsLabelled s block statement name
  pub spelled : spelling_at s name ≡ spelling_at s c

pub record LabelsBound (s : Source) : Type 0 where
  pub once : (block p q a b : ℕ)
      → IsBody s block
      → IsLabelled s block p a
      → IsLabelled s block q b
      → spelling_at s a ≡ spelling_at s b
      → p ≡ q
  pub there : (block g first c : ℕ) (rest : List ℕ)
      → IsBody s block
      → Beneath s block g
      → is_a s p_statement g ≡ true
      → children_at s g ≡ first ∷ rest
      → is_name s first ≡ false
      → first_where (is_name s) (children_at s g) ≡ Some c
      → HasLabel s block c

-- so it is in each unit that is read and bound, whatever the numbers of tags are
abbrev pub LabelsAreBound : Type 0
LabelsAreBound =
    (tokens : Tokens) (unit : ℕ) (tree : Tree) (tag_number : ℕ → ℕ) (bound : Bound)
    → IsTokens tokens.text.now tokens.list.items
    → IsUnit tokens unit tree
    → IsBound tokens tree bound
    → LabelsBound (numbered tag_number (source_of tokens tree))
