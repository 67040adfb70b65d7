-- What an object's initialiser initialises (C11 6.7.9).
use Rattle.std.specs.Prelude.{ℕ, ◌≡◌, true, List, Option, Some, length}
use Rattle.c_lexer.specs.declared.Tokens.{Tokens}
use Rattle.c_lexer.specs.Cut.{IsTokens}
use Rattle.c_grammar.specs.declared.trees.Tree.{Tree}
use Rattle.c_grammar.specs.Productions.{p_rest, p_init}
use Rattle.c_parser.specs.c_units.Units.{IsUnit}
use Rattle.core_tree.specs.declared.node.NodeKind.TheVariants.{Initialise}
use Rattle.c_consts.specs.Core.{Core, kind_of}
use Rattle.c_inits.specs.Shapes.{Path}
use Rattle.c_senses.specs.Tree.{Source, is_a, parent_of}
use Rattle.c_senses.specs.Names.{source_of, numbered}
use Rattle.c_senses.specs.Declarators.{outermost_of}
use Rattle.c_senses.specs.Entities.{initialised_by, entity_of}
use Rattle.c_senses.specs.Sense.{Sense, IsDeclarator, IsInitial, Derivation, sense_in}
use Rattle.c_senses.specs.Rows.{AreSenses}

-- the name whose entity it is, by the declarator that it stands for
pub record IsOwnInitial (s : Source) (senses : List Sense) (i : ℕ) : Type 0 where
  pub declarator : ℕ
  pub leaf : ℕ
  pub derives : List Derivation
  pub core : Core
  pub length_given : Option ℕ
  pub paths : List Path
  pub by_it : initialised_by s (sense_in senses) i ≡ Some declarator
  pub named : sense_in senses declarator ≡ IsDeclarator (Some leaf) derives
  pub outermost : outermost_of s leaf ≡ Some declarator
  pub is : sense_in senses i ≡ IsInitial core length_given
  pub kind : kind_of core ≡ Initialise (entity_of s (sense_in senses) leaf) paths

-- so it is in each unit that is read, whose rows all fit
abbrev pub InitialisersOwn : Type 0
InitialisersOwn =
    (tokens : Tokens) (unit : ℕ) (tree : Tree) (tag_number : ℕ → ℕ) (senses : List Sense)
    → IsTokens tokens.text.now tokens.list.items
    → IsUnit tokens unit tree
    → AreSenses (numbered tag_number (source_of tokens tree)) senses
    → length senses ≡ length (numbered tag_number (source_of tokens tree)).nodes
    → (i p : ℕ)
    → is_a (numbered tag_number (source_of tokens tree)) p_init i ≡ true
    → parent_of (numbered tag_number (source_of tokens tree)) i ≡ Some p
    → is_a (numbered tag_number (source_of tokens tree)) p_rest p ≡ true
    → IsOwnInitial (numbered tag_number (source_of tokens tree)) senses i
