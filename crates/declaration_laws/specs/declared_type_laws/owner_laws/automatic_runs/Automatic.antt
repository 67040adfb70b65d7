-- Where the initialiser of an automatic object runs.
use Rattle.std.specs.Prelude.{ℕ, ◌≡◌, true, List, Option, Some, length}
use Rattle.c_lexer.specs.declared.Tokens.{Tokens}
use Rattle.c_lexer.specs.Cut.{IsTokens}
use Rattle.c_grammar.specs.declared.trees.Tree.{Tree}
use Rattle.c_grammar.specs.Productions.{p_declaration, p_declarator}
use Rattle.c_parser.specs.c_units.Units.{IsUnit}
use Rattle.core_tree.specs.declared.node.Storage.TheVariants.{Automatic}
use Rattle.c_consts.specs.Core.{Core}
use Rattle.c_senses.specs.Names.{source_of, numbered}
use Rattle.c_senses.specs.Tree.{Source, is_a}
use Rattle.c_senses.specs.Declarators.{outermost_of}
use Rattle.c_senses.specs.Entities.{declaration_of, storage_of, initialiser_for}
use Rattle.c_senses.specs.Rows.{AreSenses}
use Rattle.c_senses.specs.Right.{declares_entity}
use Rattle.c_senses.specs.Sense.{Sense, IsInitial, sense_in}
use Rattle.declaration_laws.specs.declared_type_laws.owner_laws.run_initialisers.PassedOn.{IsHeld}

-- the declaration of a name, with a tree among what it runs
pub record RunsFor (s : Source) (senses : List Sense) (leaf : ℕ) (x : Core) : Type 0 where
  pub declaration : ℕ
  pub is_declaration : is_a s p_declaration declaration ≡ true
  pub declares : declaration_of s (sense_in senses) leaf ≡ Some declaration
  pub runs : IsHeld x (sense_in senses declaration)

-- the initialiser of an automatic object whose outermost declarator is one of its declaration is among what the
-- declaration runs
abbrev pub AutomaticRuns : Type 0
AutomaticRuns =
    (tokens : Tokens) (unit : ℕ) (tree : Tree) (tag_number : ℕ → ℕ) (senses : List Sense)
    → IsTokens tokens.text.now tokens.list.items
    → IsUnit tokens unit tree
    → AreSenses (numbered tag_number (source_of tokens tree)) senses
    → length senses ≡ length (numbered tag_number (source_of tokens tree)).nodes
    → (leaf init : ℕ) (x : Core) (n : Option ℕ)
    → declares_entity (numbered tag_number (source_of tokens tree)) senses leaf ≡ true
    → storage_of (numbered tag_number (source_of tokens tree)) (sense_in senses) leaf ≡ Automatic
    → ((o : ℕ) → outermost_of (numbered tag_number (source_of tokens tree)) leaf ≡ Some o
    → is_a (numbered tag_number (source_of tokens tree)) p_declarator o ≡ true)
    → initialiser_for (numbered tag_number (source_of tokens tree)) (sense_in senses) leaf ≡ Some init
    → sense_in senses init ≡ IsInitial x n
    → RunsFor (numbered tag_number (source_of tokens tree)) senses leaf x
