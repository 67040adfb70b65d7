-- The block or `for` statement that lists an automatic object.
use Rattle.std.specs.Prelude.{ℕ, ◌≡◌, true, ◌||◌, List, length, ◌⊎◌}
use Rattle.c_lexer.specs.declared.Tokens.{Tokens}
use Rattle.c_lexer.specs.Cut.{IsTokens}
use Rattle.c_grammar.specs.declared.trees.Tree.{Tree}
use Rattle.c_grammar.specs.Productions.{p_external, p_block, p_statement}
use Rattle.c_parser.specs.c_units.Units.{IsUnit}
use Rattle.core_tree.specs.declared.node.Storage.TheVariants.{Automatic}
use Rattle.c_consts.specs.Core.{Core, kind_of}
use Rattle.c_senses.specs.Names.{source_of, numbered}
use Rattle.c_senses.specs.Tree.{Source, is_a}
use Rattle.c_senses.specs.Entities.{storage_of}
use Rattle.c_senses.specs.Rows.{AreSenses}
use Rattle.c_senses.specs.Right.{declares_entity}
use Rattle.c_senses.specs.Sense.{Sense, IsCore, sense_in}
use Rattle.declaration_laws.specs.declared_type_laws.owner_laws.passed.definition_laws.scope_laws.Beneath.{Beneath}
use Rattle.declaration_laws.specs.declared_type_laws.owner_laws.passed.definition_laws.scope_laws.Scoped.{IsPart}
use Rattle.valid_unit_laws.specs.object_initialiser_laws.block_uses.Uses.{OpensOwn, DeclaredIn}
use Rattle.valid_unit_laws.specs.object_initialiser_laws.block_trees.Covered.{ListsIt}

-- it has the declaration, and its tree lists the name; it is the block of an external declaration, or has a scope
-- of its own
pub record IsListedBy (s : Source) (senses : List Sense) (leaf : ℕ) : Type 0 where
  pub node : ℕ
  pub is : (is_a s p_block node || is_a s p_statement node) ≡ true
  pub place : OpensOwn s node
      ⊎ ((is_a s p_block node ≡ true) × ((p : ℕ) × IsPart s p node × (is_a s p_external p ≡ true)))
  pub declared : DeclaredIn s node leaf
  pub above : Beneath (IsPart s) node leaf
  pub core : Core
  pub sensed : sense_in senses node ≡ IsCore core
  pub lists : ListsIt leaf (kind_of core)

abbrev pub ObjectsAreListed : Type 0
ObjectsAreListed =
    (tokens : Tokens) (unit : ℕ) (tree : Tree) (tag_number : ℕ → ℕ) (senses : List Sense)
    → IsTokens tokens.text.now tokens.list.items
    → IsUnit tokens unit tree
    → AreSenses (numbered tag_number (source_of tokens tree)) senses
    → length senses ≡ length (numbered tag_number (source_of tokens tree)).nodes
    → (leaf : ℕ)
    → declares_entity (numbered tag_number (source_of tokens tree)) senses leaf ≡ true
    → storage_of (numbered tag_number (source_of tokens tree)) (sense_in senses) leaf ≡ Automatic
    → IsListedBy (numbered tag_number (source_of tokens tree)) senses leaf
