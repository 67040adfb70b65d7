-- Where what declarations run stands in a unit.
use Rattle.std.specs.Prelude.{ℕ, ◌≡◌, true, List, Some}
use Rattle.c_lexer.specs.declared.Tokens.{Tokens}
use Rattle.c_lexer.specs.Cut.{IsTokens}
use Rattle.c_grammar.specs.declared.trees.Tree.{Tree}
use Rattle.c_grammar.specs.Productions.{p_external, p_declaration, p_block}
use Rattle.c_parser.specs.c_units.Units.{IsUnit}
use Rattle.core_tree.specs.declared.node.Unit.{Unit}
use Rattle.core_tree.specs.declared.node.Entity.{Entity}
use Rattle.core_tree.specs.declared.node.NodeKind.TheVariants.{Initialise}
use Rattle.core_tree.specs.Typed.{trees_of}
use Rattle.core_tree.specs.Range.{Under, entity_at}
use Rattle.c_consts.specs.Core.{Core, kind_of}
use Rattle.c_inits.specs.Shapes.{Path}
use Rattle.c_senses.specs.Names.{source_of, numbered}
use Rattle.c_senses.specs.Tree.{Source, is_a}
use Rattle.c_senses.specs.Sense.{Sense, IsCore, sense_in}
use Rattle.c_senses.specs.Right.{Numbering, StandsBy}
use Rattle.declaration_laws.specs.definition_laws.passed.built_unit_laws.built_units.Built.{IsBuilt}
use Rattle.declaration_laws.specs.definition_laws.scope_laws.Beneath.{Beneath}
use Rattle.declaration_laws.specs.definition_laws.scope_laws.Scoped.{IsPart}
use Rattle.declaration_laws.specs.declared_type_laws.owner_laws.held_parts.Held.{StandsIn, IsHeld}

-- the block of an external declaration, with a tree that stands in the block's
pub record BlockWith (s : Source) (senses : List Sense) (p : ℕ) (x : Core) : Type 0 where
  pub block : ℕ
  pub core : Core
  pub part : IsPart s p block
  pub is_block : is_a s p_block block ≡ true
  pub sensed : sense_in senses block ≡ IsCore core
  pub stands : StandsIn x core

-- a node under another one that stands by a tree; an initialiser is the body of its entity
pub record NodeOf (m : Numbering) (u : Unit) (b : ℕ) (x : Core) : Type 0 where
  pub node : ℕ
  pub under : Under (trees_of u) b node
  pub stands : StandsBy m u node x
  pub body : (leaf e : ℕ) (paths : List Path)
      → kind_of x ≡ Initialise leaf paths
      → m leaf ≡ Some e
      → (entity : Entity) × (entity_at (trees_of u) e ≡ Some entity) × (entity.body ≡ Some node)

-- what a declaration runs that stands below an external declaration stands in the tree of that one's block, and
-- each node that stands by the block's tree has a node under it that stands by what is run
abbrev pub RunsHeld : Type 0
RunsHeld =
    (tokens : Tokens) (unit : ℕ) (tree : Tree) (tag_number : ℕ → ℕ) (name : List ℕ) (u : Unit)
    → IsTokens tokens.text.now tokens.list.items
    → IsUnit tokens unit tree
    → (built : IsBuilt (numbered tag_number (source_of tokens tree)) name u)
    → (d p : ℕ) (x : Core)
    → is_a (numbered tag_number (source_of tokens tree)) p_declaration d ≡ true
    → is_a (numbered tag_number (source_of tokens tree)) p_external p ≡ true
    → Beneath (IsPart (numbered tag_number (source_of tokens tree))) p d
    → IsHeld x (sense_in built.senses d)
    → (own : BlockWith (numbered tag_number (source_of tokens tree)) built.senses p x)
    × ((b : ℕ) → StandsBy built.numbering u b own.core → NodeOf built.numbering u b x)
