-- Where a unit that is made of a parsed tree's senses initialises its objects (C11 6.7.9).
use Rattle.std.specs.Prelude.{ℕ, ◌≡◌, ◌<◌, List, Some, length, slice_get, ◌⊎◌, All}
use Rattle.c_lexer.specs.declared.Tokens.{Tokens}
use Rattle.c_lexer.specs.Cut.{IsTokens}
use Rattle.c_grammar.specs.declared.trees.Tree.{Tree}
use Rattle.c_parser.specs.c_units.Units.{IsUnit}
use Rattle.core_tree.specs.declared.node.Entity.{Entity}
use Rattle.core_tree.specs.declared.node.Node.{Node}
use Rattle.core_tree.specs.declared.node.Unit.{Unit}
use Rattle.core_tree.specs.declared.node.Storage.TheVariants.{Automatic}
use Rattle.core_tree.specs.Typed.{trees_of}
use Rattle.core_tree.specs.Rows.{Initialises}
use Rattle.core_tree.specs.Range.{IsChild, entity_at}
use Rattle.c_senses.specs.Tree.{Source}
use Rattle.c_senses.specs.Names.{source_of, numbered}
use Rattle.c_senses.specs.Rows.{AreSenses}
use Rattle.c_senses.specs.Sense.{Sense}
use Rattle.c_senses.specs.Right.{Numbering, Declared, declared_name, IsDeclaredAt, IsEntityOf, InitialisesOnce}
use Rattle.c_senses.specs.Right.{IsBody}
use Rattle.valid_unit_laws.specs.object_initialiser_laws.passed.internal_name_laws.text_rows.Texts.{TypesFit}

-- the node is the body of that entity
abbrev pub IsBodyOf : Unit → ℕ → ℕ → Type 0
IsBodyOf u i e = (entity : Entity) × (entity_at (trees_of u) e ≡ Some entity) × (entity.body ≡ Some i)

-- the entity is that of a name, and no automatic object
abbrev pub IsLasting : Source → List Sense → Numbering → ℕ → Type 0
IsLasting s senses m e =
    (d : ℕ) × (what : Declared) × (declared_name s senses d ≡ Some what) × (m d ≡ Some e)
    × (what.storage ≡ Automatic → ⊥)

-- what is asked of a unit that is made of the senses of a whole tree, of which nothing is known of its
-- initialisers: its entities are those that are declared, each that is initialised is one, and its nodes are bodies
-- and what stands under them; what is no child is the body of a name that is no automatic object
pub record IsRaised (s : Source) (senses : List Sense) (numbering : Numbering) (u : Unit) : Type 0 where
  pub entity_once : (c d e : ℕ) → numbering c ≡ Some e → numbering d ≡ Some e → c ≡ d
  pub each_declared : (d : ℕ) (what : Declared) → IsDeclaredAt s senses d what
      → (e : ℕ) × (entity : Entity) × (numbering d ≡ Some e) × (entity_at (trees_of u) e ≡ Some entity)
      × IsEntityOf numbering u s.unit what entity
  pub no_other_entity : (e : ℕ)
      → e < length u.entities.items
      → (d : ℕ) × (what : Declared) × IsDeclaredAt s senses d what × (numbering d ≡ Some e)
  pub known : (i e : ℕ) → Initialises (trees_of u) i e → e < length u.entities.items
  pub no_other_node : (i : ℕ) → i < length u.nodes.items → IsBody u i ⊎ ((p : ℕ) × IsChild (trees_of u) p i)
  pub children_first : (n : ℕ) (node : Node)
      → slice_get u.nodes.items n ≡ Some node
      → All (λ c. c < n) node.children
  pub tops : (e b : ℕ) (entity : Entity)
      → entity_at (trees_of u) e ≡ Some entity
      → entity.body ≡ Some b
      → ((p : ℕ) × IsChild (trees_of u) p b) ⊎ IsLasting s senses numbering e

-- an initialiser that is no child is its entity's body
abbrev pub TopsInitialise : Type 0
TopsInitialise =
    (tokens : Tokens) (unit : ℕ) (tree : Tree) (tag_number : ℕ → ℕ) (senses : List Sense)
    → IsTokens tokens.text.now tokens.list.items
    → IsUnit tokens unit tree
    → AreSenses (numbered tag_number (source_of tokens tree)) senses
    → length senses ≡ length (numbered tag_number (source_of tokens tree)).nodes
    → (numbering : Numbering) (u : Unit) → IsRaised (numbered tag_number (source_of tokens tree)) senses numbering u
    → (i e : ℕ) → Initialises (trees_of u) i e → ((p : ℕ) → IsChild (trees_of u) p i → ⊥) → IsBodyOf u i e

-- and so is that of an automatic object with a name
abbrev pub AutomaticsInitialise : Type 0
AutomaticsInitialise =
    (tokens : Tokens) (unit : ℕ) (tree : Tree) (tag_number : ℕ → ℕ) (senses : List Sense)
    → IsTokens tokens.text.now tokens.list.items
    → IsUnit tokens unit tree
    → AreSenses (numbered tag_number (source_of tokens tree)) senses
    → length senses ≡ length (numbered tag_number (source_of tokens tree)).nodes
    → (numbering : Numbering) (u : Unit) → IsRaised (numbered tag_number (source_of tokens tree)) senses numbering u
    → (i e d : ℕ) (what : Declared)
    → Initialises (trees_of u) i e
    → numbering d ≡ Some e
    → declared_name (numbered tag_number (source_of tokens tree)) senses d ≡ Some what
    → what.storage ≡ Automatic → IsBodyOf u i e

-- and that of any name
abbrev pub NamesInitialise : Type 0
NamesInitialise =
    (tokens : Tokens) (unit : ℕ) (tree : Tree) (tag_number : ℕ → ℕ) (senses : List Sense)
    → IsTokens tokens.text.now tokens.list.items
    → IsUnit tokens unit tree
    → AreSenses (numbered tag_number (source_of tokens tree)) senses
    → length senses ≡ length (numbered tag_number (source_of tokens tree)).nodes
    → (numbering : Numbering) (u : Unit) → IsRaised (numbered tag_number (source_of tokens tree)) senses numbering u
    → (i e d : ℕ) (what : Declared)
    → Initialises (trees_of u) i e
    → numbering d ≡ Some e
    → declared_name (numbered tag_number (source_of tokens tree)) senses d ≡ Some what
    → IsBodyOf u i e

-- and so is that of a compound literal, so that each initialiser is its entity's body
abbrev pub UnitsInitialiseOnce : Type 0
UnitsInitialiseOnce =
    (tokens : Tokens) (unit : ℕ) (tree : Tree) (tag_number : ℕ → ℕ) (senses : List Sense)
    → IsTokens tokens.text.now tokens.list.items
    → IsUnit tokens unit tree
    → AreSenses (numbered tag_number (source_of tokens tree)) senses
    → length senses ≡ length (numbered tag_number (source_of tokens tree)).nodes
    → TypesFit (numbered tag_number (source_of tokens tree)) senses
    → (numbering : Numbering) (u : Unit)
    → IsRaised (numbered tag_number (source_of tokens tree)) senses numbering u
    → InitialisesOnce u
