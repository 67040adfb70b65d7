-- The bodies of named objects of a unit that is built.
use Rattle.std.specs.Prelude.{ℕ, ◌≡◌, ◌≢◌, true, List, [], Some}
use Rattle.c_lexer.specs.declared.Tokens.{Tokens}
use Rattle.c_lexer.specs.Cut.{IsTokens}
use Rattle.c_grammar.specs.declared.trees.Tree.{Tree}
use Rattle.c_grammar.specs.Productions.{p_rest, p_declarator, p_init}
use Rattle.c_parser.specs.c_units.Units.{IsUnit}
use Rattle.core_tree.specs.declared.node.Entity.{Entity}
use Rattle.core_tree.specs.declared.node.Unit.{Unit}
use Rattle.core_tree.specs.declared.node.Storage.TheVariants.{FunctionBody}
use Rattle.core_tree.specs.Typed.{CoreTrees, trees_of}
use Rattle.core_tree.specs.Range.{EachEntity}
use Rattle.core_tree.specs.Rows.{Initialises}
use Rattle.c_senses.specs.Tree.{Source, is_a, parent_of}
use Rattle.c_senses.specs.Names.{source_of, numbered}
use Rattle.c_senses.specs.Declarators.{is_outermost}
use Rattle.c_senses.specs.Entities.{initialiser_of}
use Rattle.c_senses.specs.Sense.{Sense, sense_in}
use Rattle.core_node_laws.specs.built_unit_laws.built_units.Built.{IsBuilt}

-- the initialiser of an outermost declarator is one, in the rest of a declaration, and the declarator is one of an
-- object or function
pub record IsPlaced (s : Source) (o init : ℕ) : Type 0 where
  pub declarator : is_a s p_declarator o ≡ true
  pub initialiser : is_a s p_init init ≡ true
  pub above : ℕ
  pub parent : parent_of s init ≡ Some above
  pub rest : is_a s p_rest above ≡ true

abbrev pub InitialisersPlaced : Source → List Sense → Type 0
InitialisersPlaced s senses =
    (o init : ℕ) → is_outermost s o ≡ true → initialiser_of s (sense_in senses) o ≡ Some init → IsPlaced s o init

-- the body of a name is a function's or its own Initialise
abbrev pub NamedInitialises : CoreTrees → ℕ → Entity → Type 0
NamedInitialises u e entity =
    entity.storage ≢ FunctionBody → entity.name ≢ [] → (b : ℕ) → entity.body ≡ Some b → Initialises u b e

abbrev pub NamedObjectsInitialise : Type 0
NamedObjectsInitialise =
    (tokens : Tokens) (unit : ℕ) (tree : Tree) (tag_number : ℕ → ℕ) (name : List ℕ) (u : Unit)
    → IsTokens tokens.text.now tokens.list.items
    → IsUnit tokens unit tree
    → (b : IsBuilt (numbered tag_number (source_of tokens tree)) name u)
    → InitialisersPlaced (numbered tag_number (source_of tokens tree)) b.senses
    → EachEntity (trees_of u) (λ e entity. NamedInitialises (trees_of u) e entity)
