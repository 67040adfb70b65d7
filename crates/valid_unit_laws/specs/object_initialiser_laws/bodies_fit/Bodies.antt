-- The bodies of objects of a unit that is built.
use Rattle.std.specs.Prelude.{ℕ, ◌≡◌, ◌≢◌, List, Some}
use Rattle.c_lexer.specs.declared.Tokens.{Tokens}
use Rattle.c_lexer.specs.Cut.{IsTokens}
use Rattle.c_grammar.specs.declared.trees.Tree.{Tree}
use Rattle.c_parser.specs.c_units.Units.{IsUnit}
use Rattle.core_tree.specs.declared.node.Entity.{Entity}
use Rattle.core_tree.specs.declared.node.Unit.{Unit}
use Rattle.core_tree.specs.declared.node.Storage.TheVariants.{FunctionBody}
use Rattle.core_tree.specs.Typed.{CoreTrees, trees_of}
use Rattle.core_tree.specs.Range.{EachEntity}
use Rattle.core_tree.specs.Valid.{IsObjectBody}
use Rattle.c_senses.specs.Names.{source_of, numbered}
use Rattle.core_node_laws.specs.built_unit_laws.built_units.Built.{IsBuilt}
use Rattle.valid_unit_laws.specs.object_initialiser_laws.internal_name_laws.initialised_rows.Rows.{InternalFit}

-- the body of what isn't stored as a function is its own Initialise, and no function has one
abbrev pub ObjectFits : CoreTrees → ℕ → Entity → Type 0
ObjectFits u e entity = entity.storage ≢ FunctionBody → (b : ℕ) → entity.body ≡ Some b → IsObjectBody u e entity b

-- so it is in each unit that is built of a text, where internal names have the types of their entities
abbrev pub BodiesFit : Type 0
BodiesFit =
    (tokens : Tokens) (unit : ℕ) (tree : Tree) (tag_number : ℕ → ℕ) (name : List ℕ) (u : Unit)
    → IsTokens tokens.text.now tokens.list.items
    → IsUnit tokens unit tree
    → (b : IsBuilt (numbered tag_number (source_of tokens tree)) name u)
    → InternalFit (numbered tag_number (source_of tokens tree)) b.senses
    → EachEntity (trees_of u) (λ e entity. ObjectFits (trees_of u) e entity)
