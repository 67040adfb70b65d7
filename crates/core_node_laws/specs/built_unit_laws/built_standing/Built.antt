-- Units that are built from texts.
use Rattle.std.specs.Prelude.{ℕ, ◌≡◌, List, Option, None}
use Rattle.c_lexer.specs.declared.Tokens.{Tokens}
use Rattle.c_lexer.specs.Cut.{IsTokens}
use Rattle.c_types.specs.Trees.{Ctype}
use Rattle.c_grammar.specs.declared.trees.Tree.{Tree}
use Rattle.c_parser.specs.c_units.Units.{IsUnit}
use Rattle.core_tree.specs.declared.node.Unit.{Unit}
use Rattle.core_tree.specs.declared.node.Storage.TheVariants.{Parameter}
use Rattle.core_tree.specs.Typed.{trees_of}
use Rattle.core_tree.specs.Range.{EachNode, EachEntity}
use Rattle.core_tree.specs.Valid.{InRows}
use Rattle.c_senses.specs.Names.{source_of, numbered}
use Rattle.c_senses.specs.World.{World}
use Rattle.c_senses.specs.Sense.{sense_in}
use Rattle.c_initialise.specs.passed.sense_laws.Senses.{SoundSense}
use Rattle.core_node_laws.specs.built_unit_laws.built_units.Built.{IsBuilt}
use Rattle.core_node_laws.specs.standing_laws.Standing.{BodiesKnown, StatementStands}

-- where all senses are sound, nodes stand in their rows and bodies are known, statements stand where they may
abbrev pub StatementsBuilt : Type 0
StatementsBuilt =
    (tokens : Tokens) (unit : ℕ) (tree : Tree) (tag_number : ℕ → ℕ) (name : List ℕ) (u : Unit)
    → IsTokens tokens.text.now tokens.list.items
    → IsUnit tokens unit tree
    → (built : IsBuilt (numbered tag_number (source_of tokens tree)) name u) (w : World)
    (entities : ℕ → Option Ctype)
    → ((i : ℕ) → SoundSense w entities (sense_in built.senses i))
    → InRows (trees_of u)
    → BodiesKnown (trees_of u)
    → EachNode (trees_of u) (λ n node. StatementStands (trees_of u) n node.kind)

abbrev pub ParametersBuilt : Type 0
ParametersBuilt =
    (tokens : Tokens) (unit : ℕ) (tree : Tree) (tag_number : ℕ → ℕ) (name : List ℕ) (u : Unit)
    → IsTokens tokens.text.now tokens.list.items
    → IsUnit tokens unit tree
    → IsBuilt (numbered tag_number (source_of tokens tree)) name u
    → EachEntity (trees_of u) (λ e entity. entity.storage ≡ Parameter → entity.body ≡ None)
