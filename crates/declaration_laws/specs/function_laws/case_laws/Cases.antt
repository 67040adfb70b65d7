-- The cases of built units.
use Rattle.std.specs.Prelude.{ℕ, List, Option}
use Rattle.c_lexer.specs.declared.Tokens.{Tokens}
use Rattle.c_lexer.specs.Cut.{IsTokens}
use Rattle.c_types.specs.Trees.{Ctype}
use Rattle.c_grammar.specs.declared.trees.Tree.{Tree}
use Rattle.c_parser.specs.c_units.Units.{IsUnit}
use Rattle.core_tree.specs.declared.node.Unit.{Unit}
use Rattle.core_tree.specs.Typed.{trees_of}
use Rattle.core_tree.specs.Valid.{InRows, DistinctCases}
use Rattle.c_senses.specs.Names.{source_of, numbered}
use Rattle.c_senses.specs.World.{World}
use Rattle.c_senses.specs.Sense.{sense_in}
use Rattle.parsed_tree_laws.specs.sense_laws.Senses.{SoundSense}
use Rattle.declaration_laws.specs.passed.core_node_laws.standing_laws.Standing.{BodiesKnown}
use Rattle.declaration_laws.specs.definition_laws.passed.built_unit_laws.built_units.Built.{IsBuilt}

-- where all senses are sound, nodes stand in their rows and bodies are known, the cases of each switch differ
abbrev pub CasesDiffer : Type 0
CasesDiffer =
    (tokens : Tokens) (unit : ℕ) (tree : Tree) (tag_number : ℕ → ℕ) (name : List ℕ) (u : Unit)
    → IsTokens tokens.text.now tokens.list.items
    → IsUnit tokens unit tree
    → (built : IsBuilt (numbered tag_number (source_of tokens tree)) name u) (w : World)
    (entities : ℕ → Option Ctype)
    → ((i : ℕ) → SoundSense w entities (sense_in built.senses i))
    → InRows (trees_of u) → BodiesKnown (trees_of u) → DistinctCases (trees_of u)
