-- The bodies of functions of a unit that is built.
use Rattle.std.specs.Prelude.{ℕ, ◌≡◌, ◌≢◌, List, Option, Some, None}
use Rattle.c_lexer.specs.declared.Tokens.{Tokens}
use Rattle.c_lexer.specs.Cut.{IsTokens}
use Rattle.c_grammar.specs.declared.trees.Tree.{Tree}
use Rattle.c_parser.specs.c_units.Units.{IsUnit}
use Rattle.core_tree.specs.declared.node.Entity.{Entity}
use Rattle.core_tree.specs.declared.node.Unit.{Unit}
use Rattle.core_tree.specs.declared.node.Storage.TheVariants.{FunctionBody}
use Rattle.core_tree.specs.Typed.{CoreTrees, trees_of}
use Rattle.core_tree.specs.Range.{EachEntity, node_at}
use Rattle.core_tree.specs.Valid.{IsFunctionEntity, IsBlockIn}
use Rattle.c_senses.specs.Names.{source_of, numbered}
use Rattle.declaration_laws.specs.definition_laws.passed.built_unit_laws.built_units.Built.{IsBuilt}

-- what is stored as a function's body is a function, whose body is a block
abbrev pub FunctionFits : CoreTrees → Entity → Option ℕ → Type 0
FunctionFits u entity None = entity.storage ≢ FunctionBody
FunctionFits u entity (Some b) = entity.storage ≡ FunctionBody → IsFunctionEntity u entity × IsBlockIn (node_at u b)

abbrev pub FunctionsStand : Type 0
FunctionsStand =
    (tokens : Tokens) (unit : ℕ) (tree : Tree) (tag_number : ℕ → ℕ) (name : List ℕ) (u : Unit)
    → IsTokens tokens.text.now tokens.list.items
    → IsUnit tokens unit tree
    → IsBuilt (numbered tag_number (source_of tokens tree)) name u
    → EachEntity (trees_of u) (λ e entity. FunctionFits (trees_of u) entity entity.body)
