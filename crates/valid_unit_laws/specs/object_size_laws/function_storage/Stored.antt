-- How functions are stored.
use Rattle.std.specs.Prelude.{ℕ, ◌≡◌, ◌⊎◌, List}
use Rattle.c_lexer.specs.declared.Tokens.{Tokens}
use Rattle.c_lexer.specs.Cut.{IsTokens}
use Rattle.c_grammar.specs.declared.trees.Tree.{Tree}
use Rattle.c_parser.specs.c_units.Units.{IsUnit}
use Rattle.core_tree.specs.declared.node.Storage.TheVariants.{FunctionBody, Declared}
use Rattle.core_tree.specs.declared.node.Unit.{Unit}
use Rattle.core_tree.specs.Range.{EachEntity}
use Rattle.core_tree.specs.Typed.{CoreTrees, trees_of}
use Rattle.core_tree.specs.Valid.{IsFunctionEntity}
use Rattle.c_senses.specs.Names.{source_of, numbered}
use Rattle.c_senses.specs.Right.{Right}

-- each function has its body, or is only declared
abbrev pub StoresFunctions : CoreTrees → Type 0
StoresFunctions u =
    EachEntity u (λ e entity. IsFunctionEntity u entity → (entity.storage ≡ FunctionBody) ⊎ (entity.storage ≡ Declared))

-- so it is in each unit that is right for a text
abbrev pub FunctionsStored : Type 0
FunctionsStored =
    (tokens : Tokens) (unit : ℕ) (tree : Tree) (tag_number : ℕ → ℕ) (name : List ℕ) (u : Unit)
    → IsTokens tokens.text.now tokens.list.items
    → IsUnit tokens unit tree
    → Right (numbered tag_number (source_of tokens tree)) name u
    → StoresFunctions (trees_of u)
