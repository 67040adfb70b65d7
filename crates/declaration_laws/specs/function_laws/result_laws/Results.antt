-- What the functions of built units give.
use Rattle.std.specs.Prelude.{ℕ, List}
use Rattle.c_lexer.specs.declared.Tokens.{Tokens}
use Rattle.c_lexer.specs.Cut.{IsTokens}
use Rattle.c_grammar.specs.declared.trees.Tree.{Tree}
use Rattle.c_parser.specs.c_units.Units.{IsUnit}
use Rattle.core_tree.specs.declared.node.Unit.{Unit}
use Rattle.core_tree.specs.Typed.{CoreTrees, trees_of}
use Rattle.core_tree.specs.Range.{EachEntity}
use Rattle.core_tree.specs.Valid.{Bodied, ResultSized}
use Rattle.c_senses.specs.Names.{source_of, numbered}
use Rattle.declaration_laws.specs.definition_laws.passed.built_unit_laws.built_units.Built.{IsBuilt}

-- each function with a body gives nothing, or what has a size
abbrev pub ResultsHaveSizes : CoreTrees → Type 0
ResultsHaveSizes u = EachEntity u (λ e entity. ResultSized u entity)

-- where bodies are right
abbrev pub ResultsSized : Type 0
ResultsSized =
    (tokens : Tokens) (unit : ℕ) (tree : Tree) (tag_number : ℕ → ℕ) (name : List ℕ) (u : Unit)
    → IsTokens tokens.text.now tokens.list.items
    → IsUnit tokens unit tree
    → IsBuilt (numbered tag_number (source_of tokens tree)) name u
    → Bodied (trees_of u) → ResultsHaveSizes (trees_of u)
