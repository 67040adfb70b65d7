-- What the names without linkage declare that stand in the trees of bodies.
use Rattle.std.specs.Prelude.{ℕ, ◌≡◌, ◌⊎◌, false, List, Some, length}
use Rattle.c_lexer.specs.declared.Tokens.{Tokens}
use Rattle.c_lexer.specs.Cut.{IsTokens}
use Rattle.c_grammar.specs.declared.trees.Tree.{Tree}
use Rattle.c_parser.specs.c_units.Units.{IsUnit}
use Rattle.core_tree.specs.declared.node.NodeKind.TheVariants.{Named, FunctionName}
use Rattle.c_consts.specs.Core.{Core, kind_of}
use Rattle.c_senses.specs.Names.{source_of, numbered}
use Rattle.c_senses.specs.Sense.{Sense, sense_in}
use Rattle.c_senses.specs.Rows.{AreSenses}
use Rattle.c_senses.specs.Entities.{is_linked}
use Rattle.c_senses.specs.Right.{Declared, declared_name}
use Rattle.core_node_laws.specs.built_unit_laws.built_laws.Placed.{IsInBody}

-- each is declared: in a declaration, or as a parameter of a definition
abbrev pub NamesKnown : Type 0
NamesKnown =
    (tokens : Tokens) (unit : ℕ) (tree : Tree) (tag_number : ℕ → ℕ) (senses : List Sense)
    → IsTokens tokens.text.now tokens.list.items
    → IsUnit tokens unit tree
    → AreSenses (numbered tag_number (source_of tokens tree)) senses
    → length senses ≡ length (numbered tag_number (source_of tokens tree)).nodes
    → (c : Core) (d : ℕ)
    → IsInBody (numbered tag_number (source_of tokens tree)) senses c
    → (kind_of c ≡ Named d) ⊎ (kind_of c ≡ FunctionName d)
    → is_linked (numbered tag_number (source_of tokens tree)) (sense_in senses) d ≡ false
    → (what : Declared) × (declared_name (numbered tag_number (source_of tokens tree)) senses d ≡ Some what)
