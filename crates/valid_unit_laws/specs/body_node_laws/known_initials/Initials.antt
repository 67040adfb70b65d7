-- What the initialisers in the bodies of a parsed unit are of (C11 6.5.2.5, 6.7.9).
use Rattle.std.specs.Prelude.{ℕ, ◌≡◌, ◌⊎◌, List, length}
use Rattle.c_lexer.specs.declared.Tokens.{Tokens}
use Rattle.c_lexer.specs.Cut.{IsTokens}
use Rattle.c_grammar.specs.declared.trees.Tree.{Tree}
use Rattle.c_parser.specs.c_units.Units.{IsUnit}
use Rattle.core_tree.specs.declared.node.NodeKind.TheVariants.{Initialise}
use Rattle.c_consts.specs.Core.{Core, kind_of}
use Rattle.c_inits.specs.Shapes.{Path}
use Rattle.c_senses.specs.Names.{source_of, numbered}
use Rattle.c_senses.specs.Rows.{AreSenses}
use Rattle.c_senses.specs.Sense.{Sense}
use Rattle.core_node_laws.specs.built_unit_laws.built_laws.Placed.{IsInBody}
use Rattle.valid_unit_laws.specs.body_node_laws.parts_named.Named.{IsDeclared, IsLiteralThere}

-- of what is declared by a name, or of a compound literal that stands in a body too
abbrev pub InitialsKnown : Type 0
InitialsKnown =
    (tokens : Tokens) (unit : ℕ) (tree : Tree) (tag_number : ℕ → ℕ) (senses : List Sense)
    → IsTokens tokens.text.now tokens.list.items
    → IsUnit tokens unit tree
    → AreSenses (numbered tag_number (source_of tokens tree)) senses
    → length senses ≡ length (numbered tag_number (source_of tokens tree)).nodes
    → (c : Core) (d : ℕ) (paths : List Path)
    → IsInBody (numbered tag_number (source_of tokens tree)) senses c
    → kind_of c ≡ Initialise d paths
    → IsDeclared (numbered tag_number (source_of tokens tree)) senses d
    ⊎ IsLiteralThere (numbered tag_number (source_of tokens tree)) senses d
