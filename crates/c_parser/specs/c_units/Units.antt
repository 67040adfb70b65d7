-- What it is to read a unit.
use Rattle.std.specs.Prelude.{◌≡◌, ℕ, ◌+◌, [], Result, Ok, length, map}
use Rattle.c_lexer.specs.declared.Tokens.{Tokens}
use Rattle.c_grammar.specs.declared.trees.Tree.{Tree}
use Rattle.c_grammar.specs.Names.{no_names}
use Rattle.c_grammar.specs.Productions.{p_unit}
use Rattle.c_grammar.specs.Reads.{State, Fault, Opens, node_of}
use Rattle.c_parser.specs.Parse.{begin}

-- reading the unit from the first token on, with no scope open but the file's, which declares nothing yet
abbrev pub ReadsUnit : Tokens → Result State Fault → Type 0
ReadsUnit tokens r = Opens tokens.text.now tokens.list.items p_unit 0 (begin 0 no_names []) r

-- the tree of a unit: its nodes are those that reading gives, and the last one is the root
abbrev pub IsUnit : Tokens → ℕ → Tree → Type 0
IsUnit tokens unit tree =
    ((s : State) × ReadsUnit tokens (Ok s) × (s.nodes ≡ map node_of tree.nodes.items)) × (tree.unit ≡ unit)
    × (tree.root + 1 ≡ length tree.nodes.items)
