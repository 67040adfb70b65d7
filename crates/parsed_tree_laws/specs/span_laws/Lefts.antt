-- What stands to the left of what follows a primary (C11 6.5.2).
use Rattle.std.specs.Prelude.{ℕ, ◌≡◌, true, List, ◌∷◌}
use Rattle.c_lexer.specs.declared.Tokens.{Tokens}
use Rattle.c_grammar.specs.declared.trees.Tree.{Tree}
use Rattle.c_grammar.specs.Productions.{p_post}
use Rattle.c_grammar.specs.Terminals.{contains}
use Rattle.c_parser.specs.c_units.Units.{IsUnit}
use Rattle.c_senses.specs.Names.{source_of, numbered}
use Rattle.c_senses.specs.Tree.{is_a, children_at, left_of}

-- it is a part of the same node
abbrev pub UnitsHaveLefts : Type 0
UnitsHaveLefts =
    (tokens : Tokens) (unit : ℕ) (tree : Tree) (tag_number : ℕ → ℕ)
    → IsUnit tokens unit tree
    → (i first p : ℕ) (rest : List ℕ)
    → is_a (numbered tag_number (source_of tokens tree)) p_post i ≡ true
    → children_at (numbered tag_number (source_of tokens tree)) i ≡ first ∷ rest
    → contains (children_at (numbered tag_number (source_of tokens tree)) p) i ≡ true
    → contains (children_at (numbered tag_number (source_of tokens tree)) p)
    (left_of (numbered tag_number (source_of tokens tree)) first)
    ≡ true
