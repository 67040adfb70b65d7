-- Types of declarations that are settled at later declarators.
use Rattle.std.specs.Prelude.{ℕ, ◌≡◌, ◌<◌, ◌≤◌, take, List, Some}
use Rattle.c_lexer.specs.declared.Tokens.{Tokens}
use Rattle.c_lexer.specs.Cut.{IsTokens}
use Rattle.c_grammar.specs.declared.trees.Tree.{Tree}
use Rattle.c_parser.specs.c_units.Units.{IsUnit}
use Rattle.c_senses.specs.Tree.{Source}
use Rattle.c_senses.specs.Names.{source_of, numbered}
use Rattle.c_senses.specs.Declarators.{outermost_of}
use Rattle.c_senses.specs.Entities.{own_type}
use Rattle.c_senses.specs.Sense.{Sense, sense_in}
use Rattle.c_types.specs.Trees.{Ctype}
use Rattle.declaration_laws.specs.declared_type_laws.owner_laws.passed.definition_laws.earlier_initialisers.Earlier.{StandsDeclaring}

-- what a declaration says of its type once a later declarator is known, it says in the end
abbrev pub AreSettled : Source → Type 0
AreSettled s =
    (senses : List Sense) (m leaf k n : ℕ) (t : Ctype)
    → outermost_of s leaf ≡ Some m
    → StandsDeclaring s m
    → StandsDeclaring s k
    → m < k
    → k ≤ n
    → own_type s (sense_in (take n senses)) leaf ≡ Some t
    → own_type s (sense_in senses) leaf ≡ Some t

-- so it is in each unit that is read, whatever the numbers of tags are
abbrev pub TypesSettled : Type 0
TypesSettled =
    (tokens : Tokens) (unit : ℕ) (tree : Tree) (tag_number : ℕ → ℕ)
    → IsTokens tokens.text.now tokens.list.items
    → IsUnit tokens unit tree
    → AreSettled (numbered tag_number (source_of tokens tree))
