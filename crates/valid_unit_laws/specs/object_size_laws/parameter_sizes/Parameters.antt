-- What definitions say of the sizes of their parameters.
use Rattle.std.specs.Prelude.{ℕ, ◌≡◌, true, List, Some}
use Rattle.c_lexer.specs.declared.Tokens.{Tokens}
use Rattle.c_lexer.specs.Cut.{IsTokens}
use Rattle.c_types.specs.Trees.{Ctype}
use Rattle.c_grammar.specs.declared.trees.Tree.{Tree}
use Rattle.c_parser.specs.c_units.Units.{IsUnit}
use Rattle.core_tree.specs.declared.node.Unit.{Unit}
use Rattle.c_senses.specs.Names.{source_of, numbered}
use Rattle.c_senses.specs.Entities.{is_parameter, own_type}
use Rattle.c_senses.specs.Sense.{sense_in}
use Rattle.c_senses.specs.Right.{is_declaring, is_defined_parameter}
use Rattle.core_node_laws.specs.built_unit_laws.built_units.Built.{IsBuilt}
use Rattle.valid_unit_laws.specs.object_size_laws.object_sizes.Sized.{IsSizedType}

-- so it is in each unit that is built of a text
abbrev pub ParametersSized : Type 0
ParametersSized =
    (tokens : Tokens) (unit : ℕ) (tree : Tree) (tag_number : ℕ → ℕ) (name : List ℕ) (u : Unit)
    → IsTokens tokens.text.now tokens.list.items
    → IsUnit tokens unit tree
    → (b : IsBuilt (numbered tag_number (source_of tokens tree)) name u)
    → (leaf : ℕ) (t : Ctype)
    → is_declaring (numbered tag_number (source_of tokens tree)) b.senses leaf ≡ true
    → is_parameter (numbered tag_number (source_of tokens tree)) (sense_in b.senses) leaf ≡ true
    → is_defined_parameter (numbered tag_number (source_of tokens tree)) b.senses leaf ≡ true
    → own_type (numbered tag_number (source_of tokens tree)) (sense_in b.senses) leaf ≡ Some t
    → IsSizedType u.types t
