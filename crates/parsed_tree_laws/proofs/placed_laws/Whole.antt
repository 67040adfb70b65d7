-- What is initialised in the unit of a text is an object that the unit defines.
use Rattle.std.proofs.Common.{ℕ, [], refl}
use Rattle.c_lexer.specs.declared.Tokens.{Tokens}
use Rattle.c_grammar.specs.declared.trees.Tree.{Tree}
use Rattle.c_grammar.specs.Names.{no_names}
use Rattle.c_parser.specs.c_units.PassedOn.{begin}
use Rattle.c_parser.specs.c_units.Units.{IsUnit}
use Rattle.c_senses.specs.Names.{source_of, numbered}
use Rattle.parsed_tree_laws.specs.placed_laws.Placed.{UnitsAreFilled}
use Rattle.parsed_tree_laws.proofs.placed_laws.Climbing.{Grown}
use Rattle.parsed_tree_laws.proofs.placed_laws.Growing.{grown_read}
use Rattle.parsed_tree_laws.proofs.placed_laws.Filling.{right_filled}

grown : (tokens : Tokens) (unit : ℕ) (tree : Tree) (tag_number : ℕ → ℕ) → IsUnit tokens unit tree → Grown (numbered tag_number (source_of tokens tree))
grown tokens unit tree tag_number is = let read = is.0 in grown_read tokens tree tag_number (begin 0 no_names []) read.0 refl refl read.1 read.2

pub units_filled : UnitsAreFilled
units_filled tokens unit tree tag_number name u is right = right_filled (numbered tag_number (source_of tokens tree)) name u (grown tokens unit tree tag_number is) right
