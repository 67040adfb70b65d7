-- That whatever unit is made of the parts of a text is valid.
use Rattle.std.specs.Prelude.{ℕ, List}
use Rattle.c_lexer.specs.declared.Tokens.{Tokens}
use Rattle.c_lexer.specs.Cut.{IsTokens}
use Rattle.c_grammar.specs.declared.trees.Tree.{Tree}
use Rattle.c_parser.specs.c_units.Units.{IsUnit}
use Rattle.c_scope.specs.declared.resolving.Bound.{Bound}
use Rattle.c_scope.specs.Resolves.{IsBound}
use Rattle.c_senses.specs.Tree.{Source}
use Rattle.c_senses.specs.Names.{source_of, numbered}
use Rattle.unit_finish.specs.Complete.{AlwaysCompletes}
use Rattle.valid_unit_laws.specs.lowered_laws.Parts.{AreParts, declared_in}

-- whatever unit is made under a name of the parts of the source is valid, and each Initialise there is its entity's
-- body
abbrev pub PartsComplete : Source → List ℕ → Type 0
PartsComplete s name =
    (parts : AreParts s)
    → AlwaysCompletes name s.unit parts.walked.types parts.keys parts.kept.nodes.items (declared_in s parts)

-- so it is of each text that is cut into tokens, read and bound, whatever numbers its tags have
abbrev pub TextsComplete : Type 0
TextsComplete =
    (tokens : Tokens) (unit : ℕ) (tree : Tree) (tag_number : ℕ → ℕ) (name : List ℕ) (bound : Bound)
    → IsTokens tokens.text.now tokens.list.items
    → IsUnit tokens unit tree
    → IsBound tokens tree bound
    → PartsComplete (numbered tag_number (source_of tokens tree)) name
