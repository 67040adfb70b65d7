-- What is built is made, of a tree that grew by the grammar.
use Rattle.std.proofs.Common.{ℕ, List, Option}
use Rattle.c_lexer.specs.declared.Tokens.{Tokens}
use Rattle.c_lexer.specs.Cut.{IsTokens}
use Rattle.c_types.specs.Trees.{Ctype}
use Rattle.c_grammar.specs.declared.trees.Tree.{Tree}
use Rattle.c_parser.specs.c_units.Units.{IsUnit}
use Rattle.core_tree.specs.declared.node.Unit.{Unit}
use Rattle.c_senses.specs.Names.{source_of, numbered}
use Rattle.c_senses.specs.Tree.{Source}
use Rattle.c_senses.specs.World.{World}
use Rattle.c_senses.specs.Sense.{Sense, IsRun, sense_in}
use Rattle.c_initialise.specs.passed.sense_laws.Senses.{SoundSense}
use Rattle.c_initialise.proofs.passed.sense_laws.parsed_laws.InOrder.{children_first}
use Rattle.c_initialise.proofs.passed.sense_laws.statement_laws.Grammar.{statements_parsed}
use Rattle.core_node_laws.proofs.passed.parsed_tree_laws.family_laws.Reading.{units_families}
use Rattle.core_node_laws.proofs.passed.parsed_tree_laws.nesting_laws.Nesting.{units_nest}
use Rattle.core_node_laws.specs.built_unit_laws.built_units.Built.{IsBuilt}
use Rattle.core_node_laws.specs.standing_laws.Standing.{IsGrown, IsMade, RunsOf, RunsInitialise}
use Rattle.core_node_laws.proofs.standing_laws.Whole.{statements_stand}
use Rattle.core_node_laws.proofs.built_unit_laws.parameter_bodies.Bare.{parameters_bare}
use Rattle.core_node_laws.specs.built_unit_laws.built_standing.Built.{StatementsBuilt, ParametersBuilt}

grown : (tokens : Tokens) (unit : ℕ) (tree : Tree) (tag_number : ℕ → ℕ) → IsTokens tokens.text.now tokens.list.items → IsUnit tokens unit tree → IsGrown (numbered tag_number (source_of tokens tree))
grown tokens unit tree tag_number cut is = record {
  first = children_first tokens unit tree tag_number is;
  families = units_families tokens unit tree tag_number cut is;
  statements = statements_parsed tokens unit tree tag_number is;
  nested = units_nest tokens unit tree tag_number is;
}

made : (s : Source) (name : List ℕ) (u : Unit) (built : IsBuilt s name u) → IsMade s built.senses built.numbering u
made s name u built = record {
  are_senses = built.are_senses;
  whole = built.whole;
  each_declared = built.each_declared;
  no_other_entity = built.no_other_entity;
  ready = built.ready;
  no_other_node = built.no_other_node;
}

runs_of : (w : World) (entities : ℕ → Option Ctype) (x : Sense) → SoundSense w entities x → RunsOf x
runs_of w entities (IsRun cores) h = h.1
runs_of w entities x h = tt

pub statements_built : StatementsBuilt
statements_built tokens unit tree tag_number name u cut is built w entities sound rows bodies n node at =
    let s : Source = numbered tag_number (source_of tokens tree) in
    let runs : RunsInitialise built.senses = record { each = λ i. runs_of w entities (sense_in built.senses i) (sound i) } in
    statements_stand s built.senses built.numbering u (grown tokens unit tree tag_number cut is) (made s name u built) runs rows bodies n node at

pub parameters_built : ParametersBuilt
parameters_built tokens unit tree tag_number name u cut is built e entity at storage =
    let s : Source = numbered tag_number (source_of tokens tree) in
    parameters_bare s built.senses built.numbering u (grown tokens unit tree tag_number cut is) (made s name u built) e entity at storage
