-- What is built from a text returns what its functions give.
use Rattle.std.proofs.Common.{◌≡◌, ℕ, List, [], Option, Some, None, refl}
use Rattle.std.specs.Prelude.{IfSome}
use Rattle.c_lexer.specs.declared.Tokens.{Tokens}
use Rattle.c_lexer.specs.Cut.{IsTokens}
use Rattle.c_types.specs.Trees.{Ctype}
use Rattle.c_grammar.specs.declared.trees.Tree.{Tree}
use Rattle.c_grammar.specs.Names.{no_names}
use Rattle.c_parser.specs.Parse.{begin}
use Rattle.c_parser.specs.c_units.Units.{IsUnit}
use Rattle.core_tree.specs.declared.node.Unit.{Unit}
use Rattle.core_tree.specs.Typed.{trees_of}
use Rattle.core_tree.specs.Range.{Under}
use Rattle.c_senses.specs.Names.{source_of, numbered}
use Rattle.c_senses.specs.Tree.{Source}
use Rattle.c_senses.specs.World.{World}
use Rattle.c_senses.specs.Sense.{Sense, IsRun, sense_in}
use Rattle.parsed_tree_laws.specs.sense_laws.parsed_laws.PassedOn.{SoundSense}
use Rattle.parsed_tree_laws.proofs.sense_laws.parsed_laws.InOrder.{children_first}
use Rattle.parsed_tree_laws.proofs.sense_laws.statement_laws.Grammar.{statements_parsed}
use Rattle.parsed_tree_laws.proofs.family_laws.Reading.{units_families}
use Rattle.parsed_tree_laws.proofs.nesting_laws.Nesting.{units_nest}
use Rattle.parsed_tree_laws.proofs.placed_laws.Climbing.{Grown}
use Rattle.parsed_tree_laws.proofs.placed_laws.Growing.{grown_read}
use Rattle.parsed_tree_laws.proofs.counted_parts.Read.{parts_are_counted}
use Rattle.declaration_laws.specs.definition_laws.passed.built_unit_laws.built_units.Built.{IsBuilt}
use Rattle.declaration_laws.specs.passed.core_node_laws.standing_laws.Standing.{IsGrown, IsMade, RunsOf, RunsInitialise}
use Rattle.declaration_laws.specs.function_laws.body_returns.Returns.{IsReturnOf, ReturnsFit}
use Rattle.declaration_laws.proofs.function_laws.body_returns.Returning.{returns}

pub grown : (tokens : Tokens) (unit : ℕ) (tree : Tree) (tag_number : ℕ → ℕ) → IsTokens tokens.text.now tokens.list.items → IsUnit tokens unit tree → IsGrown (numbered tag_number (source_of tokens tree))
grown tokens unit tree tag_number cut is = record {
  first = children_first tokens unit tree tag_number is;
  families = units_families tokens unit tree tag_number cut is;
  statements = statements_parsed tokens unit tree tag_number is;
  nested = units_nest tokens unit tree tag_number is;
}

pub made : (s : Source) (name : List ℕ) (u : Unit) (built : IsBuilt s name u) → IsMade s built.senses built.numbering u
made s name u built = record {
  are_senses = built.are_senses;
  whole = built.whole;
  each_declared = built.each_declared;
  no_other_entity = built.no_other_entity;
  ready = built.ready;
  no_other_node = built.no_other_node;
}

pub placed : (tokens : Tokens) (unit : ℕ) (tree : Tree) (tag_number : ℕ → ℕ) → IsUnit tokens unit tree → Grown (numbered tag_number (source_of tokens tree))
placed tokens unit tree tag_number is = let read = is.0 in grown_read tokens tree tag_number (begin 0 no_names []) read.0 refl refl read.1 read.2

runs_of : (w : World) (entities : ℕ → Option Ctype) (x : Sense) → SoundSense w entities x → RunsOf x
runs_of w entities (IsRun cores) h = h.1
runs_of w entities x h = tt

pub returns_fit : ReturnsFit
returns_fit tokens unit tree tag_number name u cut is built w entities sound rows bodied n node at e entity there storage =
    let s : Source = numbered tag_number (source_of tokens tree) in
    let runs : RunsInitialise built.senses = record { each = λ i. runs_of w entities (sense_in built.senses i) (sound i) } in
    by s runs entity.body refl
  where
    by : (s : Source) → RunsInitialise built.senses → (o : Option ℕ) → entity.body ≡ o → IfSome o (λ b. Under (trees_of u) b n → IsReturnOf (trees_of u) entity node.kind node.children)
    by s runs None body = tt
    by s runs (Some b) body = λ under.
        returns (numbered tag_number (source_of tokens tree)) built.senses built.numbering u (grown tokens unit tree tag_number cut is) (made (numbered tag_number (source_of tokens tree)) name u built) (placed tokens unit tree tag_number is)
        (parts_are_counted tokens unit tree tag_number is) runs rows bodied e entity b there storage body n node at under
