-- Each node fits the function in whose body it stands.
use Rattle.std.proofs.Common.{◌≡◌, ℕ, List, Option, Some, None, refl}
use Rattle.std.specs.Prelude.{IfSome}
use Rattle.c_lexer.specs.declared.Tokens.{Tokens}
use Rattle.c_lexer.specs.Cut.{IsTokens}
use Rattle.c_types.specs.Trees.{Ctype}
use Rattle.c_grammar.specs.declared.trees.Tree.{Tree}
use Rattle.c_parser.specs.c_units.Units.{IsUnit}
use Rattle.core_tree.specs.declared.node.Unit.{Unit}
use Rattle.core_tree.specs.declared.node.Entity.{Entity}
use Rattle.core_tree.specs.declared.node.NodeKind.{NodeKind}
use Rattle.core_tree.specs.declared.node.NodeKind.TheVariants.{Goto, Return}
use Rattle.core_tree.specs.Typed.{trees_of}
use Rattle.core_tree.specs.Range.{Under}
use Rattle.core_tree.specs.Valid.{FitsBody}
use Rattle.c_senses.specs.Names.{source_of, numbered}
use Rattle.c_senses.specs.Tree.{Source}
use Rattle.c_senses.specs.World.{World}
use Rattle.c_senses.specs.Sense.{Sense, IsRun, sense_in}
use Rattle.parsed_tree_laws.specs.sense_laws.Senses.{SoundSense}
use Rattle.parsed_tree_laws.proofs.sense_laws.parsed_laws.InOrder.{children_first}
use Rattle.parsed_tree_laws.proofs.sense_laws.statement_laws.Grammar.{statements_parsed}
use Rattle.parsed_tree_laws.proofs.family_laws.Reading.{units_families}
use Rattle.parsed_tree_laws.proofs.nesting_laws.Nesting.{units_nest}
use Rattle.parsed_tree_laws.proofs.counted_parts.Read.{parts_are_counted}
use Rattle.parsed_tree_laws.proofs.statement_shapes.Rows.{statements_shaped}
use Rattle.declaration_laws.proofs.label_names.Binding.{labels_bound}
use Rattle.declaration_laws.specs.function_laws.body_returns.Returns.{IsReturnOf}
use Rattle.declaration_laws.proofs.function_laws.body_returns.Built.{returns_fit}
use Rattle.declaration_laws.specs.definition_laws.passed.built_unit_laws.built_units.Built.{IsBuilt}
use Rattle.declaration_laws.specs.passed.core_node_laws.standing_laws.Standing.{IsGrown, IsMade, RunsOf, RunsInitialise}
use Rattle.declaration_laws.proofs.passed.core_node_laws.standing_laws.Bodies.{function_block}
use Rattle.declaration_laws.specs.function_laws.Functions.{HasLabel, GotosFit, FunctionsFit}
use Rattle.declaration_laws.proofs.function_laws.Gotos.{goto_there, label_once}

grown : (tokens : Tokens) (unit : ℕ) (tree : Tree) (tag_number : ℕ → ℕ) → IsTokens tokens.text.now tokens.list.items → IsUnit tokens unit tree → IsGrown (numbered tag_number (source_of tokens tree))
grown tokens unit tree tag_number cut is = record {
  first = children_first tokens unit tree tag_number is;
  families = units_families tokens unit tree tag_number cut is;
  statements = statements_parsed tokens unit tree tag_number is;
  nested = units_nest tokens unit tree tag_number is;
}

made : (s : Source) (name : List ℕ) (u : Unit) (built : IsBuilt s name u) → IsMade s built.senses built.numbering u
made s name u built = record {
  are_senses = built.are_senses;
  whole = built.whole;
  each_declared = built.each_declared;
  no_other_entity = built.no_other_entity;
  ready = built.ready;
  no_other_node = built.no_other_node;
}

runs_of : (w : World) (entities : ℕ → Option Ctype) (x : Sense) → SoundSense w entities x → RunsOf x
runs_of w entities (IsRun cores) h = h.1
runs_of w entities x h = tt

pub gotos_fit : GotosFit
gotos_fit tokens unit tree tag_number name u bound cut is bind built w entities sound rows e b entity there storage body n node at up =
    let s : Source = numbered tag_number (source_of tokens tree) in
    let runs : RunsInitialise built.senses = record { each = λ i. runs_of w entities (sense_in built.senses i) (sound i) } in
    let grows = grown tokens unit tree tag_number cut is in
    let makes = made s name u built in
    let block = function_block s built.senses built.numbering u grows makes e entity b there storage body in
    let counted = parts_are_counted tokens unit tree tag_number is in
    let shaped = statements_shaped tokens unit tree tag_number is in
    let labels = labels_bound tokens unit tree tag_number bound cut is bind in
    by node.kind refl
    (λ label kind. label_once s built.senses built.numbering u grows makes counted runs shaped labels rows b block label (goto_there s built.senses built.numbering u grows makes counted runs shaped labels rows b block n node label at kind up))
  where
    by : (kind : NodeKind) → node.kind ≡ kind → ((label : List ℕ) → node.kind ≡ Goto label → HasLabel (trees_of u) b (Goto label)) → HasLabel (trees_of u) b kind
    by (Goto label) kind own = own label kind
    by kind same own = tt

pub functions_fit : FunctionsFit
functions_fit tokens unit tree tag_number name u bound cut is bind built w entities sound rows bodied n node at = record {
  each = λ e entity there. record {
    fits = λ storage.
        by entity.body node.kind (λ b body up. gotos_fit tokens unit tree tag_number name u bound cut is bind built w entities sound rows e b entity there storage body n node at up)
        entity (returns_fit tokens unit tree tag_number name u cut is built w entities sound rows bodied n node at e entity there storage);
  };
}
  where
    fits : (kind : NodeKind) (b : ℕ) (entity : Entity) → HasLabel (trees_of u) b kind → IsReturnOf (trees_of u) entity kind node.children → FitsBody (trees_of u) entity b kind node.children
    fits (Goto label) b entity has returns = has
    fits Return b entity has returns = returns
    fits kind b entity has returns = tt

    by : (o : Option ℕ) (kind : NodeKind) → ((b : ℕ) → o ≡ Some b → Under (trees_of u) b n → HasLabel (trees_of u) b kind) → (entity : Entity) → IfSome o (λ b. Under (trees_of u) b n → IsReturnOf (trees_of u) entity kind node.children)
        → IfSome o (λ b. Under (trees_of u) b n → FitsBody (trees_of u) entity b kind node.children)
    by None kind labels entity returns = tt
    by (Some b) kind labels entity returns = λ up. fits kind b entity (labels b refl up) (returns up)
