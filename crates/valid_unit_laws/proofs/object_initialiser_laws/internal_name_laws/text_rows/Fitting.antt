-- What rows ask, where names fit.
use Rattle.std.proofs.Common.{◌≡◌, ℕ, take, List, Option, Some, refl}
use Rattle.c_lexer.specs.declared.Tokens.{Tokens}
use Rattle.c_lexer.specs.Cut.{IsTokens}
use Rattle.c_types.specs.Trees.{Ctype}
use Rattle.c_grammar.specs.declared.trees.Tree.{Tree}
use Rattle.c_parser.specs.c_units.Units.{IsUnit}
use Rattle.c_inits.specs.Made.{shape_for}
use Rattle.c_inits.specs.Initial.{Action, Outcome, Places, NoPlace}
use Rattle.c_inits.specs.View as view
use Rattle.c_senses.specs.Tree.{Source}
use Rattle.c_senses.specs.Names.{source_of, numbered}
use Rattle.c_senses.specs.Given.{Given, Fits, Refuses}
use Rattle.c_senses.specs.World.{World}
use Rattle.c_senses.specs.Entities.{with_length, length_seen, entity_of}
use Rattle.c_senses.specs.Initialised.{new_length, most_elements, seen, outcome_of}
use Rattle.c_senses.specs.Sense.{Sense, sense_in}
use Rattle.c_senses.specs.Rows.{AreSenses, world_at}
use Rattle.parsed_tree_laws.specs.sense_laws.Sound.{Gives}
use Rattle.parsed_tree_laws.specs.sense_laws.Senses.{ConstantsFit}
use Rattle.parsed_tree_laws.specs.sense_laws.Asked.{OutcomeStands}
use Rattle.declaration_laws.specs.declared_type_laws.passed.built_unit_laws.align_laws.Aligns.{AskedElseFit}
use Rattle.parsed_tree_laws.proofs.sense_laws.parsed_laws.InOrder.{children_first}
use Rattle.parsed_tree_laws.proofs.sense_laws.parsed_laws.Constants.{constants_fit}
use Rattle.parsed_tree_laws.proofs.sense_laws.statement_laws.Grammar.{statements_parsed}
use Rattle.parsed_tree_laws.proofs.family_laws.Reading.{units_families}
use Rattle.parsed_tree_laws.proofs.nesting_laws.Nesting.{units_nest}
use Rattle.declaration_laws.specs.declared_type_laws.passed.built_unit_laws.literal_types.PassedOn.{IsGrown}
use Rattle.parsed_tree_laws.specs.grown_parts.Parts.{IsBrought}
use Rattle.parsed_tree_laws.proofs.grown_parts.Reading.{units_bring}
use Rattle.declaration_laws.proofs.declared_type_laws.passed.built_unit_laws.literal_types.PassedOn.{declarations_run}
use Rattle.c_initialise.specs.initial_paths.Within.{PathsStand}
use Rattle.c_initialise.proofs.initial_paths.Standing.{initials_within}
use Rattle.declaration_laws.proofs.declared_type_laws.passed.built_unit_laws.literal_types.Fitting.{literals_fit}
use Rattle.declaration_laws.specs.declared_type_laws.passed.built_unit_laws.literal_types.PassedOn.{types_declared}
use Rattle.declaration_laws.proofs.declared_type_laws.passed.built_unit_laws.literal_types.PassedOn.{rows_asked}
use Rattle.valid_unit_laws.specs.object_initialiser_laws.internal_name_laws.text_rows.Texts.{TypesFit, RowsOfTexts}

pub grown : (tokens : Tokens) (unit : ℕ) (tree : Tree) (tag_number : ℕ → ℕ) → IsTokens tokens.text.now tokens.list.items → IsUnit tokens unit tree → IsGrown (numbered tag_number (source_of tokens tree))
grown tokens unit tree tag_number cut is = record {
  first = children_first tokens unit tree tag_number is;
  families = units_families tokens unit tree tag_number cut is;
  statements = statements_parsed tokens unit tree tag_number is;
  nested = units_nest tokens unit tree tag_number is;
}

-- where each outcome gives its object a type, its values go within it
given_stands : (w : World) (entities : ℕ → Option Ctype) (s : Source) (sense : ℕ → Sense) (entity : ℕ) (t : Ctype) (g : Given Outcome) → Gives (PathsStand w s sense t) g
    → ((actions : List Action) → g ≡ Fits (Places actions) → entities entity ≡ Some (with_length (new_length w s sense t actions) t)) → Gives (OutcomeStands w entities s sense entity t) g
given_stands w entities s sense entity t (Refuses kind node) h typed = tt
given_stands w entities s sense entity t (Fits (NoPlace node)) h typed = tt
given_stands w entities s sense entity t (Fits (Places actions)) h typed = (typed actions refl, h)

pub asked_fit : (s : Source) (senses : List Sense) → AreSenses s senses → IsGrown s → IsBrought s → TypesFit s senses → AskedElseFit (types_declared s senses) s senses
asked_fit s senses are grown brought fit = record {
  names = fit.names;
  further = fit.further;
  runs = λ i lt d is. declarations_run s senses are grown brought i lt d is;
  initials = λ i lt.
      let w : World = world_at s (take i senses) i in
      let f : ℕ → Sense = sense_in (take i senses) in
      record {
        objects = λ p declarator leaf t is parent rest by name type.
            let u : Ctype = with_length (length_seen s f leaf) t in
            given_stands w (types_declared s senses) s f (entity_of s f leaf) u (outcome_of w s f i (shape_for w.fillable most_elements u) (view.init_at (seen w s f) s.nodes i))
            (initials_within s (take i senses) i f i u (view.init_at (seen w s f) s.nodes i)) (λ actions e. fit.objects i lt p declarator leaf t actions is parent rest by name type e);
        literals = λ p name t is parent over named type. literals_fit s senses are grown brought i lt p name t is parent over named type;
      };
}

pub rows_of_texts : RowsOfTexts
rows_of_texts tokens unit tree tag_number name u cut is b fit =
    let s : Source = numbered tag_number (source_of tokens tree) in
    let grew : IsGrown s = grown tokens unit tree tag_number cut is in
    let constants : ConstantsFit s = constants_fit tokens tree tag_number cut in
    rows_asked s name u b grew.first constants grew.statements (asked_fit s b.senses b.are_senses grew (units_bring tokens unit tree tag_number is) fit)
