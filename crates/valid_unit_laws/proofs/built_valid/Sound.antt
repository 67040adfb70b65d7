-- The senses of a text that is cut and read are sound.
use Rattle.std.proofs.Common.{◌≡◌, ℕ, List, Option, length}
use Rattle.c_lexer.specs.declared.Tokens.{Tokens}
use Rattle.c_lexer.specs.Cut.{IsTokens}
use Rattle.c_types.specs.Trees.{Ctype}
use Rattle.c_grammar.specs.declared.trees.Tree.{Tree}
use Rattle.c_parser.specs.c_units.Units.{IsUnit}
use Rattle.c_senses.specs.Names.{source_of, numbered}
use Rattle.c_senses.specs.Tree.{Source}
use Rattle.c_senses.specs.Sense.{Sense, sense_in}
use Rattle.c_senses.specs.Rows.{AreSenses, world_at}
use Rattle.parsed_tree_laws.specs.sense_laws.Senses.{SoundSense}
use Rattle.parsed_tree_laws.proofs.sense_laws.All.{asked_sound}
use Rattle.core_node_laws.specs.built_unit_laws.align_laws.Aligns.{AskedElseFit}
use Rattle.core_node_laws.proofs.built_unit_laws.align_laws.Fitting.{asked_aligns_fit}
use Rattle.parsed_tree_laws.proofs.sense_laws.parsed_laws.InOrder.{children_first}
use Rattle.parsed_tree_laws.proofs.sense_laws.parsed_laws.Constants.{constants_fit}
use Rattle.parsed_tree_laws.proofs.sense_laws.statement_laws.Grammar.{statements_parsed}
use Rattle.parsed_tree_laws.proofs.family_laws.Reading.{units_families}
use Rattle.parsed_tree_laws.proofs.nesting_laws.Nesting.{units_nest}
use Rattle.core_node_laws.specs.standing_laws.Standing.{IsGrown}
use Rattle.parsed_tree_laws.proofs.grown_parts.Reading.{units_bring}
use Rattle.valid_unit_laws.specs.object_initialiser_laws.internal_name_laws.text_rows.Texts.{TypesFit}
use Rattle.valid_unit_laws.proofs.object_initialiser_laws.internal_name_laws.text_rows.Fitting.{asked_fit}
use Rattle.valid_unit_laws.proofs.object_initialiser_laws.internal_name_laws.text_rows.Linked.{types_fit, tree_grown}
use Rattle.declaration_laws.proofs.name_order.Ordered.{units_ordered}
use Rattle.core_node_laws.specs.built_unit_laws.built_rows.Rows.{types_declared}
use Rattle.declaration_laws.proofs.declared_type_laws.owner_laws.passed.definition_laws.own_initialisers.Standing.{initialisers_stand}
use Rattle.valid_unit_laws.specs.object_size_laws.passed.object_initialiser_laws.bodies_fit.PassedOn.{InternalFit}
use Rattle.valid_unit_laws.proofs.object_initialiser_laws.internal_name_laws.internal_names.Reading.{internals_fit}
use Rattle.valid_unit_laws.proofs.object_size_laws.passed.object_initialiser_laws.bodies_fit.PassedOn.{linked_fit}
use Rattle.parsed_tree_laws.proofs.placed_laws.Climbing.{Grown}

module _
    (tokens : Tokens) (unit : ℕ) (tree : Tree) (tag_number : ℕ → ℕ) (senses : List Sense) (cut : IsTokens tokens.text.now tokens.list.items) (is : IsUnit tokens unit tree) (are : AreSenses (numbered tag_number (source_of tokens tree)) senses)
    (whole : length senses ≡ length (numbered tag_number (source_of tokens tree)).nodes)
  where
    abbrev s : Source
    s = numbered tag_number (source_of tokens tree)

    abbrev types : ℕ → Option Ctype
    types = types_declared s senses

    pub senses_grown : IsGrown s
    senses_grown = record {
      first = children_first tokens unit tree tag_number is;
      families = units_families tokens unit tree tag_number cut is;
      statements = statements_parsed tokens unit tree tag_number is;
      nested = units_nest tokens unit tree tag_number is;
    }

    pub senses_internal : InternalFit s senses
    senses_internal = internals_fit tokens unit tree tag_number senses cut is are whole

    fit : TypesFit s senses
    fit =
        let at : Grown s = tree_grown tokens unit tree tag_number is in
        let linked = linked_fit s senses are senses_grown at (units_bring tokens unit tree tag_number is) (initialisers_stand tokens unit tree tag_number cut is) senses_internal in
        types_fit s senses are senses_grown at (units_bring tokens unit tree tag_number is) (units_ordered tokens unit tree tag_number cut is) linked

    pub senses_asked : AskedElseFit types s senses
    senses_asked = asked_fit s senses are senses_grown (units_bring tokens unit tree tag_number is) fit

    pub senses_sound : (i : ℕ) → SoundSense (world_at s senses (length senses)) types (sense_in senses i)
    senses_sound i =
        let fit = asked_aligns_fit types s senses are senses_grown.first (constants_fit tokens tree tag_number cut) senses_grown.statements senses_asked in
        let both = asked_sound types s senses are senses_grown.first (constants_fit tokens tree tag_number cut) senses_grown.statements fit i in both.0
