-- The parts of a walk are named whole, the unit that is made of them is built, and so it is valid.
use Rattle.std.proofs.Common.{◌≡◌, ℕ, List, length, refl, sym, subst}
use Rattle.c_lexer.specs.declared.Tokens.{Tokens}
use Rattle.c_lexer.specs.Cut.{IsTokens}
use Rattle.c_grammar.specs.declared.trees.Tree.{Tree}
use Rattle.c_parser.specs.c_units.Units.{IsUnit}
use Rattle.core_tree.specs.declared.node.Unit.{Unit}
use Rattle.c_senses.specs.Tree.{Source}
use Rattle.c_senses.specs.Names.{source_of, numbered}
use Rattle.c_senses.specs.Rows.{AreSenses}
use Rattle.c_senses.specs.Right.{InitialisesOnce}
use Rattle.c_senses.specs.Sense.{Sense}
use Rattle.parsed_tree_laws.proofs.sense_laws.parsed_laws.InOrder.{children_first}
use Rattle.parsed_tree_laws.proofs.sense_laws.statement_laws.Grammar.{statements_parsed}
use Rattle.parsed_tree_laws.proofs.family_laws.Reading.{units_families}
use Rattle.parsed_tree_laws.proofs.nesting_laws.Nesting.{units_nest}
use Rattle.core_node_laws.specs.standing_laws.Standing.{IsGrown}
use Rattle.parsed_tree_laws.proofs.grown_parts.Reading.{units_bring}
use Rattle.declaration_laws.proofs.name_order.Ordered.{units_ordered}
use Rattle.declaration_laws.proofs.declared_type_laws.owner_laws.passed.definition_laws.own_initialisers.Standing.{initialisers_stand}
use Rattle.valid_unit_laws.proofs.object_initialiser_laws.internal_name_laws.initialised_rows.Owning.{linked_fit}
use Rattle.valid_unit_laws.proofs.built_valid.PassedOn.{internals_fit}
use Rattle.parsed_tree_laws.proofs.placed_laws.Climbing.{Grown}
use Rattle.valid_unit_laws.specs.object_initialiser_laws.internal_name_laws.initialised_rows.PassedOn.{TypesFit}
use Rattle.valid_unit_laws.proofs.object_initialiser_laws.internal_name_laws.initialised_rows.PassedOn.{types_fit, tree_grown}
use Rattle.core_node_laws.specs.built_unit_laws.tag_sizes.Sizes.{TagsSpecified}
use Rattle.valid_unit_laws.proofs.specified_types.Specified.{types_specified}
use Rattle.unit_finish.specs.declared.planted_nodes.planting.Planted.{Planted}
use Rattle.unit_finish.specs.planted_nodes.Planted.{IsPlanted}
use Rattle.unit_finish.specs.Complete.{IsNamedWhole, IsMadeOf, MakesUnits}
use Rattle.core_node_laws.specs.built_unit_laws.built_parts.Parts.{ArePut, IsPut}
use Rattle.core_node_laws.proofs.built_unit_laws.built_parts.Building.{parts_built}
use Rattle.valid_unit_laws.proofs.built_valid.Whole.{built_is_valid}
use Rattle.valid_unit_laws.specs.body_node_laws.known_initials.PassedOn.{AreParts as AreNamedParts}
use Rattle.valid_unit_laws.proofs.body_node_laws.known_initials.PassedOn.{parts_known}
use Rattle.valid_unit_laws.proofs.body_node_laws.known_names.Whole.{names_known}
use Rattle.valid_unit_laws.proofs.body_node_laws.known_initials.Whole.{initials_known}
use Rattle.valid_unit_laws.proofs.body_node_laws.raised_parts.Whole.{parts_once}
use Rattle.valid_unit_laws.specs.lowered_laws.Parts.{AreParts, declared_in}
use Rattle.valid_unit_laws.specs.lowered_laws.Complete.{TextsComplete}

module _ (tokens : Tokens) (unit : ℕ) (tree : Tree) (tag_number : ℕ → ℕ) (cut : IsTokens tokens.text.now tokens.list.items) (is : IsUnit tokens unit tree) where
  abbrev s : Source
  s = numbered tag_number (source_of tokens tree)

  fit : (senses : List Sense) → AreSenses s senses → length senses ≡ length s.nodes → TypesFit s senses
  fit senses are whole =
      let grown : IsGrown s = record {
        first = children_first tokens unit tree tag_number is;
        families = units_families tokens unit tree tag_number cut is;
        statements = statements_parsed tokens unit tree tag_number is;
        nested = units_nest tokens unit tree tag_number is;
      } in
      let at : Grown s = tree_grown tokens unit tree tag_number is in
      let bring = units_bring tokens unit tree tag_number is in
      let linked = linked_fit s senses are grown at bring (initialisers_stand tokens unit tree tag_number cut is) (internals_fit tokens unit tree tag_number senses cut is are whole) in
      types_fit s senses are grown at bring (units_ordered tokens unit tree tag_number cut is) linked

  -- the parts as they are named, and as a unit is put together of them
  module _ (name : List ℕ) (p : AreParts s) (planted : Planted) (are : IsPlanted p.kept.nodes.items (declared_in s p) planted) where
    abbrev named : AreNamedParts s
    named = record {
      senses = p.senses;
      walked = p.walked;
      keys = p.keys;
      listed = p.owned.0;
      names = p.names;
      kept = p.kept;
      planted = planted;
      ready = p.ready;
      made = p.made;
      owned = p.owned.1;
      stay = p.stay;
      are_planted = are;
    }

    whole : IsNamedWhole planted.nodes.items planted.list.items
    whole = parts_known tokens unit tree tag_number cut is named (record {
      unlinked = λ c d inside kind off. names_known tokens unit tree tag_number p.senses cut is p.made.are_senses p.made.whole c d inside kind off;
      initials = λ c d paths inside kind off. initials_known tokens unit tree tag_number p.senses cut is p.made.are_senses p.made.whole c d paths inside kind;
    })

    module _ (u : Unit) (made : IsMadeOf name s.unit p.walked.types p.keys planted.nodes.items planted.list.items u) where
      abbrev put : ArePut s name u
      put = record {
        senses = p.senses;
        walked = p.walked;
        keys = p.keys;
        names = p.names;
        kept = p.kept;
        list = declared_in s p;
        ready = p.ready;
        made = p.made;
        stay = p.stay;
        declared = refl;
        planted = planted;
        are_planted = are;
        names_whole = whole;
        is_made = made;
      }

      once : InitialisesOnce u
      once =
          parts_once tokens unit tree tag_number name u cut is put p.owned.0 p.owned.1 (fit p.senses p.made.are_senses p.made.whole)

      whole_put : IsPut s name u
      whole_put = record {
        senses = p.senses;
        walked = p.walked;
        keys = p.keys;
        names = p.names;
        kept = p.kept;
        list = declared_in s p;
        ready = p.ready;
        made = p.made;
        stay = p.stay;
        declared = refl;
        planted = planted;
        are_planted = are;
        names_whole = whole;
        is_made = made;
        initialises_once = once;
      }

      specified : TagsSpecified s u.types
      specified = subst (TagsSpecified s) (sym made.types_are) (types_specified s p.walked.types p.tag_types p.table p.terms p.made.tags.no_other)

pub texts_complete : TextsComplete
texts_complete tokens unit tree tag_number name bound cut is bind parts planted are =
    let whole_names = whole tokens unit tree tag_number cut is name parts planted are in
    let all : MakesUnits name (numbered tag_number (source_of tokens tree)).unit parts.walked.types parts.keys planted.nodes.items planted.list.items = record {
      names_whole = whole_names;
      initialises_once = once tokens unit tree tag_number cut is name parts planted are;
      valid = λ u made.
          let built = parts_built (numbered tag_number (source_of tokens tree)) name u (whole_put tokens unit tree tag_number cut is name parts planted are u made) in
          built_is_valid tokens unit tree tag_number name u bound cut is bind built (specified tokens unit tree tag_number cut is name parts planted are u made);
    } in
    all
