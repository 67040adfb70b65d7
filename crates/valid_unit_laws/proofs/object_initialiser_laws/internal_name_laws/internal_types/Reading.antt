-- The types of the entities of internal names, in the units that are read.
use Rattle.std.proofs.Common.{◌≡◌, ℕ, true, List, length}
use Rattle.c_lexer.specs.declared.Tokens.{Tokens}
use Rattle.c_lexer.specs.Cut.{IsTokens}
use Rattle.c_grammar.specs.declared.trees.Tree.{Tree}
use Rattle.c_parser.specs.c_units.Units.{IsUnit}
use Rattle.c_senses.specs.Entities.{entity_of, is_internal, is_defined, own_type}
use Rattle.c_senses.specs.Right.{representative}
use Rattle.c_senses.specs.Sense.{Sense, sense_in}
use Rattle.c_senses.specs.Rows.{AreSenses}
use Rattle.declaration_laws.specs.declared_type_laws.passed.built_unit_laws.built_rows.Rows.{types_declared}
use Rattle.c_senses.specs.Tree.{Source}
use Rattle.c_senses.specs.Names.{source_of, numbered}
use Rattle.declaration_laws.proofs.function_laws.passed.definition_laws.linkage_laws.Reading.{tree_is}
use Rattle.declaration_laws.proofs.function_laws.passed.definition_laws.function_definitions.Reading.{definitions_declare}
use Rattle.declaration_laws.proofs.function_laws.function_bodies.Reading.{parts_of, declarators_of}
use Rattle.declaration_laws.proofs.function_laws.body_returns.Built.{grown}
use Rattle.parsed_tree_laws.proofs.grown_parts.Reading.{units_bring}
use Rattle.declaration_laws.proofs.function_laws.passed.definition_laws.initialiser_laws.Found.{initialisers_found}
use Rattle.declaration_laws.proofs.function_laws.passed.definition_laws.own_initialisers.Standing.{initialisers_stand}
use Rattle.valid_unit_laws.proofs.object_initialiser_laws.internal_name_laws.initialised_rows.Owning.{initialiser_owned}
use Rattle.declaration_laws.proofs.declared_type_laws.agreed_internals.PassedOn.{declared_once}
use Rattle.declaration_laws.proofs.declared_type_laws.agreed_internals.Agreeing.{internals_agree}
use Rattle.valid_unit_laws.specs.object_initialiser_laws.internal_name_laws.internal_types.Internal.{EntityTypesKnown, InitialisedInternals}
use Rattle.valid_unit_laws.proofs.object_initialiser_laws.internal_name_laws.internal_types.Functions.{function_name}
use Rattle.valid_unit_laws.proofs.object_initialiser_laws.internal_name_laws.internal_types.Entities.{entity_typed, definition_typed}
use Rattle.valid_unit_laws.proofs.object_initialiser_laws.internal_name_laws.internal_types.Initials.{internal_initialised}

pub entity_types_known : EntityTypesKnown
entity_types_known tokens unit tree tag_number senses cut is are whole leaf internal =
    let s : Source = numbered tag_number (source_of tokens tree) in
    entity_typed s senses (declared_once tokens unit tree tag_number senses cut is are whole) (internals_agree tokens unit tree tag_number senses cut is are whole)
    (λ k linked defined.
    function_name s (tree_is tokens unit tree is tag_number) senses are whole (parts_of tokens unit tree tag_number is) (λ q h. definitions_declare tokens unit tree tag_number senses q cut is are whole h)
    (declarators_of tokens unit tree tag_number senses cut is are whole) k linked defined) leaf internal

pub internals_initialised : InitialisedInternals
internals_initialised tokens unit tree tag_number senses cut is are whole i lt p d leaf t actions init parent rest by_it name type placed internal =
    let s : Source = numbered tag_number (source_of tokens tree) in
    let tree_of = tree_is tokens unit tree is tag_number in
    internal_initialised s tree_of.grown (initialisers_found tokens unit tree tag_number cut is) senses are whole (declared_once tokens unit tree tag_number senses cut is are whole) (internals_agree tokens unit tree tag_number senses cut is are whole)
    (λ k h. entity_types_known tokens unit tree tag_number senses cut is are whole k h) i p d leaf t actions lt init parent rest by_it name type placed internal
    (initialiser_owned s senses are (grown tokens unit tree tag_number cut is) tree_of.grown (units_bring tokens unit tree tag_number is) (initialisers_stand tokens unit tree tag_number cut is) i lt p d leaf init parent rest by_it name)

-- an internal function that is known by its definition has the type that this gives it
pub internals_typed : (tokens : Tokens) (unit : ℕ) (tree : Tree) (tag_number : ℕ → ℕ) (senses : List Sense) → IsTokens tokens.text.now tokens.list.items → IsUnit tokens unit tree → AreSenses (numbered tag_number (source_of tokens tree)) senses
    → length senses ≡ length (numbered tag_number (source_of tokens tree)).nodes → (leaf : ℕ) → is_internal (numbered tag_number (source_of tokens tree)) (sense_in senses) leaf ≡ true
    → representative (numbered tag_number (source_of tokens tree)) senses (entity_of (numbered tag_number (source_of tokens tree)) (sense_in senses) leaf) ≡ leaf → is_defined (numbered tag_number (source_of tokens tree)) (sense_in senses) leaf ≡ true
    → types_declared (numbered tag_number (source_of tokens tree)) senses (entity_of (numbered tag_number (source_of tokens tree)) (sense_in senses) leaf) ≡ own_type (numbered tag_number (source_of tokens tree)) (sense_in senses) leaf
internals_typed tokens unit tree tag_number senses cut is are whole leaf internal represents defined =
    let s : Source = numbered tag_number (source_of tokens tree) in
    definition_typed s senses (declared_once tokens unit tree tag_number senses cut is are whole) (internals_agree tokens unit tree tag_number senses cut is are whole)
    (λ k linked has.
    function_name s (tree_is tokens unit tree is tag_number) senses are whole (parts_of tokens unit tree tag_number is) (λ q h. definitions_declare tokens unit tree tag_number senses q cut is are whole h)
    (declarators_of tokens unit tree tag_number senses cut is are whole) k linked has) leaf internal represents defined
