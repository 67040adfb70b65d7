-- Compound literals outside of blocks in units that are built of texts.
use Rattle.c_senses.specs.Names.{source_of, numbered}
use Rattle.valid_unit_laws.proofs.object_initialiser_laws.static_value_laws.fixed_laws.PassedOn.{initialisers_found}
use Rattle.parsed_tree_laws.proofs.grown_parts.Reading.{units_bring}
use Rattle.valid_unit_laws.proofs.object_initialiser_laws.static_value_laws.fixed_laws.PassedOn.{grown, placed}
use Rattle.declaration_laws.proofs.declared_type_laws.passed.owner_laws.left_laws.Left.{lefts_stand}
use Rattle.declaration_laws.proofs.function_laws.passed.definition_laws.linkage_laws.Linked.{stands_linked}
use Rattle.declaration_laws.proofs.function_laws.passed.definition_laws.linkage_laws.Reading.{tree_is}
use Rattle.valid_unit_laws.specs.object_initialiser_laws.static_value_laws.static_literals.Static.{LiteralsBuilt}
use Rattle.valid_unit_laws.proofs.object_initialiser_laws.static_value_laws.static_literals.Kept.{literals_are}

pub literals_built : LiteralsBuilt
literals_built tokens unit tree tag_number name u cut is b =
    let s = numbered tag_number (source_of tokens tree) in
    let t = tree_is tokens unit tree is tag_number in
    literals_are s b.senses b.are_senses b.whole (grown tokens unit tree tag_number cut is) (placed tokens unit tree tag_number is) (units_bring tokens unit tree tag_number is) (initialisers_found tokens unit tree tag_number cut is) t
    (λ leaf linked. stands_linked s t b.senses b.are_senses b.whole leaf linked) (λ i declaration. t.defined i declaration) (lefts_stand tokens unit tree tag_number is)
