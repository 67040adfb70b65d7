-- What other laws give is all that is asked.
use Rattle.core_tree.specs.declared.node.Unit.{Unit}
use Rattle.core_tree.specs.Typed.{trees_of}
use Rattle.link_model.specs.filled_units.Filled.{IsFilled}
use Rattle.valid_unit_laws.proofs.object_initialiser_laws.static_value_laws.built_filled.Filling.{built_are_filled}
use Rattle.declaration_laws.proofs.declared_type_laws.owner_laws.left_laws.Left.{lefts_stand}
use Rattle.declaration_laws.proofs.declared_type_laws.owner_laws.passed.definition_laws.parameter_lists.Whole.{parameters_listed}
use Rattle.declaration_laws.specs.declared_type_laws.owner_laws.Owners.{IsOwnable}
use Rattle.valid_unit_laws.proofs.object_initialiser_laws.internal_name_laws.internal_names.PassedOn.{further_known}
use Rattle.declaration_laws.proofs.declared_type_laws.owner_laws.Whole.{owners_built}
use Rattle.declaration_laws.proofs.declared_type_laws.owner_laws.list_laws.Whole.{lists_built}
use Rattle.valid_unit_laws.specs.object_initialiser_laws.owners_known.Known.{HasOwners, OwnersKnown}

ownable : (u : Unit) → HasOwners (trees_of u) → IsFilled u → IsOwnable u
ownable u h filled = record { rows = h.rows; owned = h.owned; bodied = h.bodied; fixed = h.fixed; filled = filled; forward = h.forward }

pub owners_known : OwnersKnown
owners_known tokens unit tree tag_number name u cut is built names h =
    let whole = ownable u h (built_are_filled tokens unit tree tag_number name u is built) in
    let lefts = lefts_stand tokens unit tree tag_number is in
    let listed = parameters_listed tokens unit tree tag_number cut is in
    let further = further_known tokens unit tree tag_number built.senses cut is built.are_senses built.whole in
    record {
      in_owner = owners_built tokens unit tree tag_number name u cut is built listed lefts names further whole;
      lists = lists_built tokens unit tree tag_number name u cut is built listed lefts names further whole;
    }
