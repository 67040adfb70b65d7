pub use Rattle.core_node_laws.proofs.built_unit_laws.parameter_bodies.PassedOn.{in_list, list_in, child_inside, parent_is, W, F, row_there, same_given, found_part, Above, above}
