pub use Rattle.core_node_laws.proofs.standing_laws.Climbing.{in_list, found_where, parent_is, parent_holds, list_in}
