pub use Rattle.core_node_laws.proofs.standing_laws.Climbing.{list_in, child_inside, parent_holds, in_list, parent_is, found_where}
