pub use Rattle.core_node_laws.proofs.marked_trees.Nodes.{every_way, some_mark, node_found, Way, first_ways, one_of_all, free_at}
