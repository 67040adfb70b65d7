pub use Rattle.core_node_laws.proofs.marked_trees.Beneath.{where_has, has_where, ascend_where, ascend_take, ascend_above, beneath_small}
