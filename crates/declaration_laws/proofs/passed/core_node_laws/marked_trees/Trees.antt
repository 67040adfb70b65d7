pub use Rattle.core_node_laws.proofs.marked_trees.Trees.{found_mark, stands_within, M, T, statements_of, opened_weighs, weighs, block_shape, no_marks, Shape, statement_shape, statement_child, take_has, one_of, few_marks}
