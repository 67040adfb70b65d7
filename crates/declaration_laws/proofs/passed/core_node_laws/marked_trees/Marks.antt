pub use Rattle.core_node_laws.proofs.marked_trees.Marks.{number, marking, marks, marks_of, Weight, IsPlain, goes_in, marks_all, total, reach, Exact, leaf_exact, first_or, weight_of}
