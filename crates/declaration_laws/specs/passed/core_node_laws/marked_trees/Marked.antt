pub use Rattle.core_node_laws.specs.marked_trees.Marked.{MarksOnly}
