use Rattle.core_node_laws.proofs.marked_trees.Once.{marked_once}
use Rattle.core_node_laws.proofs.marked_trees.laws.marked_once.Goals as goal

pub returns : goal.returns
returns c = λ s senses numbering u grown counted made runs rows marked plain block b p core is sensed stands sole x y m n at_x at_y mark_x mark_y under_x under_y. marked_once s senses numbering u grown counted made runs rows marked plain block b p core is sensed stands sole x y m n at_x at_y mark_x mark_y under_x under_y
