use Rattle.std.proofs.Common.{◌≡◌, ◌≤◌, None, length, drop}
use Rattle.c_senses.specs.Tree.{last_where}
use Rattle.tree_reads.specs.Sources.{source_read}
use Rattle.name_places.specs.Statics.{is_declarator_before}
use Rattle.name_places.proofs.statics.declarator_before.Given as goal

-- none of what has been gone through stands before
abbrev pub invariant-loop-left : goal.invariant-loop-left
invariant-loop-left l = record {
  inside : l.left ≤ length l.list;
  none : last_where (is_declarator_before (source_read l.syntax) l.initialiser) (drop l.left l.list) ≡ None;
}

abbrev pub decreases-loop-left : goal.decreases-loop-left
decreases-loop-left l = l.left
