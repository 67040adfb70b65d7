use Rattle.std.proofs.Common.{List, vec_len}
use Rattle.c_results.specs.declared.made.Made.{Made}
use Rattle.tree_reads.specs.declared.syntax.Syntax.{Syntax}
use Rattle.c_structures.specs.Listed.{AreLists}
use Rattle.c_structures.proofs.lists.MemberLists.take.Given as goal

-- what is left is kept
abbrev pub invariant-loop-last : goal.invariant-loop-last
invariant-loop-last l = (syntax : Syntax) (results : List Made) → AreLists syntax results l.initial.self → AreLists syntax results l.self

abbrev pub decreases-loop-last : goal.decreases-loop-last
decreases-loop-last l = vec_len l.self.open
