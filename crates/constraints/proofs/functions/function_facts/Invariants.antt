use Rattle.std.proofs.Common.{take}
use Rattle.std.specs.List.{AllZip, enumerate_from}
use Rattle.core_tree.specs.Typed.{trees_in}
use Rattle.obj_space.specs.View.{view_of}
use Rattle.constraints.proofs.ListLemmas.{FactAt}
use Rattle.constraints.proofs.functions.function_facts.Given as goal

abbrev pub invariant-loop-number : goal.invariant-loop-number
invariant-loop-number l = AllZip (FactAt (trees_in l.program) (view_of l.space)) (take l.number (enumerate_from 0 l.results.functions.items)) l.functions
