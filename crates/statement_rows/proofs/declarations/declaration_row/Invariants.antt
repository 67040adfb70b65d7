use Rattle.std.proofs.Common.{◌≡◌, drop}
use Rattle.core_tree.specs.declared.node.Unit.{Unit}
use Rattle.c_senses.specs.Tree.{Source}
use Rattle.c_senses.specs.World.{World}
use Rattle.c_senses.specs.Sense.{sense_in}
use Rattle.c_senses.specs.Statements.{run_in}
use Rattle.c_results.specs.Standing.{senses_made}
use Rattle.statement_rows.proofs.declarations.declaration_row.Given as goal

-- what runs is what the nodes that are left run
abbrev pub invariant-loop-node : goal.invariant-loop-node
invariant-loop-node l = (u : Unit) (w : World) (s : Source) →
    let sense = sense_in (senses_made u l.results) in
    run_in w s sense (drop l.node-index l.children) ≡ run_in w s sense l.children
