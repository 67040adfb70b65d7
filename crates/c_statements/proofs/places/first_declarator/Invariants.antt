use Rattle.std.proofs.Common.{◌≡◌, drop}
use Rattle.c_senses.specs.Tree.{first_where}
use Rattle.c_senses.specs.Places.{is_declarator_part}
use Rattle.tree_reads.specs.Sources.{source_read}
use Rattle.c_statements.proofs.places.first_declarator.Given as goal

abbrev pub invariant-loop-node : goal.invariant-loop-node
invariant-loop-node l =
    let test = is_declarator_part (source_read l.syntax) in
    first_where test (drop l.node-index l.list) ≡ first_where test l.list
