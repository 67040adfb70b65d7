use Rattle.std.proofs.Common.{◌≡◌, ◌++◌, drop}
use Rattle.c_statements.specs.Parts.{gathered, nodes_made}
use Rattle.c_statements.proofs.blocks.nodes_in.Given as goal

abbrev pub invariant-loop-part : goal.invariant-loop-part
invariant-loop-part l =
    let f = nodes_made l.results in
    l.list.items ++ gathered f (drop l.part-index l.children) ≡ gathered f l.children
