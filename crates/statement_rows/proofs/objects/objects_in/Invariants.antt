use Rattle.std.proofs.Common.{◌≡◌, ◌++◌, ℕ, List, drop}
use Rattle.core_tree.specs.declared.node.Unit.{Unit}
use Rattle.c_senses.specs.World.{World}
use Rattle.c_senses.specs.Sense.{sense_in}
use Rattle.c_results.specs.Standing.{senses_made}
use Rattle.tree_reads.specs.Sources.{source_in}
use Rattle.c_statements.specs.Parts.{gathered}
use Rattle.statement_rows.specs.Parts.{objects_at}
use Rattle.statement_rows.proofs.objects.objects_in.Given as goal

-- what is listed, and what the nodes that are left bring
abbrev pub invariant-loop-part : goal.invariant-loop-part
invariant-loop-part l = (u : Unit) (w : World) (uses : List (ℕ × ℕ)) →
    let f = objects_at w (source_in l.syntax uses) (sense_in (senses_made u l.results)) in
    l.list.items ++ gathered f (drop l.part-index l.children) ≡ gathered f l.children
