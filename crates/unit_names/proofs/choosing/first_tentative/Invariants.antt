use Rattle.std.proofs.Common.{◌≡◌, ℕ, List, drop}
use Rattle.core_tree.specs.declared.node.Unit.{Unit}
use Rattle.c_senses.specs.Sense.{sense_in}
use Rattle.c_results.specs.Standing.{senses_made}
use Rattle.tree_reads.specs.Sources.{source_in}
use Rattle.unit_names.specs.Choosing.{first_such, is_tentative}
use Rattle.unit_names.proofs.choosing.first_tentative.Given as goal

-- the first of those that are left is the first of all
abbrev pub invariant-loop-leaf : goal.invariant-loop-leaf
invariant-loop-leaf l = (u : Unit) (uses : List (ℕ × ℕ)) →
    let test = is_tentative (source_in l.syntax uses) (sense_in (senses_made u l.results)) in
    first_such test l.other (drop l.leaf-index l.list) ≡ first_such test l.other l.list
