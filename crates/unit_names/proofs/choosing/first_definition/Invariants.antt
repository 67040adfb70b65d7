use Rattle.std.proofs.Common.{◌≡◌, ℕ, List, drop}
use Rattle.c_senses.specs.Sense.{Sense}
use Rattle.tree_reads.specs.Sources.{source_in}
use Rattle.unit_names.specs.Choosing.{first_such, is_definition}
use Rattle.unit_names.proofs.choosing.first_definition.Given as goal

-- the first of those that are left is the first of all
abbrev pub invariant-loop-leaf : goal.invariant-loop-leaf
invariant-loop-leaf l = (uses : List (ℕ × ℕ)) (sense : ℕ → Sense) →
    first_such (is_definition (source_in l.syntax uses) sense) l.other (drop l.leaf-index l.list) ≡ first_such (is_definition (source_in l.syntax uses) sense) l.other l.list
