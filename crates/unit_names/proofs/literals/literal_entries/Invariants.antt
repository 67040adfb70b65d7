use Rattle.std.proofs.Common.{◌≡◌, ℕ, List, map, take}
use Rattle.core_tree.specs.declared.node.Unit.{Unit}
use Rattle.c_results.specs.Standing.{senses_made}
use Rattle.tree_reads.specs.Sources.{source_in}
use Rattle.unit_finish.specs.Walked.{literal_entry}
use Rattle.unit_names.proofs.literals.literal_entries.Given as goal

-- the entries so far, and those of what is left
abbrev pub invariant-loop-literal : goal.invariant-loop-literal
invariant-loop-literal l = (u : Unit) (uses : List (ℕ × ℕ)) →
    l.list.items ≡ map (literal_entry (source_in l.syntax uses) (senses_made u l.results)) (take l.literal-index l.literals)
