use Rattle.std.proofs.Common.{◌≡◌, ◌++◌, ℕ, List, map, drop}
use Rattle.core_tree.specs.declared.node.Unit.{Unit}
use Rattle.c_senses.specs.Tree.{Source, spelling_at}
use Rattle.c_senses.specs.Keys.{names_among}
use Rattle.c_senses.specs.Sense.{sense_in}
use Rattle.c_results.specs.Standing.{senses_made}
use Rattle.tree_reads.specs.Sources.{source_in}
use Rattle.unit_keys.proofs.names.add_leaves.Given as goal

-- the names so far, and those that are left
abbrev pub invariant-loop-node : goal.invariant-loop-node
invariant-loop-node l = (u : Unit) (uses : List (ℕ × ℕ)) →
    let s : Source = source_in l.syntax uses in
    map (spelling_at s) l.leaves.items ++ names_among s (sense_in (senses_made u l.results)) (drop l.node-index l.nodes)
    ≡ map (spelling_at s) l.fn.leaves.items ++ names_among s (sense_in (senses_made u l.results)) l.nodes
