use Rattle.std.proofs.Common.{◌≡◌, ◌<◌, ◌++◌, ℕ, List, All, drop, map, length}
use Rattle.core_tree.specs.declared.node.Unit.{Unit}
use Rattle.c_senses.specs.Tree.{children_at}
use Rattle.c_senses.specs.World.{World}
use Rattle.c_senses.specs.Sense.{sense_in}
use Rattle.c_senses.specs.Statements.{initials_among}
use Rattle.core_nodes.specs.Standing.{core_at}
use Rattle.c_results.specs.Standing.{senses_made, IsWithin}
use Rattle.tree_reads.specs.Sources.{source_in}
use Rattle.statement_rows.proofs.declarations.rest_row.Given as goal

-- the initialisers that are listed, and those among the nodes that are left
abbrev pub invariant-loop-node : goal.invariant-loop-node
invariant-loop-node l = record {
  rest : (u : Unit) (w : World) (uses : List (ℕ × ℕ)) →
      let s = source_in l.syntax uses in
      let sense = sense_in (senses_made u l.results) in
      map (core_at u) l.list.items ++ initials_among w s sense (drop l.node-index (children_at s l.at)) ≡ initials_among w s sense (children_at s l.at);
  within : (u : Unit) → All (IsWithin u) l.results → All (λ i. i < length u.nodes.items) l.list.items;
}
