use Rattle.std.proofs.Common.{◌≡◌, ◌++◌, ℕ, List, map, take}
use Rattle.core_tree.specs.declared.node.Entity.{Entity}
use Rattle.core_tree.specs.declared.node.Unit.{Unit}
use Rattle.c_results.specs.Standing.{senses_made}
use Rattle.tree_reads.specs.Sources.{source_in}
use Rattle.c_check.specs.literal_entities.Entities.{literal_entity}
use Rattle.c_check.proofs.literal_entities.entities.push_entities.Given as goal

-- those of so many literals stand behind
abbrev pub invariant-loop-literal : goal.invariant-loop-literal
invariant-loop-literal l = record {
  behind : (more : List Entity) × (l.entities.items ≡ l.initial.entities.items ++ more);
  added : (u : Unit) (uses : List (ℕ × ℕ)) → l.entities.items ≡ l.initial.entities.items ++ map (literal_entity (source_in l.syntax uses) (senses_made u l.results) l.owner l.nodes) (take l.literal-index l.list);
}
