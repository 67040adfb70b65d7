use Rattle.std.proofs.Common.{◌≡◌, ℕ, List, drop}
use Rattle.core_tree.specs.declared.node.Unit.{Unit}
use Rattle.c_senses.specs.World.{World}
use Rattle.c_senses.specs.Sense.{sense_in}
use Rattle.c_senses.specs.Entities as spec
use Rattle.c_results.specs.Standing.{senses_made}
use Rattle.tree_reads.specs.Sources.{source_in}
use Rattle.c_meanings.specs.Statics.{IsStaticSeen}
use Rattle.name_uses.proofs.name_sayings.sayings.same_internal.Given as goal

-- what is left says whether all do
abbrev pub invariant-loop-declared : goal.invariant-loop-declared
invariant-loop-declared l = record {
  seen : IsStaticSeen l.syntax l.results l.names l.seen;
  same : (u : Unit) (w : World) (uses : List (ℕ × ℕ)) →
      let s = source_in l.syntax uses in
      let sense = sense_in (senses_made u l.results) in
      spec.same_internal w s sense l.internal (drop l.declared-index l.declarations) ≡ spec.same_internal w s sense l.internal l.declarations;
}
