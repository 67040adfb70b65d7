use Rattle.std.proofs.Common.{◌≡◌, ℕ, List}
use Rattle.core_tree.specs.declared.node.Unit.{Unit}
use Rattle.c_senses.specs.Sense.{sense_in}
use Rattle.c_senses.specs.Entities as spec
use Rattle.c_results.specs.Standing.{senses_made}
use Rattle.tree_reads.specs.Sources.{source_in}
use Rattle.name_chains.specs.Links.{listed, IsLinkOf}
use Rattle.name_chains.proofs.Linked.{left}
use Rattle.c_meanings.proofs.statics.has_static.Given as goal

-- what is left of the list says whether one is
abbrev pub invariant-loop-at : goal.invariant-loop-at
invariant-loop-at l = record {
  last : IsLinkOf l.names.chains.links.items l.at;
  some : (u : Unit) (uses : List (ℕ × ℕ)) →
      let s = source_in l.syntax uses in
      let sense = sense_in (senses_made u l.results) in
      spec.some_such s sense (λ d. spec.is_static_at_file s sense d.node) (listed l.names.chains.links.items l.at)
      ≡ spec.some_such s sense (λ d. spec.is_static_at_file s sense d.node) (listed l.names.chains.links.items l.fn.last);
}

abbrev pub decreases-loop-at : goal.decreases-loop-at
decreases-loop-at l = left l.at
