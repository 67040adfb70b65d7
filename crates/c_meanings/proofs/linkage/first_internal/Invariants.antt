use Rattle.std.proofs.Common.{◌≡◌, ℕ, List}
use Rattle.core_tree.specs.declared.node.Unit.{Unit}
use Rattle.c_senses.specs.Sense.{sense_in}
use Rattle.c_results.specs.Standing.{senses_made}
use Rattle.tree_reads.specs.Sources.{source_in}
use Rattle.name_chains.specs.Links.{listed, IsLinkOf}
use Rattle.name_chains.proofs.Linked.{left}
use Rattle.c_meanings.specs.Internal.{first_internal}
use Rattle.c_meanings.specs.Statics.{IsStaticSeen}
use Rattle.c_meanings.proofs.linkage.first_internal.Given as goal

-- the first of what is left, or else the one that was found
abbrev pub invariant-loop-at : goal.invariant-loop-at
invariant-loop-at l = record {
  last : IsLinkOf l.names.symbols.items l.at;
  seen : IsStaticSeen l.syntax l.results l.names l.seen;
  first : (u : Unit) (uses : List (ℕ × ℕ)) →
      let s = source_in l.syntax uses in
      let sense = sense_in (senses_made u l.results) in
      first_internal s sense l.first (listed l.names.symbols.items l.at) ≡ first_internal s sense l.fn.front.leaf (listed l.names.symbols.items l.fn.front.last);
}

abbrev pub decreases-loop-at : goal.decreases-loop-at
decreases-loop-at l = left l.at
