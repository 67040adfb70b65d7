use Rattle.std.proofs.Common.{ℕ, ◌<◌, List, All, length}
use Rattle.core_tree.specs.declared.node.Unit.{Unit}
use Rattle.c_senses.specs.Sense.{sense_in}
use Rattle.c_results.specs.Standing.{senses_made}
use Rattle.tree_reads.specs.Sources.{source_in}
use Rattle.name_chains.specs.symbol_lists.Symbols.{of_symbol}
use Rattle.c_meanings.specs.Statics.{IsStaticSeen}
use Rattle.name_uses.proofs.name_sayings.Listing.{SoFar}
use Rattle.name_uses.proofs.name_sayings.internal.internal_of.Given as goal

-- the leaves so far with those of what is left
abbrev pub invariant-loop-place : goal.invariant-loop-place
invariant-loop-place l = record {
  seen : IsStaticSeen l.syntax l.results l.names l.seen;
  left : (u : Unit) (uses : List (ℕ × ℕ)) →
      let s = source_in l.syntax uses in
      SoFar s (sense_in (senses_made u l.results)) l.leaf (of_symbol l.symbol s.declared.ordinary) l.list.items l.place;
  within : All (λ (k : ℕ). k < length l.syntax.tree.now.nodes.items) l.list.items;
}
