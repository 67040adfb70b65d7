use Rattle.std.proofs.Common.{◌≡◌, ◌<◌, ◌++◌, ℕ, List, All, length}
use Rattle.core_tree.specs.declared.node.Unit.{Unit}
use Rattle.c_senses.specs.Sense.{sense_in}
use Rattle.c_results.specs.Standing.{senses_made}
use Rattle.tree_reads.specs.Sources.{source_in}
use Rattle.name_chains.specs.symbol_lists.Symbols.{of_symbol}
use Rattle.unit_names.specs.Internal.{internal_of}
use Rattle.c_meanings.specs.Statics.{IsStaticSeen}
use Rattle.unit_names.proofs.Symbols.{left_of}
use Rattle.unit_names.proofs.internal.of_symbol.Given as goal

-- those so far and those of what is left are all
abbrev pub invariant-loop-place : goal.invariant-loop-place
invariant-loop-place l = record {
  seen : IsStaticSeen l.syntax l.results l.names l.seen;
  rest : (u : Unit) (uses : List (ℕ × ℕ)) →
      let s = source_in l.syntax uses in
      let sense = sense_in (senses_made u l.results) in
      l.list.items ++ left_of s sense (of_symbol l.symbol s.declared.ordinary) l.place ≡ internal_of s sense l.symbol;
  within : All (λ leaf. leaf < length l.syntax.tree.now.nodes.items) l.list.items;
}
