use Rattle.std.proofs.Common.{◌≡◌, ℕ, List, ◌++◌, Some}
use Rattle.core_tree.specs.declared.node.Unit.{Unit}
use Rattle.c_scope.specs.declared.kinds.Declared.{Declared}
use Rattle.c_senses.specs.Sense.{sense_in}
use Rattle.c_results.specs.Standing.{senses_made}
use Rattle.tree_reads.specs.Sources.{source_in}
use Rattle.name_chains.specs.Links.{listed, IsLinkOf}
use Rattle.name_chains.proofs.Linked.{left}
use Rattle.c_meanings.specs.Internal.{first_internal}
use Rattle.c_meanings.proofs.linkage.front_of.Given as goal

-- what is left is the front of the list that was found, which has the first one
abbrev pub invariant-loop-at : goal.invariant-loop-at
invariant-loop-at l = record {
  last : IsLinkOf l.names.symbols.items l.at;
  found : IsLinkOf l.names.symbols.items l.front.last;
  rest : (more : List Declared) × (listed l.names.symbols.items l.front.last ≡ listed l.names.symbols.items l.at ++ more);
  first : (u : Unit) (uses : List (ℕ × ℕ)) →
      let s = source_in l.syntax uses in
      let sense = sense_in (senses_made u l.results) in
      first_internal s sense l.front.leaf (listed l.names.symbols.items l.front.last) ≡ first_internal s sense l.fn.leaf (listed l.names.symbols.items (Some l.fn.place));
}

abbrev pub decreases-loop-at : goal.decreases-loop-at
decreases-loop-at l = left l.at
