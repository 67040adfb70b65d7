use Rattle.std.proofs.Common.{ℕ, List, All}
use Rattle.core_nodes.specs.Standing.{IsReady, Builds}
use Rattle.c_results.specs.Standing.{senses_made, IsWithin}
use Rattle.tree_reads.specs.Sources.{source_in}
use Rattle.unit_names.specs.Entries.{IsDeclaredIn}
use Rattle.unit_names.specs.Asked.{AreAsked}
use Rattle.unit_names.proofs.Listing.{ListsTo}
use Rattle.unit_names.proofs.list.declared_names.Given as goal

-- what the leaves so far declare
abbrev pub invariant-loop-leaf : goal.invariant-loop-leaf
invariant-loop-leaf l = record {
  ready : IsReady l.unit;
  asked : AreAsked l.syntax l.results l.names l.asked;
  builds : Builds l.fn.unit l.unit;
  results : All (IsWithin l.unit) l.results;
  inside : All (IsDeclaredIn l.unit) l.list.items;
  lists : (uses : List (ℕ × ℕ)) → ListsTo (source_in l.syntax uses) (senses_made l.fn.unit l.results) l.unit l.leaf l.list.items;
}
