-- What is known of a program that is linked from valid units.
use Rattle.std.specs.Prelude.{All}
use Rattle.core_tree.specs.declared.node.Program.{Program}
use Rattle.core_tree.specs.Typed.{trees_in}
use Rattle.core_tree.specs.Valid.{IsEntryAt}
use Rattle.linked_laws.specs.system_laws.Parts.{HasBody}
use Rattle.linked_laws.specs.call_laws.Values.{AreCallsOfValues}
use Rattle.linked_laws.specs.merged_laws.Merged.{TagsFit}
use Rattle.linked_laws.specs.node_laws.Rows.{HasRows}
use Rattle.linked_laws.specs.return_laws.Returns.{HasReturns}
use Rattle.linked_laws.specs.initial_laws.Initials.{HasInitials}

-- it has a function with a body, its structures have at most 2^24 nodes, its nodes take values of the right types, and
-- it may be entered at its entries
pub record IsRight (p : Program) : Type 0 where
  pub body : HasBody p
  pub values : AreCallsOfValues p
  pub tags : TagsFit p.types
  pub rows : HasRows p
  pub returns : HasReturns p
  pub initials : HasInitials p
  pub entered : All (λ e. IsEntryAt (trees_in p) e) p.entries.items
