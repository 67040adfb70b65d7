-- The nodes and entities of a linked program are to each other what those of its units are.
use Rattle.std.proofs.Common.{ℕ, List}
use Rattle.core_tree.specs.declared.node.Unit.{Unit}
use Rattle.core_tree.specs.declared.node.Program.{Program}
use Rattle.core_tree.specs.Typed.{trees_in}
use Rattle.unit_link.specs.Linked.{LinkedAt}
use Rattle.unit_link.specs.Needs.{AreLinkable}
use Rattle.linked_laws.specs.embedded_laws.Trees.{AreTreesRight}
use Rattle.linked_laws.proofs.embedded_laws.Trees.{child_once, owned, bodied}
use Rattle.linked_laws.proofs.embedded_laws.Inside.{in_owner, literals, standing}
use Rattle.linked_laws.proofs.embedded_laws.Listing.{listed, lists}
use Rattle.linked_laws.proofs.embedded_laws.Functions.{functions, cases}
use Rattle.linked_laws.proofs.embedded_laws.Uses.{uses}

pub linked_trees : {names : List (List ℕ)} (units : List Unit) (p : Program) → AreLinkable units → LinkedAt names units p → AreTreesRight (trees_in p)
linked_trees units p linkable h = record {
  child_once = child_once units p linkable h;
  owned = owned units p linkable h;
  bodied = bodied units p linkable h;
  in_owner = in_owner units p linkable h;
  literals = literals units p linkable h;
  listed = listed units p linkable h;
  lists = lists units p linkable h;
  standing = standing units p linkable h;
  functions = functions units p linkable h;
  cases = cases units p linkable h;
  uses = uses units p linkable h;
}
