-- What the nodes and entities of a linked program are to each other.
use Rattle.std.specs.Prelude.{ℕ, List}
use Rattle.core_tree.specs.declared.node.Unit.{Unit}
use Rattle.core_tree.specs.declared.node.Program.{Program}
use Rattle.core_tree.specs.Typed.{CoreTrees, trees_in}
use Rattle.core_tree.specs.Range.{ChildOnce}
use Rattle.core_tree.specs.Valid.{Owned, Bodied, InOwner, Literals, AllListed, ListsRight, Standing, InFunctions}
use Rattle.core_tree.specs.Valid.{DistinctCases, UsesRight}
use Rattle.unit_link.specs.Linked.{LinkedAt}
use Rattle.unit_link.specs.Needs.{AreLinkable}

-- all of `Valid` but for numbers in range, rows, initialisers of static objects and sizes
pub record AreTreesRight (u : CoreTrees) : Type 0 where
  pub child_once : ChildOnce u
  pub owned : Owned u
  pub bodied : Bodied u
  pub in_owner : InOwner u
  pub literals : Literals u
  pub listed : AllListed u
  pub lists : ListsRight u
  pub standing : Standing u
  pub functions : InFunctions u
  pub cases : DistinctCases u
  pub uses : UsesRight u

abbrev pub LinkedTrees : Type 0
LinkedTrees =
    (names : List (List ℕ)) (units : List Unit) (p : Program)
    → AreLinkable units
    → LinkedAt names units p
    → AreTreesRight (trees_in p)
