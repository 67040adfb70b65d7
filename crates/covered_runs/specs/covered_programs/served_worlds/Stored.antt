-- How functions are stored in linked programs.
use Rattle.std.specs.Prelude.{◌≡◌, ℕ, List, Some, slice_get}
use Rattle.core_tree.specs.declared.node.Program.{Program}
use Rattle.core_tree.specs.declared.node.Unit.{Unit}
use Rattle.core_tree.specs.Typed.{trees_of, trees_in}
use Rattle.valid_unit_laws.specs.object_size_laws.function_storage.Stored.{StoresFunctions}
use Rattle.unit_link.specs.Linked.{LinkedAt}
use Rattle.unit_link.specs.Needs.{AreLinkable}
use Rattle.covered_runs.specs.covered_programs.library_names.Names.{AreDeclaredOnly}
use Rattle.covered_runs.specs.covered_steps.covered_statements.Founded.{AutomaticObjects}

-- each function of each of some units has its body, or is only declared
pub record StoreFunctions (units : List Unit) : Type 0 where
  pub each : (u : ℕ) (x : Unit) → slice_get units u ≡ Some x → StoresFunctions (trees_of x)

-- then so it is in the program that is linked from them: its automatic objects are no functions, and what has no
-- body in a unit is only declared there
pub record AreStored (units : List Unit) (p : Program) : Type 0 where
  pub functions : StoresFunctions (trees_in p)
  pub automatic : AutomaticObjects (trees_in p)
  pub declared : AreDeclaredOnly units

abbrev pub FunctionsStored : Type 0
FunctionsStored =
    (entered : List (List ℕ)) (units : List Unit) (p : Program)
    → AreLinkable units
    → StoreFunctions units
    → LinkedAt entered units p
    → AreStored units p
