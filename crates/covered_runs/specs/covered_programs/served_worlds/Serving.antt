-- What a world over a linked program has of the library.
use Rattle.std.specs.Prelude.{◌≡◌, ℕ, true, List, length}
use Rattle.c_types.specs.declared.term.Term.{Term}
use Rattle.c_types.specs.declared.term.TypeId.{TypeId}
use Rattle.c_types.specs.Trees.{IntegerType}
use Rattle.c_types.specs.Table.{type_of}
use Rattle.c_types.specs.Made.{IsMade, AreNamed}
use Rattle.core_tree.specs.declared.node.Program.{Program}
use Rattle.core_tree.specs.declared.node.Unit.{Unit}
use Rattle.core_tree.specs.Valid.{ValidProgram}
use Rattle.sol_model.specs.Solutions.{IsLeast}
use Rattle.sol_model.specs.Systems.{IsValid}
use Rattle.link_model.specs.filled_units.Filled.{AreFilled}
use Rattle.unit_link.specs.Linked.{LinkedAt}
use Rattle.unit_link.specs.Needs.{AreLinkable}
use Rattle.covering_laws.specs.grown_programs.Grown.{MayFollow}
use Rattle.covering_laws.specs.covered_state.World.{World}
use Rattle.covered_runs.specs.covered_steps.covered_values.Met.{HasFit, IsOver}
use Rattle.covered_runs.specs.covered_steps.covered_statements.Runnable.{IsRunnable}
use Rattle.covered_runs.specs.covered_steps.covered_effects.Served.{IsServed}

-- a world over a program that is linked from units, with more types behind its own, and with the least sets that are
-- closed under its system, where the machine's characters are characters
abbrev pub WorldsServed : Type 0
WorldsServed =
    (entered : List (List ℕ)) (units : List Unit) (p : Program) (more : List Term) (world : World)
    (characters : TypeId)
    → AreLinkable units
    → AreFilled units
    → LinkedAt entered units p
    → ValidProgram p
    → IsMade p.types
    → AreNamed p.types
    → HasFit p.types
    → MayFollow (length p.types.terms) more
    → IsOver p more world
    → (runs : IsRunnable world)
    → IsValid world.system
    → IsLeast world.system world.family
    → type_of world.program.types characters.0 ≡ IntegerType 1 1 true
    → IsServed world runs.stands characters
