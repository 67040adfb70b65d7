-- That what steps stand on is there for each linked program, over the machine's types.
use Rattle.std.specs.Prelude.{◌≡◌, List, length}
use Rattle.c_types.specs.declared.term.Term.{Term}
use Rattle.c_types.specs.Made.{IsMade, AreNamed}
use Rattle.core_tree.specs.declared.node.Program.{Program}
use Rattle.core_tree.specs.declared.node.Storage.TheVariants.{Automatic}
use Rattle.core_tree.specs.Range.{EachNode, EachEntity}
use Rattle.core_tree.specs.Typed.{CoreTrees, trees_in}
use Rattle.core_tree.specs.Valid.{IsFunctionEntity, ValidProgram}
use Rattle.sol_model.specs.Solutions.{IsClosed}
use Rattle.covering_laws.specs.covered_memory.Demands.{Grounds}
use Rattle.covering_laws.specs.grown_programs.Grown.{MayFollow}
use Rattle.covering_laws.specs.covered_state.World.{World}
use Rattle.covered_runs.specs.covered_steps.covered_values.Values.{IsFound}
use Rattle.covered_runs.specs.covered_steps.covered_values.Met.{HasFit, IsOver}
use Rattle.covered_runs.specs.covered_steps.covered_statements.Runnable.{IsRunnable}

-- an object that lives with its block is no function
abbrev pub AutomaticObjects : CoreTrees → Type 0
AutomaticObjects u = EachEntity u (λ e entity. entity.storage ≡ Automatic → IsFunctionEntity u entity → ⊥)

-- a world over a valid program with more types, none of which is a structure, a union or a function, runs, where its
-- sets are closed and its functions have locations
abbrev pub RunnableMet : Type 0
RunnableMet =
    (p : Program) (more : List Term) (world : World)
    → ValidProgram p
    → IsMade p.types
    → AreNamed p.types
    → HasFit p.types
    → MayFollow (length p.types.terms) more
    → IsOver p more world
    → Grounds p.types world.space world.system
    → IsClosed world.system world.family
    → EachNode (trees_in p) (λ n node. IsFound world node.kind)
    → AutomaticObjects (trees_in p)
    → IsRunnable world
