-- That each stop of a run for a bad call is listed.
use Rattle.std.specs.Prelude.{◌≡◌, ◌⊎◌, ℕ, ◌+◌, ◌<◌, ◌^◌, true, ℤ, List, [], ◌∷◌, Some, length, slice_get}
use Rattle.core_tree.specs.declared.node.Node.{Node}
use Rattle.core_tree.specs.declared.node.NodeKind.TheVariants.{CallNode}
use Rattle.core_tree.specs.declared.node.Program.{Program}
use Rattle.core_tree.specs.declared.node.Unit.{Unit}
use Rattle.core_tree.specs.Typed.{trees_in}
use Rattle.sol_model.specs.declared.system.System.{System}
use Rattle.sol_model.specs.Families.{Family}
use Rattle.linked_laws.specs.alike_laws.Plain.{DefinesPlain}
use Rattle.obj_space.specs.Space.{locations_in}
use Rattle.stop_places.specs.Sight.{solution_of}
use Rattle.stop_places.specs.Stops.{Stands}
use Rattle.ref_cells.specs.declared.cells.Cell.TheVariants.{Number}
use Rattle.ref_cells.specs.declared.cells.Reason.TheVariants.{BadCall}
use Rattle.ref_cells.specs.declared.cells.Value.{Value}
use Rattle.ref_state.specs.declared.frames.Frame.{Frame}
use Rattle.ref_state.specs.declared.items.Item.{Item}
use Rattle.ref_state.specs.declared.items.Item.TheVariants.{Wait}
use Rattle.ref_state.specs.declared.state.State.{State}
use Rattle.ref_state.specs.Values.{cell_in}
use Rattle.ref_calls.specs.Outcomes.{Stops}
use Rattle.ref_machine.specs.Types.{running}
use Rattle.ref_machine.specs.Step.{step}
use Rattle.ref_machine.specs.Run.{run}
use Rattle.covered_runs.specs.covered_programs.Programs.{IsAnalysed}

-- The top item of a state is the call at node n, all of whose operands are there, and what it calls is a number. No
-- expression makes a number of a pointer; that no run has such a state is not said here.
pub record CallsNumber (nodes : List Node) (state : State) (n : ℕ) : Type 0 where
  pub frame : Frame
  pub rest : List Frame
  pub frames_are : state.frames ≡ frame ∷ rest
  pub values : List (ℕ × Value)
  pub items : List Item
  pub items_are : frame.items ≡ Wait n [] values ∷ items
  pub node : Node
  pub there : slice_get nodes n ≡ Some node
  pub kind : node.kind ≡ CallNode
  pub callee : ℕ
  pub arguments : List ℕ
  pub children_are : node.children ≡ callee ∷ arguments
  pub number : ℤ
  pub called : cell_in values callee ≡ Number number

-- A program's function types are told apart by their signatures, numbers of 32 bits: a function that is defined
-- with () has no parameters, so its type with (void) is one of the table, and no type's signature is that of those
-- which the table lacks.
pub record TellsTypes (p : Program) : Type 0 where
  pub plain : DefinesPlain (trees_in p)
  pub room : length p.types.terms + 2 < 2 ^ 32

-- The program is linked from the units, and has the least sets of its system. Where a step of one of its runs stops
-- with BadCall, whatever the words and however many steps, it stops at a node that stands as a bad call; or at a call
-- of a number.
abbrev pub BadCallsListed : Type 0
BadCallsListed =
    (units : List Unit) (p : Program) (system : System) (family : Family) (words : List ℕ) (k word n : ℕ)
    → IsAnalysed units p system family
    → TellsTypes p
    → step (running p) (run p words k) word ≡ Stops BadCall n
    → Stands (solution_of p (locations_in p) system family) n true
    ⊎ CallsNumber p.nodes.items (run p words k) n
