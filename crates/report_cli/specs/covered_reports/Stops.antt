-- That the runs of the program that texts are read as stop for bad calls only at nodes that are listed.
use Rattle.std.specs.Prelude.{◌≡◌, ◌⊎◌, true, ℕ, List, map}
use Rattle.core_tree.specs.declared.node.Program.{Program}
use Rattle.core_tree.specs.declared.node.Unit.{Unit}
use Rattle.sol_model.specs.declared.system.System.{System}
use Rattle.sol_model.specs.Families.{Family}
use Rattle.sol_model.specs.Solutions.{IsLeast}
use Rattle.obj_space.specs.declared.location.Location.{Location}
use Rattle.obj_space.specs.Space.{locations_in}
use Rattle.stop_places.specs.Sight.{solution_of}
use Rattle.stop_places.specs.Stops.{Stands}
use Rattle.command_line.specs.Distinct.{AreDistinct}
use Rattle.unit_report.specs.unit_system.Of.{IsProgramOf, IsSystemOf}
use Rattle.text_units.specs.Answers.{NamedText}
use Rattle.text_units.specs.Lowered.{AreRightTexts}
use Rattle.ref_cells.specs.declared.cells.Reason.TheVariants.{BadCall}
use Rattle.ref_calls.specs.Outcomes.{Stops}
use Rattle.ref_machine.specs.Types.{running}
use Rattle.ref_machine.specs.Step.{step}
use Rattle.ref_machine.specs.Run.{run}
use Rattle.listed_stops.specs.Listed.{CallsNumber}

-- Where a step of a run of a program stops with BadCall, whatever the words and however many steps were made, it stops
-- at a node that stands as a bad call by the least sets of the program's system, of which `--stops` lists each; or at a
-- call of a number.
abbrev pub AreBadCallsListed : Program → System → Type 0
AreBadCallsListed p system =
    (family : Family) (words : List ℕ) (k word n : ℕ)
    → IsLeast system family
    → step (running p) (run p words k) word ≡ Stops BadCall n
    → Stands (solution_of p (locations_in p) system family) n true
    ⊎ CallsNumber p.nodes.items (run p words k) n

-- so it is for each program that texts of distinct names are read as, and that is entered at those names
abbrev pub BadCallsCovered : Type 0
BadCallsCovered =
    (names : List (List ℕ)) (texts : List NamedText) (units : List Unit) (p : Program) (space : List Location)
    (system : System)
    → AreDistinct (map (λ (text : NamedText). text.0) texts)
    → AreRightTexts 0 texts units
    → IsProgramOf names units p
    → IsSystemOf p space system
    → AreBadCallsListed p system
