-- The systems of programs that are one, but for numbers.
use Rattle.core_tree.specs.declared.node.Program.{Program}
use Rattle.sol_model.specs.declared.system.System.{System}
use Rattle.sol_model.specs.Systems.{IsValid}
use Rattle.obj_space.specs.Space.{locations_in}
use Rattle.obj_space.specs.View.{view_of}
use Rattle.normal_form.specs.SystemOf.{SystemOf}
use Rattle.twin_report_laws.specs.outcome_laws.twin_programs.One.{Numbers}
use Rattle.twin_report_laws.specs.reports.Same.{AreOneSystem}
use Rattle.twin_report_laws.specs.rows.Paired.{ArePaired}
use Rattle.twin_report_laws.specs.rows.Ready.{IsReady, HasCalled}

-- programs that are one, but for numbers, with the same locations in the same order, have systems that are one
abbrev pub OneSystem : Type 0
OneSystem =
    (p q : Program) (to back : Numbers) (S T : System)
    → ArePaired p q to back
    → IsReady p
    → IsReady q
    → HasCalled p
    → HasCalled q
    → SystemOf p (view_of (locations_in p)) S
    → SystemOf q (view_of (locations_in q)) T
    → IsValid S
    → IsValid T
    → AreOneSystem S T
