-- The report of units.
use Rattle.std.specs.Prelude.{◌≡◌, ℕ, Bool, true, false, List, map, String, string_bytes}
use Rattle.std.specs.declared.alloc.Global.{Global}
use Rattle.core_tree.specs.declared.node.Unit.{Unit}
use Rattle.core_tree.specs.declared.node.Program.{Program}
use Rattle.sol_model.specs.declared.system.System.{System}
use Rattle.sol_model.specs.Families.{Family}
use Rattle.sol_model.specs.Solutions.{IsLeast}
use Rattle.obj_space.specs.declared.location.Location.{Location}
use Rattle.unit_report.specs.report_text.Report.{IsReport}
use Rattle.unit_report.specs.report_json.Json.{IsJsonReport}
use Rattle.unit_report.specs.unit_system.Of.{AreLinkedAs}

-- a text is the report of a family of rows, as JSON or as lines
abbrev pub IsReportAs : (json : Bool) (space : List Location) (names : List (String Global)) (system : System)
    (F : Family) (text : List ℕ)
    → Type 0
IsReportAs true = IsJsonReport
IsReportAs false = IsReport

-- a text is the report of the least solution of a program's system, as JSON or as lines
pub record IsProgramReport (json : Bool) (p : Program) (space : List Location) (system : System)
    (text : List ℕ) : Type 0 where
  pub family : Family
  pub least : IsLeast system family
  pub names : List (String Global)
  pub names_are : map string_bytes names ≡ p.names.items
  pub report : IsReportAs json space names system family text

-- a text is the report of the least solution of the system of the program that is linked from units and entered at
-- those names, or begins at main
pub record IsUnitReport (entered : List (List ℕ)) (units : List Unit) (system : System)
    (text : List ℕ) : Type 0 where
  pub program : Program
  pub space : List Location
  pub linked : AreLinkedAs entered units program space system
  pub reported : IsProgramReport false program space system text
