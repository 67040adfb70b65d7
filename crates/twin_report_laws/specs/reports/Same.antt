-- Reports on systems that are one, but for numbers.
use Rattle.std.specs.Prelude.{ℕ, ◌≡◌, ◌<◌, Bool, false, List, Some, String, length, map, slice_get, string_bytes}
use Rattle.std.specs.declared.alloc.Global.{Global}
use Rattle.sol_model.specs.declared.system.System.{System}
use Rattle.sol_model.specs.declared.system.LocationFact.{LocationFact}
use Rattle.sol_model.specs.declared.system.CallSite.{CallSite}
use Rattle.sol_model.specs.Families.{Family}
use Rattle.sol_model.specs.Solutions.{IsLeast}
use Rattle.sol_model.specs.Systems.{IsValid, IsRow, location_count}
use Rattle.obj_space.specs.declared.location.Location.{Location}
use Rattle.unit_report.specs.report_text.Report.{name_in, has_set}
use Rattle.unit_report.specs.Reported.{IsReportAs}
use Rattle.twin_report_laws.specs.systems.Systems.{Maps, SystemLeads}

-- a call stands in the same function at the same place, and names its function in both or in neither
pub record SameSite (x y : CallSite) : Type 0 where
  pub caller : y.caller ≡ x.caller
  pub direct : y.direct ≡ x.direct
  pub place : y.place ≡ x.place

-- What a report shows of one system is in the other too: locations and functions keep their numbers, calls their
-- places, and the numbers of rows and calls lead back.
pub record Keeps (one other : System) (to back : Maps) : Type 0 where
  pub locations : (l : ℕ) (x : LocationFact) → slice_get one.locations l ≡ Some x
      → (to.row l ≡ l) × ((y : LocationFact) × (slice_get other.locations l ≡ Some y) × (y.function ≡ x.function))
  pub functions : (k : ℕ) → k < length one.functions → to.function k ≡ k
  pub rows : (row : ℕ) → IsRow one row → back.row (to.row row) ≡ row
  pub calls : (k : ℕ) (x : CallSite) → slice_get one.calls k ≡ Some x
      → (back.call (to.call k) ≡ k) × ((y : CallSite) × (slice_get other.calls (to.call k) ≡ Some y) × SameSite x y)

-- systems that lead to each other, with the same locations and functions in the same order
pub record AreOneSystem (one other : System) : Type 0 where
  pub to : Maps
  pub back : Maps
  pub lead : SystemLeads one other to
  pub again : SystemLeads other one back
  pub keeps : Keeps one other to back
  pub kept : Keeps other one back to

-- as many locations, of which each has the same name in both, and a line in both or in neither
pub record SameNames (one other : List Location) : Type 0 where
  pub many : length other ≡ length one
  pub names : (l : ℕ) → name_in other l ≡ name_in one l
  pub sets : (l : ℕ) → has_set other l ≡ has_set one l

-- calls that don't name their function stand at different places
pub record CallsApart (system : System) : Type 0 where
  pub once : (j k : ℕ) (x y : CallSite) → slice_get system.calls j ≡ Some x → slice_get system.calls k ≡ Some y
      → x.direct ≡ false → y.direct ≡ false → x.place ≡ y.place → j ≡ k

-- what a report is printed from
pub record Printed : Type 0 where
  pub space : List Location
  pub names : List (String Global)
  pub system : System
  pub family : Family

-- a valid system with its least solution, over as many locations as it has
pub record IsSolved (p : Printed) : Type 0 where
  pub valid : IsValid p.system
  pub least : IsLeast p.system p.family
  pub count : length p.space ≡ location_count p.system

-- the same names of locations and units, and systems that are one
pub record ArePrintedAlike (p q : Printed) : Type 0 where
  pub spaces : SameNames p.space q.space
  pub units : map string_bytes q.names ≡ map string_bytes p.names
  pub systems : AreOneSystem p.system q.system
  pub apart : CallsApart p.system

-- such systems have one report, as lines and as JSON
abbrev pub OneReport : Type 0
OneReport =
    (json : Bool) (p q : Printed) (text other : List ℕ) → IsSolved p → IsSolved q → ArePrintedAlike p q
    → IsReportAs json p.space p.names p.system p.family text
    → IsReportAs json q.space q.names q.system q.family other → other ≡ text
