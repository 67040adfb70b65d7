-- What the lists behind a report's lines hold.
use Rattle.std.specs.Prelude.{◌≡◌, ◌↔◌, ℕ, List, Contains, String}
use Rattle.std.specs.declared.alloc.Global.{Global}
use Rattle.sol_model.specs.declared.system.System.{System}
use Rattle.sol_model.specs.declared.system.CallSite.{CallSite}
use Rattle.sol_model.specs.declared.system.Function.{Function}
use Rattle.sol_model.specs.Families.{Family, Has}
use Rattle.sol_model.specs.Rules.{IsTarget}
use Rattle.sol_model.specs.Systems.{IsValid}
pub use Rattle.call_graph.specs.row_members.Members.{IsKnown}
use Rattle.obj_space.specs.declared.location.Location.{Location}
use Rattle.unit_report.specs.report_text.Report.{members_in, targets_in, IsReport}

-- a location is that of a function which the call may call
abbrev pub IsTargetAt : System → Family → CallSite → ℕ → Type 0
IsTargetAt system F call location =
    (target : ℕ) × (function : Function) × IsTarget system F call target function × (function.location ≡ location)

-- the members that a line names are those that the row has
abbrev pub MembersListed : Type 0
MembersListed =
    (system : System) (F : Family) (row location : ℕ)
    → IsKnown system F
    → Contains (members_in system F row) location ↔ Has F row location

-- the targets that a line names are those of the call
abbrev pub TargetsListed : Type 0
TargetsListed =
    (system : System) (F : Family) (call : CallSite) (location : ℕ) → IsValid system → IsKnown system F
    → Contains (targets_in system F call) location ↔ IsTargetAt system F call location

-- families with the same facts have the same report
abbrev pub SameReport : Type 0
SameReport =
    (space : List Location) (names : List (String Global)) (system : System) (F G : Family) (text : List ℕ)
    → ((row location : ℕ) → F row location ≡ G row location)
    → IsReport space names system F text
    → IsReport space names system G text
