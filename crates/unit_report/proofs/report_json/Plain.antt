-- A report has no float, so its text is the compact one.
use Rattle.std.proofs.Common.{◌≡◌, ℕ, false, List, [], ◌∷◌, map, String, Global, refl}
use Rattle.serde_json.specs.Data.{Data}
use Rattle.serde_json.specs.View.{items_of}
use Rattle.serde_json.specs.Written.{has_float, items_have_float}
use Rattle.sol_model.specs.declared.system.System.{System}
use Rattle.sol_model.specs.declared.system.CallSite.{CallSite}
use Rattle.sol_model.specs.Families.{Family}
use Rattle.obj_space.specs.declared.location.Location.{Location}
use Rattle.unit_report.specs.report_text.Report.{members_in, targets_in}
use Rattle.unit_report.specs.report_json.Json.{names_value, name_value, set_value, sets_value, call_value, calls_value, edge_value, edges_value, report_of, report_value}

items_plain : {X : Type 0} (f : X → Data) → ((x : X) → has_float (f x) ≡ false) → (xs : List X) → items_have_float (items_of (map f xs)) ≡ false
items_plain f plain [] = refl
items_plain f plain (x ∷ xs) = rw (plain x) (items_plain f plain xs)

names_plain : (space : List Location) (locations : List ℕ) → has_float (names_value space locations) ≡ false
names_plain space locations = items_plain (name_value space) (λ location. refl) locations

set_plain : (space : List Location) (system : System) (F : Family) (location : ℕ) → has_float (set_value space system F location) ≡ false
set_plain space system F location = rw (names_plain space (members_in system F location)) refl

call_plain : (space : List Location) (names : List (String Global)) (system : System) (F : Family) (call : CallSite) → has_float (call_value space names system F call) ≡ false
call_plain space names system F call = rw (names_plain space (targets_in system F call)) refl

whole_plain : (calls edges sets : Data) → has_float calls ≡ false → has_float edges ≡ false → has_float sets ≡ false → has_float (report_of calls edges sets) ≡ false
whole_plain calls edges sets a b c = rw (a, b, c) refl

pub report_plain : (space : List Location) (names : List (String Global)) (system : System) (F : Family) (edges : List (ℕ × ℕ)) → has_float (report_value space names system F edges) ≡ false
report_plain space names system F edges =
    whole_plain (calls_value space names system F) (edges_value space system edges) (sets_value space system F)
    (items_plain (call_value space names system F) (call_plain space names system F) _)
    (items_plain (edge_value space system) (λ pair. refl) edges)
    (items_plain (set_value space system F) (set_plain space system F) _)
