-- The report as one object of JSON: what the lines of the report say, under the keys `sets`, `calls` and `edges`.
use Rattle.std.specs.Prelude.{◌≡◌, ℕ, List, ◌++◌, map, length, codes, String}
use Rattle.std.specs.List.{filter, range_with_len}
use Rattle.std.specs.declared.alloc.Global.{Global}
use Rattle.serde_json.specs.Data.{Data, unsigned, number, string, array, object, item, no_items, member, no_members}
use Rattle.serde_json.specs.View.{items_of}
use Rattle.serde_json.specs.Written.{compact_text}
use Rattle.sol_model.specs.declared.system.System.{System}
use Rattle.sol_model.specs.declared.system.CallSite.{CallSite}
use Rattle.sol_model.specs.Families.{Family}
use Rattle.call_graph.specs.Graph.{IsGraph}
use Rattle.obj_space.specs.declared.location.Location.{Location}
use Rattle.unit_report.specs.report_text.Report.{name_in, has_set, members_in, targets_in}
use Rattle.unit_report.specs.report_text.Report.{place_text, calls_in_order, function_name}

-- the name of a location
abbrev pub name_value : List Location → ℕ → Data
name_value space location = string (name_in space location)

-- the names of these locations
abbrev pub names_value : List Location → List ℕ → Data
names_value space locations = array (items_of (map (name_value space) locations))

-- what the line of a location's set says
abbrev pub set_value : List Location → System → Family → ℕ → Data
set_value space system F location =
    object
    (member (codes "members") (names_value space (members_in system F location))
    (member (codes "name") (name_value space location) no_members))

-- the sets of the locations that have a line, in order of location
abbrev pub sets_value : List Location → System → Family → Data
sets_value space system F =
    array (items_of (map (set_value space system F) (filter (has_set space) (range_with_len 0 (length space)))))

-- what the line of a call says
abbrev pub call_value : List Location → List (String Global) → System → Family → CallSite → Data
call_value space names system F call =
    object
    (member (codes "place") (string (place_text names call.place))
    (member (codes "targets") (names_value space (targets_in system F call)) no_members))

-- the calls that don't name their function, in order of unit and place
abbrev pub calls_value : List Location → List (String Global) → System → Family → Data
calls_value space names system F =
    array (items_of (map (call_value space names system F) (calls_in_order system.calls)))

-- what the line of a caller and a callee says
abbrev pub edge_value : List Location → System → ℕ × ℕ → Data
edge_value space system pair =
    array
    (item (string (function_name space system pair.0))
    (item (string (function_name space system pair.1)) no_items))

-- the edges of the call graph
abbrev pub edges_value : List Location → System → List (ℕ × ℕ) → Data
edges_value space system edges = array (items_of (map (edge_value space system) edges))

-- an object with these calls, edges and sets
abbrev pub report_of : Data → Data → Data → Data
report_of calls edges sets =
    object
    (member (codes "calls") calls
    (member (codes "edges") edges
    (member (codes "report") (number (unsigned 2)) (member (codes "sets") sets no_members))))

-- the report, with the edges of the call graph
abbrev pub report_value : List Location → List (String Global) → System → Family → List (ℕ × ℕ) → Data
report_value space names system F edges =
    report_of (calls_value space names system F) (edges_value space system edges) (sets_value space system F)

-- a text is the report of a family of rows as JSON without spaces, and a line feed
pub record IsJsonReport (space : List Location) (names : List (String Global)) (system : System) (F : Family)
    (text : List ℕ) : Type 0 where
  pub edges : List (ℕ × ℕ)
  pub graph : IsGraph system F edges
  pub text_is : text ≡ compact_text (report_value space names system F edges) ++ codes "\n"
