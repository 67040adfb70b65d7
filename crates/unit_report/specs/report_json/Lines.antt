-- The lines of a report, read off its value of JSON.
use Rattle.std.specs.Prelude.{◌≡◌, ℕ, List, [], ◌∷◌, ◌++◌, map, flat_map, codes, unwrap_or, String}
use Rattle.std.specs.Option.{option_map_or}
use Rattle.std.specs.declared.alloc.Global.{Global}
use Rattle.serde_json.specs.Data.{Data, null, Items, item, no_items}
use Rattle.serde_json.specs.Find.{as_array, as_str, at, get}
use Rattle.sol_model.specs.declared.system.System.{System}
use Rattle.sol_model.specs.Families.{Family}
use Rattle.obj_space.specs.declared.location.Location.{Location}
use Rattle.unit_report.specs.report_text.Report.{report_lines}
use Rattle.unit_report.specs.report_json.Json.{report_value}

-- the text that a value is
abbrev pub text_in : Data → List ℕ
text_in value = unwrap_or (as_str value) []

abbrev pub values_of : Items → List Data
values_of no_items = []
values_of (item value rest) = value ∷ values_of rest

-- the values of an array
abbrev pub list_in : Data → List Data
list_in value = option_map_or values_of (as_array value) []

-- the value of a key
abbrev pub under : List ℕ → Data → Data
under key value = unwrap_or (get key value) null

-- a space and the text, for each value of an array
abbrev pub words_of : Data → List ℕ
words_of value = flat_map (λ one. codes " " ++ text_in one) (list_in value)

abbrev pub set_line_of : Data → List ℕ
set_line_of value =
    codes "set " ++ text_in (under (codes "name") value) ++ codes ":" ++ words_of (under (codes "members") value)

abbrev pub call_line_of : Data → List ℕ
call_line_of value =
    codes "call " ++ text_in (under (codes "place") value) ++ codes ":" ++ words_of (under (codes "targets") value)

abbrev pub edge_line_of : Data → List ℕ
edge_line_of value =
    codes "edge " ++ text_in (unwrap_or (at 0 value) null) ++ codes " " ++ text_in (unwrap_or (at 1 value) null)

-- the lines of the report that the value is
abbrev pub lines_of : Data → List (List ℕ)
lines_of value =
    codes "pta 1"
    ∷ (map set_line_of (list_in (under (codes "sets") value))
    ++ (map call_line_of (list_in (under (codes "calls") value))
    ++ (map edge_line_of (list_in (under (codes "edges") value)) ++ codes "end" ∷ [])))

-- the report as a value has exactly the lines of the report as text
abbrev pub SameLines : Type 0
SameLines =
    (space : List Location) (names : List (String Global)) (system : System) (F : Family) (edges : List (ℕ × ℕ))
    → lines_of (report_value space names system F edges) ≡ report_lines space names system F edges
