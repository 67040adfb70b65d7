-- The text of the places where the machine may stop for a type.
use Rattle.std.specs.Prelude.{◌≡◌, ℕ, Bool, true, false, List, [], ◌∷◌, ◌++◌, Option, Some, None, map, flat_map}
use Rattle.std.specs.Prelude.{slice_get, codes, String, string_bytes}
use Rattle.std.specs.BTreeMap.{insert_entry}
use Rattle.std.specs.declared.alloc.Global.{Global}
use Rattle.pta_base.specs.declared.place.Place.{Place}
use Rattle.core_tree.specs.declared.node.Node.{Node}
use Rattle.core_tree.specs.declared.node.Program.{Program}
use Rattle.sol_model.specs.declared.system.System.{System}
use Rattle.sol_model.specs.Families.{Family}
use Rattle.sol_model.specs.Solutions.{IsLeast}
use Rattle.obj_space.specs.declared.location.Location.{Location}
use Rattle.unit_report.specs.report_text.Report.{Spot, by_place, place_text, text_of}
use Rattle.stop_places.specs.declared.list.Stop.{Stop}
use Rattle.stop_places.specs.Sight.{solution_of}
use Rattle.stop_places.specs.Stops.{AreStops}

-- what a line says: a place, and whether it is a bad call's, or else a mismatch's
abbrev pub Line : Type 0
Line = Place × Bool

-- lines, each under where it stands: its unit, line and column, and then a mismatch before a bad call
abbrev pub Placed : Type 0
Placed = List (Spot × Line)

abbrev pub rank : Bool → ℕ
rank false = 0
rank true = 1

abbrev pub spot_of : Place → Bool → Spot
spot_of place call = (place.unit, place.line, place.column, rank call)

abbrev pub placed_by : Bool → Option Node → Placed
placed_by call None = []
placed_by call (Some node) = (spot_of node.place call, (node.place, call)) ∷ []

-- the line of a stop, at the place of its node
abbrev pub placed : List Node → Stop → Placed
placed nodes stop = placed_by stop.call (slice_get nodes stop.node)

-- these put in their places among those, each line once
abbrev pub in_order : Placed → Placed → Placed
in_order done [] = done
in_order done (one ∷ rest) = in_order (insert_entry by_place done one.0 one.1) rest

-- the lines of stops, in order of unit and place
abbrev pub lines_of : List Node → List Stop → Placed
lines_of nodes stops = in_order [] (flat_map (placed nodes) stops)

abbrev pub word_of : Bool → List ℕ
word_of false = codes "mismatch "
word_of true = codes "badcall "

abbrev pub line_text : List (String Global) → Line → List ℕ
line_text names line = word_of line.1 ++ place_text names line.0

-- the texts of lines
abbrev pub texts : List (String Global) → Placed → List (List ℕ)
texts names lines = map (λ (one : Spot × Line). line_text names one.1) lines

-- all lines of the text
abbrev pub stop_lines : List (String Global) → Placed → List (List ℕ)
stop_lines names lines = codes "stops 1" ∷ (texts names lines ++ codes "end" ∷ [])

abbrev pub stops_text : List (String Global) → List Node → List Stop → List ℕ
stops_text names nodes stops = text_of (stop_lines names (lines_of nodes stops))

-- a text is that of the stops of a program by the least solution of its system
pub record IsProgramStops (p : Program) (space : List Location) (system : System) (text : List ℕ) : Type 0 where
  pub family : Family
  pub least : IsLeast system family
  pub names : List (String Global)
  pub names_are : map string_bytes names ≡ p.names.items
  pub stops : List Stop
  pub listed : AreStops (solution_of p space system family) stops
  pub text_is : text ≡ stops_text names p.nodes.items stops
