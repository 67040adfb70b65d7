-- The report: the sets of locations, the targets of calls through pointers, and the edges of the call graph, as
-- lines.
use Rattle.std.specs.Prelude.{◌≡◌, ℕ, ◌+◌, ◌==◌, Bool, false, if◌then◌else◌, List, [], ◌∷◌, ◌++◌, map}
use Rattle.std.specs.Prelude.{flat_map, slice_get, length, codes, decimal, String, string_bytes}
use Rattle.std.specs.List.{filter, filter_map, range_with_len}
use Rattle.std.specs.Option.{option_map_or}
use Rattle.std.specs.Ordering.{nat_cmp, ordering_then}
use Rattle.std.specs.BTreeMap.{insert_entry}
use Rattle.std.specs.declared.cmp.Ordering.{Ordering}
use Rattle.std.specs.declared.alloc.Global.{Global}
use Rattle.pta_base.specs.declared.place.Place.{Place}
use Rattle.sol_model.specs.declared.system.System.{System}
use Rattle.sol_model.specs.declared.system.LocationFact.{LocationFact}
use Rattle.sol_model.specs.declared.system.CallSite.{CallSite}
use Rattle.sol_model.specs.declared.system.Function.{Function}
use Rattle.sol_model.specs.Families.{Family}
use Rattle.call_graph.specs.Graph.{IsGraph}
use Rattle.obj_space.specs.declared.location.Location.{Location}
use Rattle.alias_query.specs.Asked.{has_line}
pub use Rattle.call_graph.specs.row_members.Members.{members_in}

-- ---- names
-- the name of a location
abbrev pub name_in : List Location → ℕ → List ℕ
name_in space location = option_map_or (λ (known : Location). known.name) (slice_get space location) []

-- a space and the name, for each of these locations
abbrev pub names_of : List Location → List ℕ → List ℕ
names_of space locations = flat_map (λ location. codes " " ++ name_in space location) locations

-- ---- sets
-- whether the set of a location has a line
abbrev pub has_set : List Location → ℕ → Bool
has_set space location = option_map_or has_line (slice_get space location) false

-- the line of a location's set
abbrev pub set_line : List Location → System → Family → ℕ → List ℕ
set_line space system F location =
    codes "set " ++ name_in space location ++ codes ":" ++ names_of space (members_in system F location)

-- the lines of sets, in order of location
abbrev pub set_lines : List Location → System → Family → List (List ℕ)
set_lines space system F = map (set_line space system F) (filter (has_set space) (range_with_len 0 (length space)))

-- ---- calls
-- the function of a number has that signature
abbrev pub agrees : System → ℕ → ℕ → Bool
agrees system signature number =
    option_map_or (λ (function : Function). function.signature == signature)
    (slice_get system.functions number) false

-- a location is a function of that signature
abbrev pub is_function : System → ℕ → ℕ → Bool
is_function system signature location =
    option_map_or (λ (fact : LocationFact). option_map_or (agrees system signature) fact.function false)
    (slice_get system.locations location) false

-- the targets of a call, in order of location: the functions that its callee's row has, of its signature
abbrev pub targets_in : System → Family → CallSite → List ℕ
targets_in system F call = filter (is_function system call.signature) (members_in system F call.callee)

-- the name of a unit
abbrev pub unit_name : List (String Global) → ℕ → List ℕ
unit_name names unit = option_map_or (λ (name : String Global). string_bytes name) (slice_get names unit) []

-- a place, with the line and the column as decimal numbers
abbrev pub place_text : List (String Global) → Place → List ℕ
place_text names place =
    unit_name names place.unit ++ codes ":" ++ decimal place.line ++ codes ":" ++ decimal place.column

-- the line of a call
abbrev pub call_line : List Location → List (String Global) → System → Family → CallSite → List ℕ
call_line space names system F call =
    codes "call " ++ place_text names call.place ++ codes ":" ++ names_of space (targets_in system F call)

-- where a call stands: its unit, line and column, and its number among the calls
abbrev pub Spot : Type 0
Spot = ℕ × ℕ × ℕ × ℕ

-- by unit, line, column and number
abbrev pub by_place : Spot → Spot → Ordering
by_place a b =
    ordering_then (nat_cmp a.0 b.0)
    (ordering_then (nat_cmp a.1 b.1) (ordering_then (nat_cmp a.2 b.2) (nat_cmp a.3 b.3)))

-- calls' numbers, each under where the call stands
abbrev pub Placed : Type 0
Placed = List (Spot × ℕ)

-- a call's number, unless the call names its function
abbrev pub placed : ℕ → CallSite → Placed
placed number call =
    if call.direct then [] else ((call.place.unit, call.place.line, call.place.column, number), number) ∷ []

-- those of these calls, the first of them that with this number
abbrev pub all_placed : ℕ → List CallSite → Placed
all_placed number [] = []
all_placed number (call ∷ calls) = placed number call ++ all_placed (number + 1) calls

-- these put in their places among those
abbrev pub in_order : Placed → Placed → Placed
in_order done [] = done
in_order done (one ∷ rest) = in_order (insert_entry by_place done one.0 one.1) rest

-- the calls of these numbers
abbrev pub calls_at : List CallSite → Placed → List CallSite
calls_at calls numbers = filter_map (λ (one : Spot × ℕ). slice_get calls one.1) numbers

-- the calls that don't name their function, in order of unit and place
abbrev pub calls_in_order : List CallSite → List CallSite
calls_in_order calls = calls_at calls (in_order [] (all_placed 0 calls))

-- the lines of calls
abbrev pub call_lines : List Location → List (String Global) → System → Family → List (List ℕ)
call_lines space names system F = map (call_line space names system F) (calls_in_order system.calls)

-- ---- edges
-- the name of a function
abbrev pub function_name : List Location → System → ℕ → List ℕ
function_name space system number =
    option_map_or (λ (function : Function). name_in space function.location) (slice_get system.functions number) []

-- the line of a caller and a callee
abbrev pub edge_line : List Location → System → ℕ × ℕ → List ℕ
edge_line space system pair =
    codes "edge " ++ function_name space system pair.0 ++ codes " " ++ function_name space system pair.1

-- ---- the report
-- its lines, with the edges of the call graph
abbrev pub report_lines : List Location → List (String Global) → System → Family → List (ℕ × ℕ) → List (List ℕ)
report_lines space names system F edges =
    codes "pta 1"
    ∷ (set_lines space system F
    ++ (call_lines space names system F ++ (map (edge_line space system) edges ++ codes "end" ∷ [])))

-- lines, each ended by one line feed
abbrev pub text_of : List (List ℕ) → List ℕ
text_of lines = flat_map (λ line. line ++ codes "\n") lines

-- a text is the report of a family of rows
pub record IsReport (space : List Location) (names : List (String Global)) (system : System) (F : Family)
    (text : List ℕ) : Type 0 where
  pub edges : List (ℕ × ℕ)
  pub graph : IsGraph system F edges
  pub text_is : text ≡ text_of (report_lines space names system F edges)
