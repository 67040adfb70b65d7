-- What a system knows of a program's locations, types and functions.
use Rattle.std.specs.Prelude.{◌≡◌, ℕ, ◌+◌, ◌==◌, Bool, false, if◌then◌else◌, List, [], ◌∷◌, ◌++◌, Option, Some, None}
use Rattle.std.specs.Prelude.{length, map, replicate, slice_get, unwrap_or}
use Rattle.std.specs.List.{range_with_len, list_any, AllZip, enumerate_from}
use Rattle.pta_base.specs.declared.effect.Effect.{Effect}
use Rattle.c_types.specs.declared.key.ObjectKey.{ObjectKey}
use Rattle.c_types.specs.declared.key.ObjectKey.TheVariants.{Entity as EntityKey, Function as FunctionKey}
use Rattle.c_types.specs.declared.key.ObjectKey.TheVariants.{Varargs as VarargsKey}
use Rattle.c_types.specs.declared.term.Term.{Term}
use Rattle.c_types.specs.declared.term.Term.TheVariants.{Union}
use Rattle.c_types.specs.declared.term.MemberTerm.{MemberTerm}
use Rattle.c_types.specs.Trees.{Ctype, StructureOf, UnionOf}
use Rattle.c_types.specs.Table.{Table, members_in}
use Rattle.core_tree.specs.Typed.{CoreTrees}
use Rattle.sol_model.specs.declared.system.LocationFact.{LocationFact}
use Rattle.sol_model.specs.declared.system.TypeFact.{TypeFact}
use Rattle.sol_model.specs.declared.system.Function.{Function}
use Rattle.obj_space.specs.View.{SpaceView}
use Rattle.row_numbers.specs.Kept.{nodes_of, member_node, kept_at, row_or, row_list}
use Rattle.lib_summaries.specs.Table.{effects_of}
use Rattle.row_numbers.specs.Functions.{function_at, number_at, functions_of, key_type, parameters_of}
use Rattle.row_numbers.specs.Setting.{none_row, result_row, result_nodes, takes_further}
use Rattle.call_sites.specs.Signatures.{IsSignature, called_type}

-- the number of a function, where there is one
abbrev pub number_if : Option ObjectKey → ℕ → Option ℕ
number_if None before = None
number_if (Some key) before = Some before

-- a location: whether it is collapsed, the number of its type, and the number of the function that it is
abbrev pub location_fact : CoreTrees → SpaceView → ℕ → LocationFact
location_fact u s location = record {
  collapsed = s.collapsed location;
  ty = s.node_type location;
  function = number_if (function_at u s location) (number_at u s location);
}

abbrev pub location_facts : CoreTrees → SpaceView → List LocationFact
location_facts u s = map (location_fact u s) (range_with_len 0 s.count)

-- one node without members
abbrev pub plain_fact : TypeFact
plain_fact = record { nodes = 1; members = [] }

abbrev pub is_union : ℕ → Term → Bool
is_union tag (Union other) = other == tag
is_union tag term = false

-- the type of a tag
abbrev pub tagged : Table → ℕ → Ctype
tagged table tag = if list_any (is_union tag) table.terms then UnionOf tag else StructureOf tag

-- the position of the node of each of so many members, and 0 for a flexible array
abbrev pub positions_by : Table → Ctype → ℕ → List ℕ
positions_by table t members = map (member_node table t) (range_with_len 0 members)

abbrev pub tag_fact_by : Table → Ctype → Option (List MemberTerm) → TypeFact
tag_fact_by table t None = plain_fact
tag_fact_by table t (Some members) =
    record { nodes = length (nodes_of table t); members = positions_by table t (length members) }

-- a structure or union: its nodes and the positions of its members; where it has no member list, one node
abbrev pub tag_fact : Table → ℕ → TypeFact
tag_fact table tag = tag_fact_by table (tagged table tag) (members_in table tag)

-- the facts of the types without tags, then those of each tag
abbrev pub type_facts : Table → List TypeFact
type_facts table = replicate 8 plain_fact ++ map (tag_fact table) (range_with_len 0 table.tags)

-- a kept node of a parameter has the row of its location
abbrev pub cell_list : ℕ → ℕ → List Ctype → List ℕ
cell_list none first nodes =
    map (λ i. row_or none (first + i) (kept_at (slice_get nodes i))) (range_with_len 0 (length nodes))

abbrev pub parameter_rows : CoreTrees → SpaceView → ObjectKey → List ℕ
parameter_rows u s key = cell_list (none_row u s) (unwrap_or (s.first key) 0) (nodes_of u.types (key_type u key))

-- behind the parameters of a variadic function stands one for all further arguments
abbrev pub further_rows : CoreTrees → SpaceView → ℕ → List (List ℕ)
further_rows u s e =
    if takes_further (key_type u (EntityKey e)) then (unwrap_or (s.first (VarargsKey e)) 0 ∷ []) ∷ [] else []

-- the parameters of a function that the program defines
abbrev pub parameters_by : CoreTrees → SpaceView → ObjectKey → List (List ℕ)
parameters_by u s (EntityKey e) = map (parameter_rows u s) (parameters_of u s e) ++ further_rows u s e
parameters_by u s key = []

abbrev pub library_by : ObjectKey → Option ℕ
library_by (FunctionKey k) = Some k
library_by key = None

abbrev pub effects_by : ObjectKey → List Effect
effects_by (FunctionKey k) = effects_of k
effects_by key = []

-- the function of that number and key
pub record IsFunctionFact (u : CoreTrees) (s : SpaceView) (number : ℕ) (key : ObjectKey)
    (function : Function) : Type 0 where
  pub location : function.location ≡ unwrap_or (s.first key) 0
  pub signature : IsSignature u.types (called_type (key_type u key)) function.signature
  pub parameters : function.parameters ≡ parameters_by u s key
  pub result : function.result ≡ row_list (none_row u s) (result_row u s number) (result_nodes u key)
  pub library : function.library ≡ library_by key
  pub effects : function.effects ≡ effects_by key

-- a fact for each function, in order
abbrev pub AreFunctions : CoreTrees → SpaceView → List Function → Type 0
AreFunctions u s functions =
    AllZip (λ entry function. IsFunctionFact u s entry.0 entry.1 function)
    (enumerate_from 0 (functions_of u s)) functions
