-- The system of a program.
use Rattle.std.specs.Prelude.{◌≡◌, ℕ, ◌<◌, ◌≤◌, ◌^◌, List, [], ◌∷◌, ◌++◌, Option, Some, None, length}
use Rattle.std.specs.Prelude.{◌==◌, slice_get, Contains, option_and_then, map, filter, not, IsPermutation}
use Rattle.std.specs.List.{flat_map, range_with_len}
use Rattle.c_types.specs.declared.key.ObjectKey.{ObjectKey}
use Rattle.c_types.specs.declared.key.ObjectKey.TheVariants.{Entity as EntityKey, Library, Outside}
use Rattle.core_tree.specs.declared.node.Program.{Program}
use Rattle.core_tree.specs.Typed.{CoreTrees, trees_in}
use Rattle.sol_model.specs.declared.system.System.{System}
use Rattle.sol_model.specs.declared.system.Constraint.{Constraint}
use Rattle.sol_model.specs.declared.system.Constraint.TheVariants.{Address as AddressForm, Copy as CopyForm}
use Rattle.sol_model.specs.declared.system.Constraint.TheVariants.{Load as LoadForm, Store as StoreForm}
use Rattle.sol_model.specs.declared.system.Constraint.TheVariants.{Field as FieldForm, Call}
use Rattle.obj_space.specs.View.{SpaceView}
use Rattle.normal_form.specs.declared.normal.Assignment.{Assignment}
use Rattle.normal_form.specs.declared.normal.Assignment.TheVariants.{Address, Copy, Load, Store, Field}
use Rattle.normal_form.specs.declared.normal.Normal.{Normal}
use Rattle.row_numbers.specs.Functions.{keys_in, number_of, parameters_of}
use Rattle.row_numbers.specs.Kept.{row_list}
use Rattle.row_numbers.specs.declared.functions.Role.TheVariants.{Main}
use Rattle.row_numbers.specs.Around.{AreOwners}
use Rattle.row_numbers.specs.Setting.{Setting, none_row, result_row, result_nodes, row_total}
use Rattle.normal_form.specs.Assignments.{assignments_of}
use Rattle.call_sites.specs.Calls.{AreCalls}
use Rattle.normal_form.specs.Facts.{location_facts, type_facts, parameter_rows, AreFunctions}

-- an assignment as the constraint of its name
abbrev pub constraint_of : Assignment → Constraint
constraint_of (Address to location) = AddressForm to location
constraint_of (Copy to from) = CopyForm from to
constraint_of (Load to pointer ty sub) = LoadForm pointer to ty sub
constraint_of (Store pointer from ty sub) = StoreForm pointer from ty sub
constraint_of (Field to from ty member) = FieldForm from to ty member

-- an object has another one
abbrev pub held_by : Option ℕ → Option ℕ → List Constraint
held_by (Some row) (Some location) = AddressForm row location ∷ []
held_by holder held = []

abbrev pub library_pair : SpaceView → ℕ → ℕ → List Constraint
library_pair s holder held = held_by (s.first (Library holder)) (s.first (Library held))

-- stdin, stdout and stderr have a stream, the table of characters' classes has its cells, and the list of arguments
-- has an argument
abbrev pub library_constraints : SpaceView → List Constraint
library_constraints s =
    library_pair s 3 2 ++ library_pair s 4 2 ++ library_pair s 5 2 ++ library_pair s 7 8 ++ library_pair s 9 10

-- the second parameter of main
abbrev pub second_of : CoreTrees → SpaceView → List ObjectKey → Option ObjectKey
second_of u s (EntityKey main ∷ rest) = slice_get (parameters_of u s main) 1
second_of u s keys = None

-- where main has a second parameter, it has the list of arguments
abbrev pub argument_constraints : CoreTrees → SpaceView → List Constraint
argument_constraints u s =
    held_by (option_and_then s.first (second_of u s (keys_in Main u.entities))) (s.first (Library 9))

-- of these rows, those that aren't the one of nodes without a row
abbrev pub present_rows : CoreTrees → SpaceView → List ℕ → List ℕ
present_rows u s rows = filter (λ row. not (row == none_row u s)) rows

-- what lies outside is copied into each of these rows
abbrev pub taken_in : CoreTrees → SpaceView → ℕ → List ℕ → List Constraint
taken_in u s outside rows = map (λ row. CopyForm outside row) (present_rows u s rows)

-- and each of these rows is copied into what lies outside
abbrev pub given_out : CoreTrees → SpaceView → ℕ → List ℕ → List Constraint
given_out u s outside rows = map (λ row. CopyForm row outside) (present_rows u s rows)

-- the rows of the result of the function that an entity is
abbrev pub result_rows : CoreTrees → SpaceView → ℕ → List ℕ
result_rows u s e = row_list (none_row u s) (result_row u s (number_of u s e)) (result_nodes u (EntityKey e))

-- what lies outside goes into each parameter of an entry, and what the entry gives goes outside
abbrev pub entry_constraints : CoreTrees → SpaceView → ℕ → ℕ → List Constraint
entry_constraints u s outside e =
    flat_map (λ key. taken_in u s outside (parameter_rows u s key)) (parameters_of u s e)
    ++ given_out u s outside (result_rows u s e)

-- what lies outside may point to itself
abbrev pub outside_constraints : CoreTrees → SpaceView → List ℕ → Option ℕ → List Constraint
outside_constraints u s entries None = []
outside_constraints u s entries (Some outside) =
    AddressForm outside outside ∷ flat_map (entry_constraints u s outside) entries

-- what is there when the program begins: at main, its arguments; else what lies outside
abbrev pub start_constraints : CoreTrees → SpaceView → List ℕ → List Constraint
start_constraints u s [] = argument_constraints u s
start_constraints u s entries = outside_constraints u s entries (s.first Outside)

-- what a program demands, each demand once: what its nodes do, in their order, the rule of each call, what the
-- library's objects hold, and what is there when it begins. What two nodes demand in the same words stands twice.
abbrev pub demands_of : Setting → ℕ → List Constraint
demands_of w calls =
    map constraint_of (assignments_of w) ++ map (λ call. Call call) (range_with_len 0 calls)
    ++ library_constraints w.space
    ++ start_constraints w.trees w.space w.entries

-- the same, demand by demand
pub data Demands (w : Setting) (calls : ℕ) (c : Constraint) : Type 0 where
  by_node : {a : Assignment} → Contains (assignments_of w) a → constraint_of a ≡ c → Demands w calls c
  by_call : {call : ℕ} → call < calls → Call call ≡ c → Demands w calls c
  by_library : Contains (library_constraints w.space) c → Demands w calls c
  by_start : Contains (start_constraints w.trees w.space w.entries) c → Demands w calls c

abbrev pub setting_of : Program → SpaceView → List (Option ℕ) → Setting
setting_of p s owners = record { trees = trees_in p; space = s; owners = owners; entries = p.entries.items }

-- S is the system of P, whose locations are those of the space: its constraints are what the program demands, each once,
-- in any order.
pub record SystemOf (p : Program) (s : SpaceView) (system : System) : Type 0 where
  pub owners : List (Option ℕ)
  pub around : AreOwners (trees_in p) owners
  pub rows : system.rows ≡ row_total (trees_in p) s
  pub locations : system.locations ≡ location_facts (trees_in p) s
  pub types : system.types ≡ type_facts p.types
  pub constraints : IsPermutation (demands_of (setting_of p s owners) (length system.calls)) system.constraints
  pub calls : AreCalls (setting_of p s owners) system.calls
  pub functions : AreFunctions (trees_in p) s system.functions

-- the assignments of a program, each once and in any order, and its calls
pub record IsWhole (p : Program) (s : SpaceView) (normal : Normal) : Type 0 where
  pub owners : List (Option ℕ)
  pub around : AreOwners (trees_in p) owners
  pub assignments : IsPermutation (assignments_of (setting_of p s owners)) normal.assignments
  pub calls : AreCalls (setting_of p s owners) normal.calls

-- the normal form of a program; past 2^24 rows it has no lists
pub record NormalOf (p : Program) (s : SpaceView) (normal : Normal) : Type 0 where
  pub rows : normal.rows ≡ row_total (trees_in p) s
  pub whole : row_total (trees_in p) s ≤ 2 ^ 24 → IsWhole p s normal
  pub no_assignments : 2 ^ 24 < row_total (trees_in p) s → normal.assignments ≡ []
  pub no_calls : 2 ^ 24 < row_total (trees_in p) s → normal.calls ≡ []
