-- What a system's making answers.
use Rattle.std.specs.Prelude.{IsFalse, ◌≡◌, ℕ, ◌+◌, ◌*◌, ◌/◌, ◌<◌, ◌≤◌, ◌^◌, ◌++◌, ⊤, List, [], ◌∷◌, Option, Some}
use Rattle.std.specs.Prelude.{None, length, map, slice_get, option_and_then, AllPairs, Vec}
use Rattle.std.specs.declared.alloc.Global.{Global}
use Rattle.std.specs.List.{range_with_len}
use Rattle.c_types.specs.declared.key.ObjectKey.{ObjectKey}
use Rattle.c_types.specs.declared.key.ObjectKey.TheVariants.{Entity as EntityKey, Library, Outside}
use Rattle.sol_model.specs.declared.system.System.{System}
use Rattle.sol_model.specs.declared.system.LocationFact.{LocationFact}
use Rattle.sol_model.specs.declared.system.Constraint.{Constraint}
use Rattle.sol_model.specs.declared.system.Function.{Function}
use Rattle.sol_model.specs.declared.system.Constraint.TheVariants.{Call}
use Rattle.sol_model.specs.Places.{nodes_of}
use Rattle.sol_model.specs.Systems.{location_count, width_of}
use Rattle.normal_form.specs.declared.normal.Normal.{Normal}
use Rattle.row_numbers.specs.declared.functions.Role.TheVariants.{Main}
use Rattle.row_numbers.specs.Functions.{keys_in, parameters_of}
use Rattle.normal_form.specs.SystemOf.{constraint_of, held_by, library_constraints, outside_constraints}
use Rattle.core_tree.specs.declared.node.Program.{Program}
use Rattle.core_tree.specs.Typed.{CoreTrees, trees_in}
use Rattle.obj_space.specs.View.{SpaceView}
use Rattle.row_numbers.specs.Setting.{row_total}
use Rattle.constraints.specs.Owned.{listed}
use Rattle.constraints.specs.declared.fault.SystemFault.{SystemFault}
use Rattle.constraints.specs.declared.fault.SystemFault.TheVariants.{Nodes, Words, OutOfMemory}

-- rows times words per row, of which there is one for each 64 locations
abbrev pub word_total : Program → SpaceView → ℕ
word_total p s = row_total (trees_in p) s * ((s.count + 63) / 64)

-- the limits hold
pub record IsWithin (p : Program) (s : SpaceView) : Type 0 where
  pub nodes : length p.nodes.items ≤ 2 ^ 24
  pub words : word_total p s ≤ 2 ^ 24

-- a fault names the limit that is passed first, and by how much
abbrev pub IsFaultOf : Program → SpaceView → SystemFault → Type 0
IsFaultOf p s (Nodes nodes) = (2 ^ 24 < length p.nodes.items) × (nodes ≡ length p.nodes.items)
IsFaultOf p s (Words words) = (length p.nodes.items ≤ 2 ^ 24) × (2 ^ 24 < word_total p s) × (words ≡ word_total p s)
IsFaultOf p s OutOfMemory = ⊤

abbrev pub first_entity : List ObjectKey → Option ℕ
first_entity (EntityKey e ∷ rest) = Some e
first_entity keys = None

-- the second parameter of main
abbrev pub second_parameter : CoreTrees → SpaceView → Option ObjectKey
second_parameter u s =
    option_and_then (λ main. slice_get (parameters_of u s main) 1) (first_entity (keys_in Main u.entities))

-- the same from lists of each function's parameters
abbrev pub second_in : CoreTrees → List (Vec ObjectKey Global) → Option ObjectKey
second_in u lists =
    option_and_then (λ main. slice_get (listed lists main) 1) (first_entity (keys_in Main u.entities))

-- what is there at the start: main's second parameter has the arguments, or the entries have what lies outside
abbrev pub start_list : CoreTrees → SpaceView → List ℕ → List Constraint
start_list u s [] = held_by (option_and_then s.first (second_parameter u s)) (s.first (Library 9))
start_list u s entries = outside_constraints u s entries (s.first Outside)

-- the constraints in the order in which they are made
abbrev pub constraint_list : CoreTrees → SpaceView → List ℕ → Normal → List Constraint
constraint_list u s entries normal =
    map constraint_of normal.assignments ++ map (λ call. Call call) (range_with_len 0 (length normal.calls))
    ++ library_constraints s
    ++ start_list u s entries

-- a system within the limits has a row for each location, and at most 2^24 words
pub record IsSized (system : System) : Type 0 where
  pub rows : location_count system ≤ system.rows
  pub words : system.rows * width_of system ≤ 2 ^ 24

-- each location of a system has a type, and where it isn't collapsed the nodes under it are locations
abbrev pub AreLocated : System → Type 0
AreLocated system =
    (l : ℕ) (fact : LocationFact)
    → slice_get system.locations l ≡ Some fact
    → (fact.ty < length system.types)
    × (IsFalse fact.collapsed → l + nodes_of system fact.ty ≤ location_count system)

-- functions stand in the order of their locations
abbrev pub AreInOrder : System → Type 0
AreInOrder system = AllPairs (λ (one other : Function). one.location < other.location) system.functions

-- the facts of locations are those of the space
pub record AgreesWith (s : SpaceView) (system : System) : Type 0 where
  pub count : location_count system ≡ s.count
  pub facts : (l : ℕ) (fact : LocationFact)
      → slice_get system.locations l ≡ Some fact
      → (fact.collapsed ≡ s.collapsed l) × (fact.ty ≡ s.node_type l)
