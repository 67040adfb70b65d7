-- The constraints that are made are those that the program demands, each once.
use Rattle.std.proofs.Common.{◌≡◌, ℕ, List, [], ◌∷◌, ◌++◌, Option, length, map, refl, ap, sym, subst}
use Rattle.std.specs.Prelude.{option_and_then, IsPermutation}
use Rattle.std.specs.List.{slice_get, range_with_len}
use Rattle.std.proofs.lemmas.List.Sorted.{IsPermutation-map, IsPermutation-append_left}
use Rattle.c_types.specs.declared.key.ObjectKey.{ObjectKey}
use Rattle.c_types.specs.declared.key.ObjectKey.TheVariants.{Entity as EntityKey, Library}
use Rattle.core_tree.specs.declared.node.Program.{Program}
use Rattle.core_tree.specs.Typed.{CoreTrees, trees_in}
use Rattle.sol_model.specs.declared.system.Constraint.{Constraint}
use Rattle.sol_model.specs.declared.system.Constraint.TheVariants.{Call}
use Rattle.obj_space.specs.View.{SpaceView}
use Rattle.normal_form.specs.declared.normal.Normal.{Normal}
use Rattle.normal_form.specs.Assignments.{assignments_of}
use Rattle.row_numbers.specs.declared.functions.Role.TheVariants.{Main}
use Rattle.row_numbers.specs.Functions.{keys_in, parameters_of}
use Rattle.row_numbers.specs.Setting.{Setting}
use Rattle.normal_form.specs.SystemOf.{constraint_of, held_by, library_constraints, start_constraints, second_of, demands_of, setting_of, IsWhole}
use Rattle.constraints.specs.System.{first_entity, start_list, constraint_list}

same_second : (u : CoreTrees) (s : SpaceView) (keys : List ObjectKey) → option_and_then (λ main. slice_get (parameters_of u s main) 1) (first_entity keys) ≡ second_of u s keys
same_second u s [] = refl
same_second u s (EntityKey e ∷ rest) = refl
same_second u s (key ∷ rest) = refl

start_is : (u : CoreTrees) (s : SpaceView) (entries : List ℕ) → start_list u s entries ≡ start_constraints u s entries
start_is u s [] = ap (λ (o : Option ObjectKey). held_by (option_and_then s.first o) (s.first (Library 9))) (same_second u s (keys_in Main u.entities))
start_is u s (e ∷ rest) = refl

pub listed : (p : Program) (s : SpaceView) (normal : Normal) (whole : IsWhole p s normal) → IsPermutation (demands_of (setting_of p s whole.owners) (length normal.calls)) (constraint_list (trees_in p) s p.entries.items normal)
listed p s normal whole =
    let w : Setting = setting_of p s whole.owners in
    let nodes : List Constraint = map constraint_of (assignments_of w) in
    let made : List Constraint = map constraint_of normal.assignments in
    let rules : List Constraint = map (λ (call : ℕ). Call call) (range_with_len 0 (length normal.calls)) in
    let held : List Constraint = library_constraints s in
    let begun : List Constraint = start_constraints (trees_in p) s p.entries.items in
    let by_nodes : IsPermutation nodes made = IsPermutation-map constraint_of (assignments_of w) normal.assignments whole.assignments in
    let with_rules : IsPermutation (nodes ++ rules) (made ++ rules) = IsPermutation-append_left rules nodes made by_nodes in
    let with_held : IsPermutation (nodes ++ rules ++ held) (made ++ rules ++ held) = IsPermutation-append_left held (nodes ++ rules) (made ++ rules) with_rules in
    subst (λ (list : List Constraint). IsPermutation (nodes ++ rules ++ held ++ begun) (made ++ rules ++ held ++ list)) (sym (start_is (trees_in p) s p.entries.items))
    (IsPermutation-append_left begun (nodes ++ rules ++ held) (made ++ rules ++ held) with_held)
