-- All constraints of a system are in range.
use Rattle.std.proofs.Common.{arith, ◌≡◌, ℕ, ◌<◌, ◌≤◌, Bool, true, false, cond, List, [], ◌∷◌, ◌++◌, length, map, get_or, Option, Some, None, slice_get, refl, sym, subst}
use Rattle.std.specs.Prelude.{◌==◌, not, option_and_then}
use Rattle.std.specs.List.{All, filter, flat_map, range_with_len}
use Rattle.std.proofs.lemmas.List.Elements.{All-nil, All-cons, All-head, All-tail, All-map, All-append, All-contains, Contains-get_or}
use Rattle.std.proofs.lemmas.List.Concat.{flat_map-cons}
use Rattle.c_types.specs.declared.key.ObjectKey.{ObjectKey}
use Rattle.c_types.specs.declared.key.ObjectKey.TheVariants.{Entity as EntityKey, Library, Outside}
use Rattle.c_types.specs.Made.{IsMade, AreNamed}
use Rattle.core_tree.specs.declared.node.Program.{Program}
use Rattle.core_tree.specs.declared.node.Node.{Node}
use Rattle.core_tree.specs.Typed.{trees_in}
use Rattle.core_tree.specs.Valid.{IsEntryAt}
use Rattle.sol_model.specs.declared.system.System.{System}
use Rattle.sol_model.specs.declared.system.Constraint.{Constraint}
use Rattle.sol_model.specs.declared.system.Constraint.TheVariants.{Address as AddressForm, Copy as CopyForm}
use Rattle.sol_model.specs.declared.system.TypeFact.{TypeFact}
use Rattle.sol_model.specs.Systems.{IsConstraintValid}
use Rattle.obj_space.specs.declared.location.Location.{Location}
use Rattle.obj_space.specs.Space.{locations_in}
use Rattle.obj_space.specs.Spots.{HasWholes}
use Rattle.obj_space.specs.View.{first_from, view_of}
use Rattle.row_numbers.specs.declared.functions.Role.TheVariants.{Main}
use Rattle.row_numbers.specs.Functions.{keys_in, number_of, parameters_of}
use Rattle.row_numbers.specs.Setting.{Setting, none_row}
use Rattle.row_numbers.proofs.FrameLemmas.{locations_within}
use Rattle.normal_form.specs.declared.normal.Assignment.{Assignment}
use Rattle.normal_form.specs.Assignments.{assignments_by, assignments_at, assignments_of}
use Rattle.normal_form.specs.Facts.{parameter_rows}
use Rattle.normal_form.proofs.Demanding.{demanded}
use Rattle.normal_form.specs.SystemOf.{held_by, library_pair, library_constraints, second_of, argument_constraints, present_rows, taken_in, given_out, result_rows, entry_constraints, outside_constraints, start_constraints, Demands, by_node, by_call, by_library, by_start, setting_of, SystemOf}
use Rattle.linked_laws.proofs.system_laws.Calls.{first_below}
use Rattle.linked_laws.proofs.system_laws.Rows.{result_rows_within}
use Rattle.linked_laws.proofs.system_laws.parameter_laws.Fitting.{parameters_fit}
use Rattle.linked_laws.proofs.system_laws.demand_laws.Numbered.{body_stands}
use Rattle.linked_laws.specs.system_laws.parameter_laws.Fitting.{AreTypedDemands}
use Rattle.linked_laws.specs.merged_laws.Merged.{TagsFit}
use Rattle.linked_laws.specs.node_laws.Rows.{HasRows}
use Rattle.linked_laws.proofs.system_laws.fact_laws.Facts.{facts_valid}
use Rattle.linked_laws.specs.return_laws.Returns.{HasReturns}
use Rattle.linked_laws.specs.call_laws.Values.{AreCallsOfValues}
use Rattle.linked_laws.specs.system_laws.demand_laws.Demands.{InitialsFit, DemandsFit}
use Rattle.linked_laws.proofs.system_laws.demand_laws.Fitting.{Fits, row_in, count_is}
use Rattle.linked_laws.proofs.system_laws.demand_laws.Nodes.{node_right}

-- what a filter keeps of what is all so
all_kept : {X : Type 0} (P : X → Type 0) (test : X → Bool) (xs : List X) → All P xs → All P (filter test xs)
all_kept P test [] h = All-nil P
all_kept P test (x ∷ xs) h = by (test x) (all_kept P test xs (All-tail P x xs h))
  where
    by : (b : Bool) → All P (filter test xs) → All P (cond b (x ∷ filter test xs) (filter test xs))
    by true rest = All-cons P x (filter test xs) (All-head P x xs h) rest
    by false rest = rest

module _ (p : Program) (space : List Location) (is_space : space ≡ locations_in p) (system : System) (is : SystemOf p (view_of space) system) (made : IsMade p.types) (named : AreNamed p.types) (wholes : HasWholes p.types space) (some : 0 < length space) (fit : TagsFit p.types) (rows : HasRows p) (returns : HasReturns p) (values : AreCallsOfValues p) (initials : InitialsFit p (view_of space) system) (entered : All (λ e. IsEntryAt (trees_in p) e) p.entries.items) where
  abbrev w : Setting
  w = setting_of p (view_of space) is.owners

  abbrev Right : Assignment → Type 0
  Right a = Fits p space system is a

  at_right : (n : ℕ) → All Right (assignments_at w n)
  at_right n = by (slice_get p.nodes.items n) refl
    where
      by : (o : Option Node) → slice_get p.nodes.items n ≡ o → All Right (assignments_by w n o)
      by None at = All-nil Right
      by (Some node) at = node_right p space is_space system is made named some fit values returns initials rows n node at

  all_right : (ns : List ℕ) → All Right (flat_map (assignments_at w) ns)
  all_right [] = All-nil Right
  all_right (n ∷ ns) = subst (λ (list : List Assignment). All Right list) (sym (flat_map-cons (assignments_at w) n ns)) (All-append Right (assignments_at w n) (flat_map (assignments_at w) ns) (at_right n) (all_right ns))

  -- what objects have at the start
  abbrev AllValid : List Constraint → Type 0
  AllValid list = All (IsConstraintValid system) list

  below : (key : ObjectKey) (l : ℕ) → first_from 0 space key ≡ Some l → l < length space
  below key l e = (let less = first_below 0 space key l e in omega arith)

  held_valid : (holder held : Option ℕ) → ((l : ℕ) → holder ≡ Some l → l < length space) → ((l : ℕ) → held ≡ Some l → l < length space) → AllValid (held_by holder held)
  held_valid None held a b = All-nil (IsConstraintValid system)
  held_valid (Some row) None a b = All-nil (IsConstraintValid system)
  held_valid (Some row) (Some location) a b =
      let x = a row refl in
      let y = b location refl in
      let many = locations_within (trees_in p) (view_of space) in
      let count = count_is p space system is in
      All-cons (IsConstraintValid system) _ [] (row_in p space system is row (omega arith), omega arith) (All-nil (IsConstraintValid system))

  library_valid : AllValid (library_constraints (view_of space))
  library_valid =
      let pair : (a b : ℕ) → AllValid (library_pair (view_of space) a b) = λ a b. held_valid (first_from 0 space (Library a)) (first_from 0 space (Library b)) (below (Library a)) (below (Library b)) in
      let s = view_of space in
      All-append (IsConstraintValid system) (library_pair s 3 2 ++ library_pair s 4 2 ++ library_pair s 5 2 ++ library_pair s 7 8) (library_pair s 9 10)
      (All-append (IsConstraintValid system) (library_pair s 3 2 ++ library_pair s 4 2 ++ library_pair s 5 2) (library_pair s 7 8)
      (All-append (IsConstraintValid system) (library_pair s 3 2 ++ library_pair s 4 2) (library_pair s 5 2)
      (All-append (IsConstraintValid system) (library_pair s 3 2) (library_pair s 4 2) (pair 3 2) (pair 4 2)) (pair 5 2))
      (pair 7 8))
      (pair 9 10)

  arguments_valid : AllValid (argument_constraints (trees_in p) (view_of space))
  arguments_valid =
      held_valid (option_and_then (first_from 0 space) (second_of (trees_in p) (view_of space) (keys_in Main p.entities.items))) (first_from 0 space (Library 9))
      (second_below (second_of (trees_in p) (view_of space) (keys_in Main p.entities.items))) (below (Library 9))
    where
      second_below : (o : Option ObjectKey) (l : ℕ) → option_and_then (first_from 0 space) o ≡ Some l → l < length space
      second_below None l e = cc
      second_below (Some key) l e = below key l e

  -- rows of the system, and what is copied from and to what lies outside
  abbrev AreWithin : List ℕ → Type 0
  AreWithin rows = All (λ row. row ≤ none_row (trees_in p) (view_of space)) rows

  present_within : (rows : List ℕ) → AreWithin rows → AreWithin (present_rows (trees_in p) (view_of space) rows)
  present_within rows h = all_kept (λ row. row ≤ none_row (trees_in p) (view_of space)) (λ row. not (row == none_row (trees_in p) (view_of space))) rows h

  outside_row : (outside : ℕ) → outside < length space → outside < system.rows
  outside_row outside lt =
      let many = locations_within (trees_in p) (view_of space) in
      row_in p space system is outside (omega arith)

  taken_valid : (outside : ℕ) → outside < length space → (rows : List ℕ) → AreWithin rows → AllValid (taken_in (trees_in p) (view_of space) outside rows)
  taken_valid outside lt rows h =
      All-map (IsConstraintValid system) (λ row. CopyForm outside row) (present_rows (trees_in p) (view_of space) rows)
      (λ k d in_list. (outside_row outside lt, row_in p space system is _ (present_within rows h k d in_list)))

  given_valid : (outside : ℕ) → outside < length space → (rows : List ℕ) → AreWithin rows → AllValid (given_out (trees_in p) (view_of space) outside rows)
  given_valid outside lt rows h =
      All-map (IsConstraintValid system) (λ row. CopyForm row outside) (present_rows (trees_in p) (view_of space) rows)
      (λ k d in_list. (row_in p space system is _ (present_within rows h k d in_list), outside_row outside lt))

  parameters_valid : (outside : ℕ) → outside < length space → (keys : List ObjectKey) → All AreWithin (map (parameter_rows (trees_in p) (view_of space)) keys)
      → AllValid (flat_map (λ key. taken_in (trees_in p) (view_of space) outside (parameter_rows (trees_in p) (view_of space) key)) keys)
  parameters_valid outside lt [] h = All-nil (IsConstraintValid system)
  parameters_valid outside lt (key ∷ keys) h =
      let taken = λ (k : ObjectKey). taken_in (trees_in p) (view_of space) outside (parameter_rows (trees_in p) (view_of space) k) in
      let first = All-head AreWithin (parameter_rows (trees_in p) (view_of space) key) (map (parameter_rows (trees_in p) (view_of space)) keys) h in
      let rest = All-tail AreWithin (parameter_rows (trees_in p) (view_of space) key) (map (parameter_rows (trees_in p) (view_of space)) keys) h in
      subst AllValid (sym (flat_map-cons taken key keys))
      (All-append (IsConstraintValid system) (taken key) (flat_map taken keys) (taken_valid outside lt (parameter_rows (trees_in p) (view_of space) key) first) (parameters_valid outside lt keys rest))

  entry_valid : (outside : ℕ) → outside < length space → (e : ℕ) → IsEntryAt (trees_in p) e → AllValid (entry_constraints (trees_in p) (view_of space) outside e)
  entry_valid outside lt e (entity, at, entry) =
      let u = trees_in p in
      let s = view_of space in
      let rows = result_rows_within u s (number_of u s e) (EntityKey e) (body_stands p space is_space e entity at entry.storage) in
      All-append (IsConstraintValid system) (flat_map (λ key. taken_in u s outside (parameter_rows u s key)) (parameters_of u s e)) (given_out u s outside (result_rows u s e))
      (parameters_valid outside lt (parameters_of u s e) (parameters_fit p space is_space wholes e)) (given_valid outside lt (result_rows u s e) rows)

  entries_valid : (outside : ℕ) → outside < length space → (es : List ℕ) → All (λ e. IsEntryAt (trees_in p) e) es → AllValid (flat_map (entry_constraints (trees_in p) (view_of space) outside) es)
  entries_valid outside lt [] h = All-nil (IsConstraintValid system)
  entries_valid outside lt (e ∷ es) h =
      let first = All-head (λ x. IsEntryAt (trees_in p) x) e es h in
      let rest = All-tail (λ x. IsEntryAt (trees_in p) x) e es h in
      subst AllValid (sym (flat_map-cons (entry_constraints (trees_in p) (view_of space) outside) e es))
      (All-append (IsConstraintValid system) (entry_constraints (trees_in p) (view_of space) outside e) (flat_map (entry_constraints (trees_in p) (view_of space) outside) es)
      (entry_valid outside lt e first) (entries_valid outside lt es rest))

  outside_valid : (es : List ℕ) → All (λ e. IsEntryAt (trees_in p) e) es → (o : Option ℕ) → ((l : ℕ) → o ≡ Some l → l < length space) → AllValid (outside_constraints (trees_in p) (view_of space) es o)
  outside_valid es h None f = All-nil (IsConstraintValid system)
  outside_valid es h (Some outside) f =
      let lt = f outside refl in
      let count = count_is p space system is in
      All-cons (IsConstraintValid system) (AddressForm outside outside) (flat_map (entry_constraints (trees_in p) (view_of space) outside) es)
      (outside_row outside lt, omega arith) (entries_valid outside lt es h)

  start_valid : (es : List ℕ) → All (λ e. IsEntryAt (trees_in p) e) es → AllValid (start_constraints (trees_in p) (view_of space) es)
  start_valid [] h = arguments_valid
  start_valid (e ∷ es) h = outside_valid (e ∷ es) h (first_from 0 space Outside) (below Outside)

  demanded_valid : (c : Constraint) → Demands w (length system.calls) c → IsConstraintValid system c
  demanded_valid c (by_node {a = a} there same) = subst (IsConstraintValid system) same (All-contains Right (assignments_of w) a (all_right (range_with_len 0 (length p.nodes.items))) there)
  demanded_valid c (by_call {call = call} lt same) = subst (IsConstraintValid system) same lt
  demanded_valid c (by_library there) = All-contains (IsConstraintValid system) (library_constraints (view_of space)) c library_valid there
  demanded_valid c (by_start there) = All-contains (IsConstraintValid system) (start_constraints (trees_in p) (view_of space) p.entries.items) c (start_valid p.entries.items entered) there

  fits_all : AreTypedDemands system
  fits_all = record {
    types = subst (λ (list : List TypeFact). All (λ fact. All (λ position. position < fact.nodes) fact.members) list) (sym is.types) (facts_valid p.types made fit);
    constraints = λ k d lt. demanded_valid (get_or system.constraints k d) ((demanded p (view_of space) system is (get_or system.constraints k d)).0 (Contains-get_or system.constraints k d lt));
  }

pub demands_fit : DemandsFit
demands_fit p space system is_space is made named wholes some fit rows returns values initials entered =
    fits_all p space is_space system is made named wholes some fit rows returns values initials entered
