-- In the least solution an allocating function's location stands at its names and at what decays from them alone.
use Rattle.std.proofs.Common.{◌≡◌, ◌∙◌, ◌⊎◌, ◌&&◌, ◌==◌, ◌<◌, inl, inr, ℕ, Bool, true, false, cond, List, [], ◌∷◌, ◌++◌, length, Option, Some, None, slice_get, get_or, refl, sym, ap, subst}
use Rattle.std.specs.Prelude.{option_and_then, not}
use Rattle.std.specs.List.{All, flat_map, range_with_len}
use Rattle.std.proofs.lemmas.Bool.{false≢true}
use Rattle.std.proofs.lemmas.Bool.Decides.{eqb_tells}
use Rattle.std.proofs.lemmas.List.Elements.{All-nil, All-cons, All-append, All-contains, All-map, All-filter}
use Rattle.std.proofs.lemmas.List.Concat.{flat_map-cons}
use Rattle.std.proofs.lemmas.Option.{slice_get_within, slice_get-get_or}
use Rattle.c_types.specs.declared.key.ObjectKey.{ObjectKey}
use Rattle.c_types.specs.declared.key.ObjectKey.TheVariants.{Entity as EntityKey, Library as LibraryKey, Function as FunctionKey, Outside as OutsideKey}
use Rattle.c_types.specs.Table.{type_of}
use Rattle.core_tree.specs.declared.node.Entity.{Entity}
use Rattle.core_tree.specs.declared.node.Node.{Node}
use Rattle.core_tree.specs.declared.node.NodeKind.{NodeKind}
use Rattle.core_tree.specs.declared.node.NodeKind.TheVariants.{Decay}
use Rattle.core_tree.specs.declared.node.Program.{Program}
use Rattle.core_tree.specs.Rows.{RowOf, CallRow, DecayRow}
use Rattle.core_tree.specs.Typed.{PlaceNode, ValueNode, sort_of, sort_in, sort_at, trees_in}
use Rattle.sol_model.specs.declared.system.System.{System}
use Rattle.sol_model.specs.declared.system.Constraint.{Constraint}
use Rattle.sol_model.specs.declared.system.Constraint.TheVariants.{Address as AddressForm, Copy as CopyForm}
use Rattle.sol_model.specs.Families.{Family, Has, IsInside}
use Rattle.sol_model.specs.Solutions.{IsClosed, IsLeast, IsGiven}
use Rattle.sol_model.specs.Systems.{IsValid, IsConstraintValid}
use Rattle.sol_model.proofs.Monotone.{more_edge, more_fact}
use Rattle.sol_model.proofs.Closed.{given_more, closed_has, closed_from_given}
use Rattle.obj_made.specs.Uses.{is_allocator, is_starred, entity_number}
use Rattle.obj_space.specs.declared.location.Location.{Location}
use Rattle.obj_space.specs.View.{first_from, view_of}
use Rattle.row_numbers.specs.Objects.{library_number}
use Rattle.row_numbers.specs.Functions.{number_of, parameters_of}
use Rattle.row_numbers.specs.Setting.{Setting, row, none_row, result_row, result_nodes}
use Rattle.call_sites.specs.Calls.{head_of, name_of, name_at, under_decay, named_callee, named_library}
use Rattle.normal_form.specs.declared.normal.Assignment.{Assignment}
use Rattle.normal_form.specs.Assignments.{assignments_by, assignments_at, assignments_of}
use Rattle.normal_form.specs.Facts.{parameter_rows}
use Rattle.normal_form.proofs.Demanding.{demanded}
use Rattle.normal_form.specs.SystemOf.{constraint_of, held_by, library_pair, library_constraints, present_rows, taken_in, given_out, result_rows, entry_constraints, outside_constraints, start_constraints, Demands, by_node, by_call, by_library, by_start, setting_of, SystemOf}
use Rattle.linked_laws.proofs.system_laws.Functions.{HasPlace, first_of, place_of}
use Rattle.covered_runs.specs.covered_programs.allocation_laws.Spread.{IsRight, ReturnsFit, AreSpaced, AllocatorsSpread}
use Rattle.covered_runs.proofs.covered_programs.allocation_laws.Marks.{none_some, some_one, IsDecay, IsMarked, as_name, as_decay, IsNameOf, name_of_kind}
use Rattle.covered_runs.proofs.covered_programs.allocation_laws.Firsts.{first_item}
use Rattle.covered_runs.proofs.covered_programs.allocation_laws.Ranges.{list_rows, is_special, special_row, location_plain, result_plain, none_plain, pointer_row}
use Rattle.covered_runs.proofs.covered_programs.allocation_laws.Keeping.{row_number, Keeps, key_own}
use Rattle.covered_runs.proofs.covered_programs.allocation_laws.Nodes.{node_right}
use Rattle.covered_runs.proofs.covered_programs.allocation_laws.Calls.{row_callee, IsCallOf, call_there, call_keeps}

library_function : (n k : ℕ) → LibraryKey n ≡ FunctionKey k → ⊥
library_function n k h = cc

outside_function : (k : ℕ) → OutsideKey ≡ FunctionKey k → ⊥
outside_function k h = cc

place_value : PlaceNode ≡ ValueNode → ⊥
place_value h = cc

both : (a b : Bool) → (a && b) ≡ true → (a ≡ true) × (b ≡ true)
both true b h = (refl, h)
both false b h = absurd (false≢true h)

both_from : (a b : Bool) → a ≡ true → b ≡ true → (a && b) ≡ true
both_from true b h g = g
both_from false b h g = absurd (false≢true h)

-- a family without a location but in some rows
without : Family → ℕ → (ℕ → Bool) → Family
without F L keeps r l = F r l && cond (l == L) (keeps r) true

module _ (F : Family) (L : ℕ) (keeps : ℕ → Bool) where
  without_inside : IsInside (without F L keeps) F
  unfolding without
  without_inside r l h = (both (F r l) (cond (l == L) (keeps r) true) h).0

  without_kept : (r : ℕ) → Has (without F L keeps) r L → keeps r ≡ true
  unfolding without
  without_kept r h = by (L == L) (same L) (both (F r L) (cond (L == L) (keeps r) true) h).1
    where
      same : (n : ℕ) → (n == n) ≡ true
      same n = elim (eqb_tells n n) [ inl equal ↦ equal.0 | inr other ↦ absurd (other.1 refl) ]

      by : (b : Bool) → b ≡ true → cond b (keeps r) true ≡ true → keeps r ≡ true
      by true is g = g
      by false is g = absurd (false≢true is)

  without_has : (r l : ℕ) → Has F r l → (l ≡ L → keeps r ≡ true) → Has (without F L keeps) r l
  unfolding without
  without_has r l h kept = both_from (F r l) (cond (l == L) (keeps r) true) h (by (l == L) refl)
    where
      by : (b : Bool) → (l == L) ≡ b → cond b (keeps r) true ≡ true
      by true is = kept (elim (eqb_tells l L) [ inl equal ↦ equal.1 | inr other ↦ absurd (false≢true (sym other.0 ∙ is)) ])
      by false is = refl

module _ (p : Program) (space : List Location) (system : System) (is : SystemOf p (view_of space) system) (right : IsRight p) (spaced : AreSpaced p space) (F : Family) (k L : ℕ) (own : first_from 0 space (FunctionKey k) ≡ Some L) (unused : is_starred p.entities.items p.nodes.items k ≡ false)
    (returns : ReturnsFit p space system is) (valid : IsValid system) (allocates : is_allocator k ≡ true) where
  abbrev w : Setting
  w = setting_of p (view_of space) is.owners

  abbrev Kept : Constraint → Type 0
  Kept c = Keeps p space system is right spaced F k L own unused c

  abbrev Right : Assignment → Type 0
  Right a = Kept (constraint_of a)

  abbrev special : ℕ → Bool
  special r = is_special (trees_in p) (view_of space) k r

  at_right : (n : ℕ) → All Right (assignments_at w n)
  at_right n = by (slice_get p.nodes.items n) refl
    where
      by : (o : Option Node) → slice_get p.nodes.items n ≡ o → All Right (assignments_by w n o)
      by None at = All-nil Right
      by (Some node) at = node_right p space system is right spaced F k L own unused returns valid allocates n node at

  all_right : (ns : List ℕ) → All Right (flat_map (assignments_at w) ns)
  all_right [] = All-nil Right
  all_right (n ∷ ns) = subst (λ (list : List Assignment). All Right list) (sym (flat_map-cons (assignments_at w) n ns)) (All-append Right (assignments_at w n) (flat_map (assignments_at w) ns) (at_right n) (all_right ns))

  -- what objects have at the start is an object of the library
  held_kept : (holder : Option ℕ) (object : ℕ) → All Kept (held_by holder (first_from 0 space (LibraryKey object)))
  held_kept holder object = by holder (first_from 0 space (LibraryKey object)) refl
    where
      by : (o q : Option ℕ) → first_from 0 space (LibraryKey object) ≡ q → All Kept (held_by o q)
      by None q at = All-nil Kept
      by (Some r) None at = All-nil Kept
      by (Some r) (Some l) at =
          All-cons Kept _ []
          (record {
            edges = λ a b ok h kept. absurd h;
            facts = λ row h. absurd (library_function object k (key_own p space system is right spaced F k L own unused (LibraryKey object) (at ∙ ap (λ (m : ℕ). Some m) (sym h.1))));
          }) (All-nil Kept)

  library_kept : All Kept (library_constraints (view_of space))
  library_kept =
      let s = view_of space in
      All-append Kept (library_pair s 3 2 ++ library_pair s 4 2 ++ library_pair s 5 2 ++ library_pair s 7 8) (library_pair s 9 10)
      (All-append Kept (library_pair s 3 2 ++ library_pair s 4 2 ++ library_pair s 5 2) (library_pair s 7 8)
      (All-append Kept (library_pair s 3 2 ++ library_pair s 4 2) (library_pair s 5 2)
      (All-append Kept (library_pair s 3 2) (library_pair s 4 2) (held_kept _ 2) (held_kept _ 2)) (held_kept _ 2))
      (held_kept _ 8))
      (held_kept _ 10)

  -- what lies outside is an object of its own, and neither its row nor one of a result has the function
  module _ (l : ℕ) (at : first_from 0 space OutsideKey ≡ Some l) where
    outside_plain : special l ≡ true → ⊥
    outside_plain h = (let x = first_item space OutsideKey l at in location_plain (trees_in p) (view_of space) right.rows k l (slice_get_within space l x.0 x.1) h)

    outside_address : Kept (AddressForm l l)
    outside_address = record {
      edges = λ a b ok h kept. absurd h;
      facts = λ row h. absurd (outside_function k (key_own p space system is right spaced F k L own unused OutsideKey (at ∙ ap (λ (m : ℕ). Some m) (sym h.1))));
    }

    copy_kept : (from to : ℕ) → (special from ≡ true → ⊥) → Kept (CopyForm from to)
    copy_kept from to plain = record { edges = λ a b ok h kept. absurd (plain (subst (λ (r : ℕ). special r ≡ true) h.0 kept)); facts = λ row h. absurd h }

    taken_kept : (rows : List ℕ) → All Kept (taken_in (trees_in p) (view_of space) l rows)
    taken_kept rows = All-map Kept (λ (row : ℕ). CopyForm l row) (present_rows (trees_in p) (view_of space) rows) (λ i d lt. copy_kept l _ outside_plain)

    parameters_kept : (keys : List ObjectKey) → All Kept (flat_map (λ key. taken_in (trees_in p) (view_of space) l (parameter_rows (trees_in p) (view_of space) key)) keys)
    parameters_kept [] = All-nil Kept
    parameters_kept (key ∷ keys) =
        let f : ObjectKey → List Constraint = λ key. taken_in (trees_in p) (view_of space) l (parameter_rows (trees_in p) (view_of space) key) in
        subst (λ (list : List Constraint). All Kept list) (sym (flat_map-cons f key keys)) (All-append Kept (f key) (flat_map f keys) (taken_kept (parameter_rows (trees_in p) (view_of space) key)) (parameters_kept keys))

    result_kept : (e i d : ℕ) → i < length (result_rows (trees_in p) (view_of space) e) → Kept (CopyForm (get_or (result_rows (trees_in p) (view_of space) e) i d) l)
    result_kept e i d lt =
        let rows = result_rows (trees_in p) (view_of space) e in
        let number = number_of (trees_in p) (view_of space) e in
        copy_kept (get_or rows i d) l
        (λ its_row. elim (list_rows (none_row (trees_in p) (view_of space)) (result_row (trees_in p) (view_of space) number) (result_nodes (trees_in p) (EntityKey e)) i (get_or rows i d) (slice_get-get_or rows i d lt)) [
          | inl none ↦ none_plain (trees_in p) (view_of space) right.rows k (subst (λ (r : ℕ). special r ≡ true) none its_row)
          | inr its ↦ result_plain (trees_in p) (view_of space) right.rows k (get_or rows i d) number its.0 its_row
        ])

    given_kept : (e : ℕ) → All Kept (given_out (trees_in p) (view_of space) l (result_rows (trees_in p) (view_of space) e))
    given_kept e =
        All-map Kept (λ (row : ℕ). CopyForm row l) (present_rows (trees_in p) (view_of space) (result_rows (trees_in p) (view_of space) e))
        (All-filter (λ row. not (row == none_row (trees_in p) (view_of space))) (λ row. Kept (CopyForm row l)) (result_rows (trees_in p) (view_of space) e) (result_kept e))

    entries_kept : (entries : List ℕ) → All Kept (flat_map (entry_constraints (trees_in p) (view_of space) l) entries)
    entries_kept [] = All-nil Kept
    entries_kept (e ∷ rest) =
        let f : ℕ → List Constraint = entry_constraints (trees_in p) (view_of space) l in
        let given : List Constraint = given_out (trees_in p) (view_of space) l (result_rows (trees_in p) (view_of space) e) in
        subst (λ (list : List Constraint). All Kept list) (sym (flat_map-cons f e rest))
        (All-append Kept (f e) (flat_map f rest) (All-append Kept _ given (parameters_kept (parameters_of (trees_in p) (view_of space) e)) (given_kept e)) (entries_kept rest))

  outside_kept : (entries : List ℕ) (o : Option ℕ) → first_from 0 space OutsideKey ≡ o → All Kept (outside_constraints (trees_in p) (view_of space) entries o)
  outside_kept entries None at = All-nil Kept
  outside_kept entries (Some l) at =
      All-cons Kept (AddressForm l l) (flat_map (entry_constraints (trees_in p) (view_of space) l) entries) (outside_address l at) (entries_kept l at entries)

  start_kept : (entries : List ℕ) → All Kept (start_constraints (trees_in p) (view_of space) entries)
  start_kept [] = held_kept _ 9
  start_kept (e ∷ rest) = outside_kept (e ∷ rest) (first_from 0 space OutsideKey) refl

  demanded_kept : (c : Constraint) → Demands w (length system.calls) c → Kept c
  demanded_kept c (by_node {a = a} there same) = subst Kept same (All-contains Right (assignments_of w) a (all_right (range_with_len 0 (length p.nodes.items))) there)
  demanded_kept c (by_call {call = call} lt same) = subst Kept same (call_keeps p space system is right spaced F k L own unused valid call)
  demanded_kept c (by_library there) = All-contains Kept (library_constraints (view_of space)) c library_kept there
  demanded_kept c (by_start there) = All-contains Kept (start_constraints (trees_in p) (view_of space) p.entries.items) c (start_kept p.entries.items) there

  -- without the location in other rows the family is closed
  given_special : (r : ℕ) → IsGiven system (without F L special) r L → special r ≡ true
  given_special r g =
      let kept = demanded_kept g.0 ((demanded p (view_of space) system is g.0).0 g.1) in
      let ok = All-contains (IsConstraintValid system) system.constraints g.0 valid.constraints g.1 in
      elim g.2 [
        | inl fact ↦ kept.facts r (more_fact system (without F L special) F (without_inside F L special) g.0 r L fact)
        | inr edge ↦
            kept.edges edge.0 r ok (more_edge system (without F L special) F (without_inside F L special) g.0 edge.0 r edge.1) (without_kept F L special edge.0 edge.2)
      ]

  closed : IsClosed system F → IsClosed system (without F L special)
  closed base =
      closed_from_given system (without F L special)
      (λ r l g. without_has F L special r l (closed_has system F base r l (given_more system (without F L special) F (without_inside F L special) r l g)) (λ same. given_special r (subst (IsGiven system (without F L special) r) same g)))

  -- the location stands in no other row
  alone : IsLeast system F → (r : ℕ) → Has F r L → special r ≡ true
  alone least r h = without_kept F L special r (least.below (without F L special) (closed least.closed) r L h)

entity_by : (o : Option Entity) (k : ℕ) → option_and_then entity_number o ≡ Some k → option_and_then library_number o ≡ Some k
entity_by None k h = absurd (none_some h)
entity_by (Some x) k h = row_number x k h

module _ (p : Program) (right : IsRight p) (k : ℕ) where
  -- a call whose callee decays from the function's name names it
  decay_named : (node : Node) → IsDecay (trees_in p) k (head_of node.children) → named_library (trees_in p) node ≡ Some k
  decay_named node d =
      ap (λ (o : Option ℕ). option_and_then (λ (e : ℕ). option_and_then library_number (slice_get p.entities.items e)) o) callee ∙ entity_by (slice_get p.entities.items name.e) k name.number
    where
      name : IsNameOf (trees_in p) k d.name.node.kind
      name = name_of_kind (trees_in p) k d.name.node.kind d.name.name

      under_by : (children : List ℕ) → d.node.children ≡ children → DecayRow (trees_in p) (type_of p.types d.node.ty.0) children → slice_get children 0 ≡ Some d.under → under_decay Decay children ≡ Some d.under
      under_by [] list h first = absurd h
      under_by (f ∷ []) list h first = first
      under_by (f ∷ x ∷ rest) list h first = absurd h

      under : under_decay d.node.kind d.node.children ≡ Some d.under
      under =
          ap (λ (j : NodeKind). under_decay j d.node.children) d.kind
          ∙ under_by d.node.children refl (subst (λ (j : NodeKind). RowOf (trees_in p) j (type_of p.types d.node.ty.0) d.node.children) d.kind (right.rows (head_of node.children) d.node d.there)) d.child

      callee : named_callee (trees_in p) node ≡ Some name.e
      callee =
          ap (option_and_then (name_at p.nodes.items)) (ap (option_and_then (λ (x : Node). under_decay x.kind x.children)) d.there ∙ under)
          ∙ (ap (option_and_then (λ (x : Node). name_of x.kind)) d.name.there ∙ ap name_of name.kind_is)

  marked_named : (node : Node) → sort_at (trees_in p) (head_of node.children) ≡ ValueNode → IsMarked (trees_in p) k (head_of node.children) → named_library (trees_in p) node ≡ Some k
  marked_named node sort (as_name h) =
      let name = name_of_kind (trees_in p) k h.node.kind h.name in
      absurd (place_value (sym (ap sort_in h.there ∙ ap sort_of name.kind_is) ∙ sort))
  marked_named node sort (as_decay h) = decay_named node h

pub allocators_spread : AllocatorsSpread
allocators_spread p space system is F n k call number node right returns spaced valid least at listed function target allocates = by (is_starred p.entities.items p.nodes.items k) refl
  where
    f : HasPlace (trees_in p) (view_of space) number target.1
    f = place_of (trees_in p) (view_of space) system.functions is.functions number target.1 target.3.known

    key : f.key ≡ FunctionKey k
    key = some_one (sym f.stands ∙ function)

    own : first_from 0 space (FunctionKey k) ≡ Some f.at
    own = subst (λ (q : ObjectKey). first_from 0 space q ≡ Some f.at) key (first_of (trees_in p) (view_of space) f.at f.key f.there)

    c : IsCallOf p (setting_of p (view_of space) is.owners) call target.0
    c = call_there p space system is call target.0 target.2

    node_is : c.node ≡ node
    node_is = some_one (sym c.there ∙ (ap (slice_get p.nodes.items) (some_one (sym c.listed ∙ listed)) ∙ at))

    row_is : CallRow (trees_in p) (type_of p.types c.node.ty.0) c.node.children
    row_is = subst (λ (j : NodeKind). RowOf (trees_in p) j (type_of p.types c.node.ty.0) c.node.children) c.kind (right.rows c.n c.node c.there)

    reached : Has F (row (trees_in p) (view_of space) (head_of c.node.children)) f.at
    reached = subst (λ (r : ℕ). Has F r f.at) c.right.callee (subst (λ (l : ℕ). Has F target.0.callee l) f.location target.3.reached)

    by : (b : Bool) → is_starred p.entities.items p.nodes.items k ≡ b → (named_library (trees_in p) node ≡ Some k) ⊎ (is_starred p.entities.items p.nodes.items k ≡ true)
    by true starred = inr starred
    by false unused =
        let value = row_callee (trees_in p) (type_of p.types c.node.ty.0) c.node.children row_is in
        let special = alone p space system is right spaced F k f.at own unused returns valid allocates least (row (trees_in p) (view_of space) (head_of c.node.children)) reached in
        let marked = special_row (trees_in p) (view_of space) right.rows k (head_of c.node.children) _ special (pointer_row (trees_in p) (view_of space) (head_of c.node.children) value.1 value.0 value.2) in
        inl (subst (λ (x : Node). named_library (trees_in p) x ≡ Some k) node_is (marked_named p right k c.node value.0 marked))
