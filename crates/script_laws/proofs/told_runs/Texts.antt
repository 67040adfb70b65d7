-- That the text of a run names what the run stores and calls.
use Rattle.std.proofs.Common.{arith, ◌≡◌, ◌∙◌, ◌++◌, ℕ, zero, suc, ◌+◌, ◌<◌, ◌^◌, Bool, false, if◌then◌else◌, List, [], ◌∷◌, length, Option, Some, None, IsSome, slice_get, Contains, refl, sym, ap, subst, codes, inr}
use Rattle.std.specs.Option.{option_and_then, option_map, option_map_or, unwrap_or}
use Rattle.std.specs.List.{enumerate_from}
use Rattle.std.proofs.lemmas.Bool.{lt-ltb}
use Rattle.c_types.specs.declared.key.ObjectKey.{ObjectKey}
use Rattle.c_types.specs.declared.term.PathStep.{PathStep}
use Rattle.c_types.specs.declared.term.PathStep.TheVariants.{Index, Member}
use Rattle.c_types.specs.declared.term.TypeId.{TypeId}
use Rattle.c_types.specs.Trees.{Ctype, ArrayOf}
use Rattle.c_types.specs.Parts.{within_32}
use Rattle.c_types.specs.Table.{type_of, extent_in}
use Rattle.core_tree.specs.declared.node.Program.{Program}
use Rattle.sol_model.specs.declared.system.System.{System}
use Rattle.sol_model.specs.declared.system.Function.{Function as SystemFunction}
use Rattle.sol_model.specs.Families.{Family}
use Rattle.sol_model.specs.Solutions.{IsLeast}
use Rattle.sol_model.specs.Systems.{IsValid, location_count}
use Rattle.sol_model.proofs.InRange.{location_small}
use Rattle.obj_made.specs.declared.object.Content.{Content}
use Rattle.obj_made.specs.declared.object.Content.TheVariants.{Function, Blob, Scalar, Scalars, Typed, Elements}
use Rattle.obj_space.specs.declared.location.Location.{Location}
use Rattle.obj_space.specs.Space.{locations_in}
use Rattle.obj_space.specs.Spots.{Reached, reached, part_at, node_in, no_step, one_index, type_made}
use Rattle.obj_space.specs.View.{first_from}
use Rattle.row_numbers.specs.Functions.{functions_of}
use Rattle.row_numbers.specs.Numbers.{type_number}
use Rattle.normal_form.specs.Facts.{IsFunctionFact}
use Rattle.call_graph.specs.row_members.Members.{IsKnown}
use Rattle.unit_report.specs.report_text.Report.{name_in}
use Rattle.unit_report.proofs.report_text.Listed.{targets_listed}
use Rattle.ref_cells.specs.declared.cells.Cell.{Cell}
use Rattle.ref_cells.specs.declared.cells.Cell.TheVariants.{Unset, Number, Null, Pointer, Function as FunctionCell}
use Rattle.ref_cells.specs.declared.instance.Instance.{Instance}
use Rattle.ref_cells.specs.Wholes.{whole_of}
use Rattle.ref_machine.specs.Run.{run}
use Rattle.run_text.specs.Names.{spot_of, name_at, node_place, part_name, target_name}
use Rattle.covering_laws.specs.covered_memory.Covered.{InstanceIn, MemoryIn, HasShape, object_row}
use Rattle.covering_laws.specs.covered_memory.Spots.{spot, spot_at, spot_from, whole_part}
use Rattle.covering_laws.specs.covered_state.State.{Covered, TargetNoted}
use Rattle.covering_laws.specs.covered_state.World.{IsFunctionAt, IsTargetAt, trees_of, view_in}
use Rattle.covering_laws.specs.grown_programs.Grown.{with_terms, IsKept, MayFollow}
use Rattle.covering_laws.proofs.covered_memory.Anchors.{Leads, at_part}
use Rattle.covering_laws.proofs.covered_memory.Filled.{nowhere}
use Rattle.covering_laws.proofs.covered_memory.Firsts.{is_first}
use Rattle.covering_laws.proofs.covered_needs.Grounded.{complete_known, part_same}
use Rattle.covering_laws.proofs.grown_programs.Listed.{function_there}
use Rattle.covering_laws.proofs.grown_programs.Tables.{tables_grow}
use Rattle.covering_laws.proofs.object_contents.Contents.{contents_known}
use Rattle.covered_runs.specs.machine_sound.covered_start.Objects.{IsSolved, machine_sets, machine_table, terms_behind}
use Rattle.covered_runs.specs.machine_sound.covered_start.Start.{machine_world}
use Rattle.covered_runs.proofs.covered_steps.covered_calls.Activations.{zip_at}
use Rattle.covered_runs.proofs.machine_sound.covered_start.Pointed.{grown}
use Rattle.covered_runs.proofs.machine_sound.covered_start.Types.{library_follow}
use Rattle.report_cli.specs.covered_reports.Reports.{CoversRuns}
use Rattle.script_laws.specs.told_runs.Lines.{target_of, Points, IsStored}
use Rattle.script_laws.specs.told_runs.Texts.{IsStoreLine, IsTargetLine, StoresWithinSets, TargetsWithinSets}
use Rattle.script_laws.proofs.told_runs.Lines.{fact_there, item_at, item_below, known, store_held}

some_one : {X : Type 0} → {x y : X} → ◌≡◌ {A = Option X} (Some x) (Some y) → x ≡ y
some_one h = cc

none_some : {X : Type 0} → {x : X} → ◌≡◌ {A = Option X} None (Some x) → ⊥
none_some h = cc

numbered_at : (n : ℕ) (keys : List ObjectKey) (i m : ℕ) (key : ObjectKey) → n + i ≡ m → slice_get keys i ≡ Some key → slice_get (enumerate_from n keys) i ≡ Some (m, key)
numbered_at n [] i m key at e = absurd (none_some e)
numbered_at n (k ∷ rest) zero m key at e =
    ap (λ (j : ℕ). let r : Option (ℕ × ObjectKey) = Some (j, k) in r) (let same : n ≡ m = omega arith in same) ∙ ap (λ (j : ObjectKey). let r : Option (ℕ × ObjectKey) = Some (m, j) in r) (some_one e)
numbered_at n (k ∷ rest) (suc i) m key at e = numbered_at (n + 1) rest i m key (omega arith) e

-- ---- one node by both tables of types
module _ (p : Program) (system : System) (family : Family) (s : IsSolved p system family) where
  follow : MayFollow (length p.types.terms) (terms_behind p)
  follow = library_follow (length p.types.terms)

  kept : IsKept p.types (with_terms p.types (terms_behind p))
  kept = tables_grow p.types (terms_behind p) s.made s.named follow

  part_one : (path : List PathStep) (r : Option Reached) → part_at (machine_table p) r path ≡ part_at p.types r path
  part_one = part_same p (terms_behind p) s.made s.named follow

  node_one : (content : Content) → ((id : TypeId) → type_made content ≡ Some id → id.0 < length p.types.terms) → (path : List PathStep) → node_in (machine_table p) content path ≡ node_in p.types content path
  node_one Function in_table path = refl
  node_one Blob in_table path = refl
  node_one (Scalar number) in_table path = refl
  node_one (Scalars number) in_table path = refl
  node_one (Typed id) in_table path =
      ap (λ (o : Option Reached). option_map (λ (r : Reached). r.node) o)
      (part_one path (Some (reached (type_of (machine_table p) id.0) 0 false)) ∙ ap (λ (t : Ctype). part_at p.types (Some (reached t 0 false)) path) (kept.types id.0 (in_table id refl)))
  node_one (Elements id) in_table path =
      ap (λ (o : Option Reached). option_map (λ (r : Reached). r.node) o)
      (part_one path (Some (reached (ArrayOf (type_of (machine_table p) id.0) None) 0 false)) ∙ ap (λ (t : Ctype). part_at p.types (Some (reached (ArrayOf t None) 0 false)) path) (kept.types id.0 (in_table id refl)))

  -- ---- the location at the end of a path, and its name
  -- where an object's locations begin, and the node behind it
  pub record IsSpotAt (key : ObjectKey) (path : List PathStep) (at : ℕ) : Type 0 where
    pub first : ℕ
    pub first_is : first_from 0 (locations_in p) key ≡ Some first
    pub x : Location
    pub x_is : slice_get (locations_in p) first ≡ Some x
    pub node : ℕ
    pub node_is : node_in (machine_table p) x.content path ≡ Some node
    pub at_is : first + node ≡ at

  spot_inv : (key : ObjectKey) (path : List PathStep) (at : ℕ) → spot (machine_table p) (locations_in p) key path ≡ Some at → IsSpotAt key path at
  spot_inv key path at e = by_first (first_from 0 (locations_in p) key) refl e
    where
      by_node : (first : ℕ) → first_from 0 (locations_in p) key ≡ Some first → (x : Location) → slice_get (locations_in p) first ≡ Some x → (o : Option ℕ) → node_in (machine_table p) x.content path ≡ o → option_map (λ (n : ℕ). first + n) o ≡ Some at → IsSpotAt key path at
      by_node first first_is x x_is None node_is h = absurd (none_some h)
      by_node first first_is x x_is (Some node) node_is h = record { first = first; first_is = first_is; x = x; x_is = x_is; node = node; node_is = node_is; at_is = some_one h }

      by_place : (first : ℕ) → first_from 0 (locations_in p) key ≡ Some first → (o : Option Location) → slice_get (locations_in p) first ≡ o → spot_at (machine_table p) first o path ≡ Some at → IsSpotAt key path at
      by_place first first_is None x_is h = absurd (none_some h)
      by_place first first_is (Some x) x_is h = by_node first first_is x x_is (node_in (machine_table p) x.content path) refl h

      by_first : (o : Option ℕ) → first_from 0 (locations_in p) key ≡ o → spot_from (machine_table p) (locations_in p) o path ≡ Some at → IsSpotAt key path at
      by_first None first_is h = absurd (none_some h)
      by_first (Some first) first_is h = by_place first first_is (slice_get (locations_in p) first) refl h

  in_table : (l : ℕ) (x : Location) → slice_get (locations_in p) l ≡ Some x → (id : TypeId) → type_made x.content ≡ Some id → id.0 < length p.types.terms
  in_table l x at id is = complete_known p.types id.0 ((contents_known p l x s.made at).1 id is)

  small : (n : ℕ) → n < 2 ^ 32 → within_32 (Some n) ≡ Some n
  small n lt = ap (λ (b : Bool). let r : Option ℕ = if b then Some n else None in r) (lt-ltb n (2 ^ 32) lt)

  name_there : (o : Option Location) (x : Location) → o ≡ Some x → option_map_or (λ (y : Location). y.name) o (codes "?") ≡ option_map_or (λ (y : Location). y.name) o []
  name_there None x e = absurd (none_some e)
  name_there (Some y) x e = refl

  part_named : (key : ObjectKey) (path : List PathStep) (at : ℕ) → spot (machine_table p) (locations_in p) key path ≡ Some at → at < 2 ^ 32 → (y : Location) → slice_get (locations_in p) at ≡ Some y
      → part_name (locations_in p) p.types key path ≡ name_in (locations_in p) at
  part_named key path at e lt y y_is =
      let i = spot_inv key path at e in
      let found : spot_of (locations_in p) p.types key path ≡ Some at =
      ap (λ (o : Option ℕ). option_and_then (λ (l : ℕ). option_and_then (λ (x : Location). within_32 (option_map (λ (n : ℕ). l + n) (node_in p.types x.content path))) (slice_get (locations_in p) l)) o) i.first_is
      ∙ (ap (λ (o : Option Location). option_and_then (λ (x : Location). within_32 (option_map (λ (n : ℕ). i.first + n) (node_in p.types x.content path))) o) i.x_is
      ∙ (ap (λ (o : Option ℕ). within_32 (option_map (λ (n : ℕ). i.first + n) o)) (sym (node_one i.x.content (in_table i.first i.x i.x_is) path) ∙ i.node_is)
      ∙ (ap (λ (n : ℕ). within_32 (Some n)) i.at_is ∙ small at lt))) in
      ap (λ (o : Option ℕ). name_at (locations_in p) o) found ∙ name_there (slice_get (locations_in p) at) y y_is

  target_named : (memory : List Instance) (cell : Cell) (at : ℕ) → target_of (machine_table p) (locations_in p) memory cell ≡ Some at → at < 2 ^ 32 → (y : Location) → slice_get (locations_in p) at ≡ Some y
      → target_name (locations_in p) p.types memory cell ≡ name_in (locations_in p) at
  target_named memory (Pointer j path past) at e lt y y_is = by (slice_get memory j) e
    where
      by : (o : Option Instance) → option_and_then (λ (x : Instance). spot (machine_table p) (locations_in p) x.key path) o ≡ Some at → option_map_or (λ (x : Instance). part_name (locations_in p) p.types x.key path) o (codes "?") ≡ name_in (locations_in p) at
      by None h = absurd (none_some h)
      by (Some x) h = part_named x.key path at h lt y y_is
  target_named memory (FunctionCell key) at e lt y y_is = part_named key [] at e lt y y_is
  target_named memory Unset at e lt y y_is = absurd (none_some e)
  target_named memory (Number n) at e lt y y_is = absurd (none_some e)
  target_named memory Null at e lt y y_is = absurd (none_some e)

  -- a function begins at its location
  begins : (content : Content) → node_in (machine_table p) content [] ≡ Some 0
  begins Function = refl
  begins Blob = refl
  begins (Scalar number) = refl
  begins (Scalars number) = refl
  begins (Typed id) = refl
  begins (Elements id) = refl

  -- ---- what a call reaches
  -- a function is at its location
  function_named : (number : ℕ) (key : ObjectKey) (function : SystemFunction) → IsFunctionAt (machine_world p system family s) number key → slice_get system.functions number ≡ Some function → function.location < 2 ^ 32
      → part_name (locations_in p) p.types key [] ≡ name_in (locations_in p) function.location
  function_named number key function key_is function_is lt =
      let world = machine_world p system family s in
      let fact = zip_at (λ entry f. IsFunctionFact (trees_of world) (view_in world) entry.0 entry.1 f) (enumerate_from 0 (functions_of (trees_of world) (view_in world))) system.functions number (number, key) function s.is_system.functions
      (numbered_at 0 (functions_of (trees_of world) (view_in world)) number number key (omega arith) key_is) function_is in
      let (l, l_is) = (function_there (trees_of world) (view_in world) number key key_is).1 in
      let here : function.location ≡ l = fact.location ∙ ap (λ (o : Option ℕ). unwrap_or o 0) l_is in
      let first : first_from 0 (locations_in p) key ≡ Some l = l_is in
      let own = (is_first (locations_in p) key l first).here in
      let x : Location = own.0 in
      let x_is : slice_get (locations_in p) l ≡ Some x = own.1 in
      let spot_at_l : spot (machine_table p) (locations_in p) key [] ≡ Some l =
      ap (λ (o : Option ℕ). spot_from (machine_table p) (locations_in p) o []) first
      ∙ (ap (λ (o : Option Location). spot_at (machine_table p) l o []) x_is ∙ (ap (λ (o : Option ℕ). option_map (λ (n : ℕ). l + n) o) (begins x.content) ∙ ap (λ (n : ℕ). Some n) (let e : l + 0 ≡ l = omega arith in e))) in
      part_named key [] l spot_at_l (subst (λ (n : ℕ). n < 2 ^ 32) here lt) x x_is ∙ ap (name_in (locations_in p)) (sym here)

  target_shown : IsValid system → IsLeast system family → (n : ℕ) (key : ObjectKey) → IsTargetAt (machine_world p system family s) n key → IsTargetLine p (locations_in p) system family n key
  target_shown valid least n key h =
      let (site, function, site_is, target) = h.target in
      let all : IsKnown system family = known system family valid least in
      let lt = location_small system valid function.location (all site.callee function.location target.reached) in
      record {
        call = h.call;
        call_is = h.call_is;
        site = site;
        site_is = site_is;
        target = function.location;
        line = ap (λ (a : List ℕ). codes "target " ++ node_place p n ++ codes " " ++ a ++ codes "\n") (function_named h.function key function h.function_is target.known (omega arith));
        named = (targets_listed system family site function.location valid all).1 (h.function, function, target, refl);
      }

  -- ---- a place in memory has a location
  no_steps : (path : List PathStep) (n : ℕ) → no_step path ≡ Some n → n ≡ 0
  no_steps [] n e = sym (some_one e)
  no_steps (step ∷ rest) n e = absurd (none_some e)

  one_step : (path : List PathStep) (n : ℕ) → one_index path ≡ Some n → n ≡ 0
  one_step [] n e = sym (some_one e)
  one_step (Index i ∷ rest) n e = no_steps rest n e
  one_step (Member k ∷ rest) n e = absurd (none_some e)

  node_read : (o : Option Reached) (n : ℕ) → option_map (λ (r : Reached). r.node) o ≡ Some n → (r : Reached) × (o ≡ Some r) × (r.node ≡ n)
  node_read None n e = absurd (none_some e)
  node_read (Some r) n e = (r, refl, some_one e)

  module _ (valid : IsValid system) (count : length (locations_in p) ≡ location_count system) (memory : List Instance) (all : MemoryIn (machine_sets p family) memory) where
    abbrev IsThere : ℕ → Type 0
    IsThere at = (y : Location) × (slice_get (locations_in p) at ≡ Some y)

    -- a part of an object of that content
    part_there : (key : ObjectKey) (first : ℕ) (x : Location) → first_from 0 (locations_in p) key ≡ Some first → slice_get (locations_in p) first ≡ Some x → (whole : Option Ctype) → HasShape (machine_table p) x.content whole → (path : List PathStep) (r : Reached)
        → part_at (machine_table p) (whole_part whole) path ≡ Some r → IsThere (object_row x.content first r.node)
    part_there key first x first_is x_is whole shape path r part_is =
        let leads : Leads r 0 r.node = record { apart = λ _. omega arith; inside = λ _. refl; within = λ _. refl } in
        let at = object_row x.content first r.node in
        let (fact, fact_is) = fact_there (slice_get system.locations at) at (type_number r.ty) 0 at
        (at_part (machine_table p) (locations_in p) system (grown p system family s) key first x first_is x_is whole shape path r part_is 0 r.node leads) in
        item_at (locations_in p) at (let lt = item_below system.locations at fact fact_is in let c = count in omega arith)

    -- the end of a path in an object
    spot_there : (key : ObjectKey) (path : List PathStep) (at : ℕ) (i : IsSpotAt key path at) (whole : Option Ctype) → HasShape (machine_table p) i.x.content whole → IsThere at
    spot_there key path at i whole shape = by i.x.content refl shape i.node_is
      where
        first_there : i.node ≡ 0 → IsThere at
        first_there none = (i.x, ap (slice_get (locations_in p)) (let e = i.at_is in let same : at ≡ i.first = omega arith in same) ∙ i.x_is)

        node_there : (r : Reached) → r.node ≡ i.node → IsThere (i.first + r.node) → IsThere at
        node_there r same h = subst IsThere (ap (λ (n : ℕ). i.first + n) same ∙ i.at_is) h

        -- in an object that is made of a type, and in one of an allocated object's elements
        whole_there : (content : Content) → i.x.content ≡ content → (w : Ctype) → HasShape (machine_table p) content (Some w) → ((n : ℕ) → object_row content i.first n ≡ i.first + n) → (r : Reached) → part_at (machine_table p) (Some (reached w 0 false)) path ≡ Some r → r.node ≡ i.node → IsThere at
        whole_there content is w has row r part_is same =
            node_there r same
            (subst IsThere (ap (λ (c : Content). object_row c i.first r.node) is ∙ row r.node)
            (part_there key i.first i.x i.first_is i.x_is (Some w) (subst (λ (c : Content). HasShape (machine_table p) c (Some w)) (sym is) has) path r part_is))

        elements : (id : TypeId) → i.x.content ≡ Elements id → IsSome (extent_in (machine_table p) (type_of (machine_table p) id.0)) → (steps : List PathStep) → path ≡ steps → (r : Reached)
            → part_at (machine_table p) (Some (reached (ArrayOf (type_of (machine_table p) id.0) None) 0 false)) steps ≡ Some r → r.node ≡ i.node → IsThere at
        elements id is complete [] e r part_is same = first_there (sym same ∙ sym (ap (λ (q : Reached). q.node) (some_one part_is)))
        elements id is complete (Index k ∷ rest) e r part_is same =
            whole_there (Elements id) is (ArrayOf (type_of (machine_table p) id.0) (Some 1)) (inr (1, refl), complete) (λ n. refl) r
            (ap (part_at (machine_table p) (Some (reached (ArrayOf (type_of (machine_table p) id.0) (Some 1)) 0 false))) e ∙ part_is) same
        elements id is complete (Member k ∷ rest) e r part_is same = absurd (none_some (sym (nowhere (machine_table p) rest) ∙ part_is))

        by : (content : Content) → i.x.content ≡ content → HasShape (machine_table p) content whole → node_in (machine_table p) content path ≡ Some i.node → IsThere at
        by Function is has e = absurd has
        by Blob is has e = first_there (sym (some_one e))
        by (Scalar number) is has e = first_there (no_steps path i.node e)
        by (Scalars number) is has e = first_there (one_step path i.node e)
        by (Typed id) is has e =
            let (r, part_is, same) = node_read (part_at (machine_table p) (Some (reached (type_of (machine_table p) id.0) 0 false)) path) i.node e in
            whole_there (Typed id) is (type_of (machine_table p) id.0) (refl, has.1) (λ n. refl) r part_is same
        by (Elements id) is has e =
            let (r, part_is, same) = node_read (part_at (machine_table p) (Some (reached (ArrayOf (type_of (machine_table p) id.0) None) 0 false)) path) i.node e in
            elements id is has.1 path refl r part_is same

    instance_there : (j : ℕ) (inst : Instance) (path : List PathStep) (at : ℕ) → slice_get memory j ≡ Some inst → spot (machine_table p) (locations_in p) inst.key path ≡ Some at → IsThere at
    instance_there j inst path at there e =
        let inside : InstanceIn (machine_sets p family) memory inst = all j inst there in
        let i = spot_inv inst.key path at e in
        let same_first : inside.first ≡ i.first = some_one (sym inside.first_is ∙ i.first_is) in
        let same : inside.location ≡ i.x = some_one (sym inside.location_is ∙ (ap (slice_get (locations_in p)) same_first ∙ i.x_is)) in
        spot_there inst.key path at i (whole_of (machine_table p) inst) (subst (λ (x : Location). HasShape (machine_table p) x.content (whole_of (machine_table p) inst)) same inside.shape)

    key_there : (key : ObjectKey) (at : ℕ) → spot (machine_table p) (locations_in p) key [] ≡ Some at → IsThere at
    key_there key at e =
        let i = spot_inv key [] at e in
        let none : i.node ≡ 0 = some_one (sym i.node_is ∙ begins i.x.content) in
        (i.x, ap (slice_get (locations_in p)) (let is = i.at_is in let same : at ≡ i.first = omega arith in same) ∙ i.x_is)

    cell_there : (cell : Cell) (at : ℕ) → target_of (machine_table p) (locations_in p) memory cell ≡ Some at → IsThere at
    cell_there (Pointer j path past) at e = by (slice_get memory j) refl e
      where
        by : (o : Option Instance) → slice_get memory j ≡ o → option_and_then (λ (x : Instance). spot (machine_table p) (locations_in p) x.key path) o ≡ Some at → IsThere at
        by None is h = absurd (none_some h)
        by (Some x) is h = instance_there j x path at is h
    cell_there (FunctionCell key) at e = key_there key at e
    cell_there Unset at e = absurd (none_some e)
    cell_there (Number n) at e = absurd (none_some e)
    cell_there Null at e = absurd (none_some e)

    store_shown : (store : Cell × Cell) → IsStored (machine_table p) (locations_in p) system family memory store → IsStoreLine p (locations_in p) system family memory store
    store_shown store h =
        let row = cell_there store.0 h.row h.row_is in
        let target = cell_there store.1 h.target h.target_is in
        let row_small : h.row < 2 ^ 32 =
        (let lt = location_small system valid h.row (subst (λ (n : ℕ). h.row < n) count (item_below (locations_in p) h.row row.0 row.1)) in omega arith) in
        let target_small : h.target < 2 ^ 32 =
        (let lt = location_small system valid h.target (subst (λ (n : ℕ). h.target < n) count (item_below (locations_in p) h.target target.0 target.1)) in omega arith) in
        record {
          row = h.row;
          row_is = row;
          target = h.target;
          target_is = target;
          line = ap (λ (a : List ℕ). codes "store " ++ a ++ codes " " ++ target_name (locations_in p) p.types memory store.1 ++ codes "\n")
              (target_named memory store.0 h.row h.row_is row_small row.0 row.1)
              ∙ ap (λ (b : List ℕ). codes "store " ++ name_in (locations_in p) h.row ++ codes " " ++ b ++ codes "\n") (target_named memory store.1 h.target h.target_is target_small target.0 target.1);
          named = h.named;
        }

own_stores : (p : Program) (system : System) (family : Family) (words : List ℕ) (n : ℕ) (store : Cell × Cell) → IsValid system → length (locations_in p) ≡ location_count system → IsLeast system family → CoversRuns p system family
    → Contains (run p words n).notes.stores store → Points store.1 → IsStoreLine p (locations_in p) system family (run p words n).memory store
own_stores p system family words n store valid count least c has points =
    let state = run p words n in
    let covered : Covered (machine_world p system family c.solved) state = c.covered words n in
    store_shown p system family c.solved valid count state.memory covered.memory store
    (store_held (machine_sets p family) system (grown p system family c.solved) valid least count state.memory covered.memory state.notes.stores covered.notes.stores store has points)

pub stores_within_sets : StoresWithinSets
stores_within_sets p space system family words n store of least c has points =
    subst (λ (l : List Location). IsStoreLine p l system family (run p words n).memory store) (sym of.space_is)
    (own_stores p system family words n store of.valid (ap (λ (l : List Location). length l) (sym of.space_is) ∙ of.count) least c has points)

pub targets_within_sets : TargetsWithinSets
targets_within_sets p space system family words n node key of least c e =
    subst (λ (l : List Location). IsTargetLine p l system family node key) (sym of.space_is)
    (target_shown p system family c.solved of.valid least node key (subst (λ (o : Option (ℕ × ObjectKey)). TargetNoted (machine_world p system family c.solved) o) e (c.covered words n).notes.target))
