-- That what runs hold and call stands on the lines of the report.
use Rattle.std.proofs.Common.{arith, ◌≡◌, ◌∙◌, ◌⊎◌, ◌==◌, ◌||◌, ℕ, zero, suc, ◌+◌, ◌<◌, Bool, true, false, cond, if◌then◌else◌, List, [], ◌∷◌, length, Option, Some, None, slice_get, Contains, refl, sym, ap, subst, inl, inr}
use Rattle.std.specs.Prelude.{String}
use Rattle.std.specs.Option.{option_and_then, option_map, option_map_or}
use Rattle.std.specs.List.{range_with_len}
use Rattle.std.specs.declared.alloc.Global.{Global}
use Rattle.std.proofs.lemmas.Bool.{eqb-true}
use Rattle.std.proofs.lemmas.List.Elements.{Contains-append_left, Contains-append_right}
use Rattle.c_types.specs.declared.key.ObjectKey.{ObjectKey}
use Rattle.c_types.specs.declared.key.ObjectKey.TheVariants.{Function as FunctionKey, Varargs as VarargsKey}
use Rattle.c_types.specs.declared.term.PathStep.{PathStep}
use Rattle.c_types.specs.Trees.{Ctype, VaListType, PointerTo}
use Rattle.core_tree.specs.declared.node.Program.{Program}
use Rattle.core_tree.specs.Typed.{trees_in}
use Rattle.sol_model.specs.declared.system.System.{System}
use Rattle.sol_model.specs.declared.system.LocationFact.{LocationFact}
use Rattle.sol_model.specs.declared.system.CallSite.{CallSite}
use Rattle.sol_model.specs.Families.{Family, Has}
use Rattle.sol_model.specs.Places.{node_from}
use Rattle.sol_model.specs.Solutions.{IsLeast}
use Rattle.sol_model.specs.Systems.{IsValid, location_count}
use Rattle.sol_model.proofs.Closed.{full_has, least_is_in_range}
use Rattle.call_graph.specs.Graph.{IsGraph}
use Rattle.call_graph.specs.row_members.Members.{IsKnown}
use Rattle.call_graph.proofs.row_members.Listed.{in_filter, in_range, members_listed}
use Rattle.obj_made.specs.declared.object.Content.{Content}
use Rattle.obj_made.specs.declared.object.Content.TheVariants.{Blob}
use Rattle.obj_space.specs.declared.location.Location.{Location}
use Rattle.obj_space.specs.Space.{locations_in}
use Rattle.obj_space.specs.Spots.{Reached, part_at, node_in}
use Rattle.obj_space.specs.View.{view_of}
use Rattle.row_numbers.specs.Functions.{functions_below, functions_of}
use Rattle.row_numbers.specs.Numbers.{type_number}
use Rattle.alias_query.specs.Asked.{has_line}
use Rattle.unit_report.specs.report_text.Report.{Spot, all_placed, call_line, call_lines, calls_in_order, edge_line, has_set, in_order, placed, set_line}
use Rattle.unit_report.proofs.report_text.Listed.{targets_listed}
use Rattle.twin_report_laws.proofs.order_laws.Orders.{calls_ordered}
use Rattle.ref_cells.specs.declared.cells.Cell.{Cell}
use Rattle.ref_cells.specs.declared.cells.Cell.TheVariants.{Unset, Number, Null, Pointer, Function as FunctionCell}
use Rattle.ref_cells.specs.declared.instance.Instance.{Instance}
use Rattle.ref_cells.specs.Cells.{CellList}
use Rattle.ref_cells.specs.Wholes.{whole_of}
use Rattle.ref_state.specs.declared.frames.Frame.{Frame}
use Rattle.ref_state.specs.ref_types.Types.{types_with}
use Rattle.ref_machine.specs.Run.{run}
use Rattle.covering_laws.specs.covered_library.Calls.{StoresIn, instance_row, place_row}
use Rattle.covering_laws.specs.covered_memory.Cells.{EachCell}
use Rattle.covering_laws.specs.covered_memory.Covered.{Sets, Lands, CellIn, InstanceIn, MemoryIn, cell_row, further_row, object_row, pointer_row, row_by}
use Rattle.covering_laws.specs.covered_memory.Demands.{Grounds, ContentTells, IsFactOf}
use Rattle.covering_laws.specs.covered_memory.Spots.{spot, spot_at, spot_from, whole_part, IsFurther}
use Rattle.covering_laws.specs.covered_state.Items.{Each}
use Rattle.covering_laws.specs.covered_state.State.{Covered, BackIn, CalledIn, FrameIn, IsInGraph, TargetNoted}
use Rattle.covering_laws.specs.covered_state.World.{World, IsFunctionAt, IsTargetAt}
use Rattle.covering_laws.specs.grown_programs.Grown.{with_types}
use Rattle.covering_laws.proofs.covered_library.Fresh.{filter_map_has}
use Rattle.covering_laws.proofs.covered_memory.Anchors.{Leads, at_part, spot_is}
use Rattle.covering_laws.proofs.covered_rows.Lists.{map_has}
use Rattle.covered_runs.specs.machine_sound.covered_start.Objects.{IsSolved, machine_sets, terms_behind}
use Rattle.covered_runs.specs.machine_sound.covered_start.Start.{machine_world}
use Rattle.covered_runs.proofs.machine_sound.covered_start.Pointed.{grown}
use Rattle.report_cli.specs.covered_reports.Reports.{CoversRuns}
use Rattle.script_laws.specs.told_runs.Lines.{target_of, Points, IsOnLine, IsHeldOnLine, IsStored, IsCalledOnLine, IsBackOnLine, RunOnLines, LinesHold}

some_one : {X : Type 0} → {x y : X} → ◌≡◌ {A = Option X} (Some x) (Some y) → x ≡ y
some_one h = cc

none_some : {X : Type 0} → {x : X} → ◌≡◌ {A = Option X} None (Some x) → ⊥
none_some h = cc

-- ---- lists
pub item_at : {X : Type 0} (xs : List X) (i : ℕ) → i < length xs → (x : X) × (slice_get xs i ≡ Some x)
item_at [] i lt = absurd (omega arith)
item_at (x ∷ xs) zero lt = (x, refl)
item_at (x ∷ xs) (suc i) lt = item_at xs i (omega arith)

pub item_below : {X : Type 0} (xs : List X) (i : ℕ) (x : X) → slice_get xs i ≡ Some x → i < length xs
item_below [] i x e = absurd (none_some e)
item_below (y ∷ xs) zero x e = omega arith
item_below (y ∷ xs) (suc i) x e = let lt = item_below xs i x e in omega arith

each_has : {X : Type 0} (P : X → Type 0) (xs : List X) → Each P xs → (x : X) → Contains xs x → P x
each_has P [] all x h = absurd (let lt = h.1 in omega arith)
each_has P (y ∷ xs) all x (zero, lt, is) = subst P is all.0
each_has P (y ∷ xs) all x (suc k, lt, is) = each_has P xs all.1 x (k, omega arith, is)

each_cell : (P : List PathStep → Cell → Type 0) (cells : CellList) → EachCell P cells → (path : List PathStep) (cell : Cell) → Contains cells (path, cell) → P path cell
each_cell P [] all path cell h = absurd (let lt = h.1 in omega arith)
each_cell P (e ∷ rest) all path cell (zero, lt, is) = subst (λ (x : List PathStep × Cell). P x.0 x.1) is all.0
each_cell P (e ∷ rest) all path cell (suc k, lt, is) = each_cell P rest all.1 path cell (k, omega arith, is)

-- ---- the line of a location's set
-- a location that is followed as one piece, a pointer or a list has a line
collapsed_line : (y : Location) → y.collapsed ≡ true → has_line y ≡ true
collapsed_line y c = ap (λ (b : Bool). (b || (y.ty == 4)) || (y.ty == 7)) c

typed_line : (y : Location) (n : ℕ) → y.ty ≡ n → (b : Bool) → y.collapsed ≡ b → ((n == 4) || (n == 7)) ≡ true → has_line y ≡ true
typed_line y n is true c h = collapsed_line y c
typed_line y n is false c h = ap (λ (b : Bool). (b || (y.ty == 4)) || (y.ty == 7)) c ∙ (ap (λ (m : ℕ). (m == 4) || (m == 7)) is ∙ h)

-- a type whose cells have rows has the number of pointers or of lists
row_typed : (t : Ctype) (row at : ℕ) → row_by t row ≡ Some at → (row ≡ at) × (((type_number t == 4) || (type_number t == 7)) ≡ true)
row_typed (PointerTo to) row at e = (some_one e, refl)
row_typed VaListType row at e = (some_one e, refl)
row_typed t row at e = absurd (none_some e)

pointed_row : (row : ℕ → ℕ) (o : Option Reached) (at : ℕ) → pointer_row row o ≡ Some at → (r : Reached) × (o ≡ Some r) × (row r.node ≡ at) × (((type_number r.ty == 4) || (type_number r.ty == 7)) ≡ true)
pointed_row row None at e = absurd (none_some e)
pointed_row row (Some r) at e = let t = row_typed r.ty (row r.node) at e in (r, refl, t.0, t.1)

-- what a fact says of its location
pub fact_there : (o : Option LocationFact) (at ty d to : ℕ) → node_from o at ty d ≡ Some to → (fact : LocationFact) × (o ≡ Some fact)
fact_there None at ty d to e = absurd (none_some e)
fact_there (Some fact) at ty d to e = (fact, refl)

fact_typed : (fact : LocationFact) (at ty d to : ℕ) → fact.collapsed ≡ false → node_from (Some fact) at ty d ≡ Some to → fact.ty ≡ ty
fact_typed fact at ty d to apart_is e = by (fact.ty == ty) refl
  where
    by : (b : Bool) → (fact.ty == ty) ≡ b → fact.ty ≡ ty
    by true same = eqb-true fact.ty ty same
    by false apart =
        let none : node_from (Some fact) at ty d ≡ None =
        ap (λ (b : Bool). cond b (Some at) (cond (fact.ty == ty) (Some (at + d)) None)) apart_is ∙ ap (λ (b : Bool). let r : Option ℕ = cond b (Some (at + d)) None in r) apart in
        absurd (none_some (sym none ∙ e))

pub known : (system : System) (family : Family) → IsValid system → IsLeast system family → IsKnown system family
known system family valid least row location has = (full_has system row location (least_is_in_range system family valid least row location has)).1

module _ (space : List Location) (system : System) (family : Family) (valid : IsValid system) (least : IsLeast system family) (count : length space ≡ location_count system) where
  -- a location with a line, and a member of its set
  on_line : (row target : ℕ) (y : Location) → slice_get space row ≡ Some y → has_line y ≡ true → Has family row target → IsOnLine space system family row target
  on_line row target y there shown has = record {
    line = map_has (set_line space system family) _ row
        (in_filter (has_set space) (range_with_len 0 (length space)) row (in_range (length space) row (item_below space row y there))
        (ap (λ (o : Option Location). option_map_or has_line o false) there ∙ shown));
    named = (members_listed system family row target (known system family valid least)).1 has;
  }

-- ---- what memory holds
-- the row of a cell is that of its part, or for what a variadic function is passed further its object's
row_of : (key : ObjectKey) (first : ℕ) (row : Option ℕ) (at : ℕ) → further_row key first row ≡ Some at → (IsFurther key × (first ≡ at)) ⊎ (row ≡ Some at)
row_of (VarargsKey e) first row at h = inl (tt, some_one h)
row_of key first row at h = inr h

module _ (g : Sets) (system : System) (grounds : Grounds g.table g.space system) (valid : IsValid system) (least : IsLeast system g.family) (count : length g.space ≡ location_count system) (memory : List Instance) (all : MemoryIn g memory) where
  cell_lands : (cell : Cell) (row : Option ℕ) → Points cell → CellIn g memory row cell → Lands g.family row (target_of g.table g.space memory cell)
  cell_lands (Pointer j q past) row points h =
      subst (λ (o : Option ℕ). Lands g.family row o) (sym (ap (λ (o : Option Instance). option_and_then (λ (x : Instance). spot g.table g.space x.key q) o) h.inst_is)) h.lands
  cell_lands (FunctionCell key) row points h = h
  cell_lands Unset row points h = absurd points
  cell_lands (Number n) row points h = absurd points
  cell_lands Null row points h = absurd points

  module _ (inst : Instance) (inside : InstanceIn g memory inst) (path : List PathStep) where
    abbrev content : Content
    content = inside.location.content

    abbrev first : ℕ
    first = inside.first

    -- the location of a part that is a pointer or a list, and that it has a line
    part_line : (at : ℕ) → pointer_row (object_row content first) (part_at g.table (whole_part (whole_of g.table inst)) path) ≡ Some at → (spot g.table g.space inst.key path ≡ Some at) × ((y : Location) × (slice_get g.space at ≡ Some y) × (has_line y ≡ true))
    part_line at e =
        let (r, part_is, at_is, numbered) = pointed_row (object_row content first) (part_at g.table (whole_part (whole_of g.table inst)) path) at e in
        let leads : Leads r 0 r.node = record { apart = λ _. omega arith; inside = λ _. refl; within = λ _. refl } in
        let from : node_from (slice_get system.locations at) at (type_number r.ty) 0 ≡ Some at =
        subst (λ (k : ℕ). node_from (slice_get system.locations k) k (type_number r.ty) 0 ≡ Some k) at_is
        (at_part g.table g.space system grounds inst.key first inside.location inside.first_is inside.location_is (whole_of g.table inst) inside.shape path r part_is 0 r.node leads) in
        let (fact, fact_is) = fact_there (slice_get system.locations at) at (type_number r.ty) 0 at from in
        let (y, y_is) = item_at g.space at (let lt = item_below system.locations at fact fact_is in let c = count in omega arith) in
        let (own, own_is, of) = grounds.facts at y y_is in
        let spot_at : spot g.table g.space inst.key path ≡ Some at =
        spot_is g.table g.space system grounds inst.key first inside.location inside.first_is inside.location_is (whole_of g.table inst) inside.shape path r part_is ∙ ap (λ (k : ℕ). Some k) at_is in
        (spot_at, (y, y_is, shown y own of (type_number r.ty) at own_is from numbered))
      where
        shown : (y : Location) (own : LocationFact) → IsFactOf y own → (ty at : ℕ) → slice_get system.locations at ≡ Some own → node_from (slice_get system.locations at) at ty 0 ≡ Some at → ((ty == 4) || (ty == 7)) ≡ true
            → has_line y ≡ true
        shown y own of ty at own_is from numbered = by y.collapsed refl
          where
            read : node_from (Some own) at ty 0 ≡ Some at
            read = subst (λ (o : Option LocationFact). node_from o at ty 0 ≡ Some at) own_is from

            by : (b : Bool) → y.collapsed ≡ b → has_line y ≡ true
            by true c = collapsed_line y c
            by false c = typed_line y ty (sym of.ty ∙ fact_typed own at ty 0 at (of.collapsed ∙ c) read) false c numbered

    -- that of what a variadic function is passed further
    further_line : IsFurther inst.key → (spot g.table g.space inst.key path ≡ Some first) × ((y : Location) × (slice_get g.space first ≡ Some y) × (has_line y ≡ true))
    further_line h =
        let blob : content ≡ Blob = (inside.further h).1 in
        let tells : inside.location.collapsed ≡ true = subst (λ (c : Content). ContentTells c inside.location) blob (grounds.contents first inside.location inside.location_is) in
        let spot_at : spot g.table g.space inst.key path ≡ Some first =
        ap (λ (o : Option ℕ). spot_from g.table g.space o path) inside.first_is
        ∙ (ap (λ (o : Option Location). spot_at g.table first o path) inside.location_is
        ∙ (ap (λ (c : Content). option_map (λ (n : ℕ). first + n) (node_in g.table c path)) blob ∙ ap (λ (k : ℕ). Some k) (let e : first + 0 ≡ first = omega arith in e))) in
        (spot_at, (inside.location, inside.location_is, collapsed_line inside.location tells))

    row_line : (at : ℕ) → cell_row g.table inst content first path ≡ Some at → (spot g.table g.space inst.key path ≡ Some at) × ((y : Location) × (slice_get g.space at ≡ Some y) × (has_line y ≡ true))
    row_line at e = elim (row_of inst.key first (pointer_row (object_row content first) (part_at g.table (whole_part (whole_of g.table inst)) path)) at e) [
      | inl (h, is) ↦ subst (λ (k : ℕ). (spot g.table g.space inst.key path ≡ Some k) × ((y : Location) × (slice_get g.space k ≡ Some y) × (has_line y ≡ true))) is (further_line h)
      | inr f ↦ part_line at f
    ]

  cell_held : (i : ℕ) (inst : Instance) (path : List PathStep) (cell : Cell) → slice_get memory i ≡ Some inst → Contains inst.cells (path, cell) → Points cell → IsHeldOnLine g.table g.space system g.family memory inst.key path cell
  cell_held i inst path cell there has points =
      let inside : InstanceIn g memory inst = all i inst there in
      let row : List PathStep → Option ℕ = cell_row g.table inst inside.location.content inside.first in
      let lands : Lands g.family (row path) (target_of g.table g.space memory cell) =
      cell_lands cell (row path) points (each_cell (λ p c. CellIn g memory (row p) c) inst.cells inside.cells path cell has) in
      let (spot_at, (y, y_is, shown)) = row_line inst inside path lands.at lands.row_is in
      record {
        row = lands.at;
        row_is = spot_at;
        target = lands.location;
        target_is = lands.found_is;
        on = on_line g.space system g.family valid least count lands.at lands.location y y_is shown lands.has;
      }

  -- ---- what a step stores
  same_place : (path : List PathStep) (o : Option Instance) → instance_row g path o ≡ option_and_then (λ (x : Instance). spot g.table g.space x.key path) o
  same_place path None = refl
  same_place path (Some inst) = refl

  place_is : (place : Cell) (at : ℕ) → place_row g memory place ≡ Some at → target_of g.table g.space memory place ≡ Some at
  place_is (Pointer j path past) at e = sym (same_place path (slice_get memory j)) ∙ e
  place_is (FunctionCell key) at e = absurd (none_some e)
  place_is Unset at e = absurd (none_some e)
  place_is (Number n) at e = absurd (none_some e)
  place_is Null at e = absurd (none_some e)

  pub store_held : (stores : List (Cell × Cell)) → StoresIn g memory stores → (store : Cell × Cell) → Contains stores store → Points store.1 → IsStored g.table g.space system g.family memory store
  store_held [] covered store has points = absurd (let lt = has.1 in omega arith)
  store_held (s ∷ rest) covered store (zero, lt, is) points =
      let c : CellIn g memory (place_row g memory store.0) store.1 = subst (λ (x : Cell × Cell). CellIn g memory (place_row g memory x.0) x.1) is covered.0 in
      let lands : Lands g.family (place_row g memory store.0) (target_of g.table g.space memory store.1) = cell_lands store.1 (place_row g memory store.0) points c in
      record {
        row = lands.at;
        row_is = place_is store.0 lands.at lands.row_is;
        target = lands.location;
        target_is = lands.found_is;
        named = (members_listed system g.family lands.at lands.location (known system g.family valid least)).1 lands.has;
      }
  store_held (s ∷ rest) covered store (suc k, lt, is) points = store_held rest covered.1 store (k, omega arith, is) points

-- ---- what is called
placed_has : (k i n : ℕ) (calls : List CallSite) (site : CallSite) → k + i ≡ n → slice_get calls i ≡ Some site → site.direct ≡ false
    → Contains {X = Spot × ℕ} (all_placed k calls) ((site.place.unit, site.place.line, site.place.column, n), n)
placed_has k i n [] site at e plain = absurd (none_some e)
placed_has k zero n (call ∷ rest) site at e plain =
    Contains-append_left (placed k call) (all_placed (k + 1) rest) ((site.place.unit, site.place.line, site.place.column, n), n)
    (subst (λ (c : CallSite). Contains {X = Spot × ℕ} (placed k c) ((site.place.unit, site.place.line, site.place.column, n), n)) (sym (some_one e))
    (subst (λ (b : Bool). Contains {X = Spot × ℕ} (if b then [] else ((site.place.unit, site.place.line, site.place.column, k), k) ∷ []) ((site.place.unit, site.place.line, site.place.column, n), n)) (sym plain)
    (subst (λ (m : ℕ). Contains {X = Spot × ℕ} (((site.place.unit, site.place.line, site.place.column, k), k) ∷ []) ((site.place.unit, site.place.line, site.place.column, m), m)) (let s : k ≡ n = omega arith in s)
    (0, omega arith, refl))))
placed_has k (suc i) n (call ∷ rest) site at e plain =
    Contains-append_right (placed k call) (all_placed (k + 1) rest) ((site.place.unit, site.place.line, site.place.column, n), n) (placed_has (k + 1) i n rest site (omega arith) e plain)

call_shown : (space : List Location) (names : List (String Global)) (system : System) (family : Family) (call : ℕ) (site : CallSite) → slice_get system.calls call ≡ Some site → site.direct ≡ false
    → Contains (call_lines space names system family) (call_line space names system family site)
call_shown space names system family call site e plain =
    let entry : Spot × ℕ = ((site.place.unit, site.place.line, site.place.column, call), call) in
    let listed : Contains (in_order [] (all_placed 0 system.calls)) entry =
    (((calls_ordered system.calls (in_order [] (all_placed 0 system.calls))).0 refl).same entry).1 (placed_has 0 call call system.calls site (omega arith) e plain) in
    map_has (call_line space names system family) (calls_in_order system.calls) site
    (filter_map_has (λ (one : Spot × ℕ). slice_get system.calls one.1) (in_order [] (all_placed 0 system.calls)) entry site listed e)

module _ (p : Program) (system : System) (family : Family) (s : IsSolved p system family) (valid : IsValid system) (least : IsLeast system family) (names : List (String Global)) where
  functions_one : functions_of (trees_in (with_types p (terms_behind p))) (view_of (locations_in p)) ≡ functions_of (trees_in p) (view_of (locations_in p))
  unfolding functions_below
  functions_one = refl

  numbered : (number : ℕ) (key : ObjectKey) → IsFunctionAt (machine_world p system family s) number key → slice_get (functions_of (trees_in p) (view_of (locations_in p))) number ≡ Some key
  numbered number key h = ap (λ (list : List ObjectKey). slice_get list number) (sym functions_one) ∙ h

  target_line : (n : ℕ) (key : ObjectKey) → IsTargetAt (machine_world p system family s) n key → IsCalledOnLine p (locations_in p) names system family n key
  target_line n key h =
      let (site, function, site_is, target) = h.target in
      record {
        call = h.call;
        call_is = h.call_is;
        site = site;
        site_is = site_is;
        number = h.function;
        key_is = numbered h.function key h.function_is;
        function = function;
        function_is = target.known;
        named = (targets_listed system family site function.location valid (known system family valid least)).1 (h.function, function, target, refl);
        line = λ plain. call_shown (locations_in p) names system family h.call site site_is plain;
      }

  back_line : (edges : List (ℕ × ℕ)) → IsGraph system family edges → (library : ℕ) (key : ObjectKey) → IsInGraph (machine_world p system family s) library key → IsBackOnLine p (locations_in p) system edges library key
  back_line edges graph library key h = record {
    caller = h.caller;
    caller_is = numbered h.caller (FunctionKey library) h.caller_is;
    callee = h.callee;
    callee_is = numbered h.callee key h.callee_is;
    line = map_has (edge_line (locations_in p) system) edges (h.caller, h.callee) ((graph.edges h.caller h.callee).1 h.edge);
  }

-- ---- the law
own_lines : (p : Program) (names : List (String Global)) (system : System) (family : Family) (edges : List (ℕ × ℕ)) (words : List ℕ) (n : ℕ) → IsValid system → length (locations_in p) ≡ location_count system → IsLeast system family
    → CoversRuns p system family → IsGraph system family edges → RunOnLines p (locations_in p) names system family edges words n
unfolding types_with
own_lines p names system family edges words n valid count least c graph =
    let world : World = machine_world p system family c.solved in
    let state = run p words n in
    let covered : Covered world state = c.covered words n in
    record {
      held = λ i inst path cell there has points. cell_held (machine_sets p family) system (grown p system family c.solved) valid least count state.memory covered.memory i inst path cell there has points;
      stored = λ store has points. store_held (machine_sets p family) system (grown p system family c.solved) valid least count state.memory covered.memory state.notes.stores covered.notes.stores store has points;
      reached = λ node key e. target_line p system family c.solved valid least names node key (subst (λ (o : Option (ℕ × ObjectKey)). TargetNoted world o) e covered.notes.target);
      entered = λ f node has e.
          target_line p system family c.solved valid least names node f.function
          (subst (λ (o : Option ℕ). CalledIn world f.function o) e (each_has (FrameIn world state.memory) state.frames covered.frames f has).called).0;
      back = λ f library has e.
          back_line p system family c.solved valid least names edges graph library f.function
          (subst (λ (o : Option ℕ). BackIn world f.function o) e (each_has (FrameIn world state.memory) state.frames covered.frames f has).back);
    }

pub lines_hold : LinesHold
lines_hold p space names system family edges words n of least c graph =
    subst (λ (l : List Location). RunOnLines p l names system family edges words n) (sym of.space_is)
    (own_lines p names system family edges words n of.valid (ap (λ (l : List Location). length l) (sym of.space_is) ∙ of.count) least c graph)
