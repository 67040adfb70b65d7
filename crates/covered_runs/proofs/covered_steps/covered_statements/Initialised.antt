-- What an initialiser leaves is covered, and so are the pointers that it puts there.
use Rattle.std.proofs.Common.{arith, ◌≡◌, ◌∙◌, ℕ, suc, Bool, true, false, cond, List, [], ◌∷◌, Option, Some, None, Ok, Err, IsSome, slice_get, refl, sym, ap, subst}
use Rattle.std.specs.Prelude.{nat_lt, nat_le}
use Rattle.std.proofs.lemmas.Bool.Decides.{nat_tests}
use Rattle.c_types.specs.declared.key.ObjectKey.TheVariants.{Entity as EntityKey}
use Rattle.c_types.specs.declared.term.PathStep.{PathStep}
use Rattle.c_types.specs.declared.term.PathStep.TheVariants.{Index}
use Rattle.c_types.specs.Trees.{Ctype, ArrayOf}
use Rattle.c_types.specs.Paths.{part_type, type_at_path}
use Rattle.c_types.specs.Table.{Table, type_of, extent_in}
use Rattle.core_tree.specs.declared.node.Entity.{Entity}
use Rattle.core_tree.specs.declared.node.Node.{Node}
use Rattle.core_tree.specs.declared.node.NodeKind.{NodeKind}
use Rattle.core_tree.specs.declared.node.NodeKind.TheVariants.{Initialise}
use Rattle.core_tree.specs.Rows.{RowOf, InitialValues, entity_type}
use Rattle.core_tree.specs.Typed.{ValueNode, sort_at, type_in, type_at}
use Rattle.core_tree.specs.declared.node.Storage.{Storage}
use Rattle.core_tree.specs.declared.node.Storage.TheVariants.{Static, Automatic, FunctionBody, Parameter, Declared}
use Rattle.obj_made.specs.declared.object.Content.{Content}
use Rattle.obj_made.specs.declared.object.Content.TheVariants.{Typed}
use Rattle.obj_made.specs.Made.{entity_content}
use Rattle.obj_space.specs.Spots.{Reached, reached, part_at}
use Rattle.obj_space.specs.View.{first_from}
use Rattle.row_numbers.specs.Kept.{kept_row, nodes_of}
use Rattle.row_numbers.specs.Objects.{entity_key}
use Rattle.ref_cells.specs.declared.cells.Reason.TheVariants.{OutOfRange, Unset as UnsetUse}
use Rattle.ref_cells.specs.declared.cells.Cell.TheVariants.{Pointer}
use Rattle.ref_cells.specs.declared.cells.Value.{Value}
use Rattle.ref_cells.specs.declared.instance.Instance.{Instance}
use Rattle.ref_cells.specs.Cells.{CellList}
use Rattle.ref_cells.specs.Places.{is_out, walk}
use Rattle.ref_cells.specs.Wholes.{whole_of}
use Rattle.ref_mem.specs.declared.writes.Initial.{Initial}
use Rattle.ref_mem.specs.Writes.{width_along, changed, kept_parts, initialised}
use Rattle.ref_elements.specs.Outcomes.{pointers_in}
use Rattle.ref_state.specs.declared.frames.Frame.{Frame}
use Rattle.ref_state.specs.Items.{replaced}
use Rattle.ref_state.specs.Values.{value_in}
use Rattle.ref_places.specs.Places.{instance_of, whole_place, named_row}
use Rattle.ref_values.specs.Values.{lacks}
use Rattle.normal_form.specs.Assignments.{row_in}
use Rattle.ref_statements.specs.Rows.{Row, Next}
use Rattle.ref_statements.specs.Initialisers.{id_in, parts, clears, cells_in, initialised_at, initialise_by, initialise_row}
use Rattle.covering_laws.specs.covered_types.Whole.{IsFew}
use Rattle.covering_laws.specs.covered_memory.Spots.{whole_part}
use Rattle.covering_laws.specs.covered_memory.Covered.{Sets, CellIn, pointer_row, CellsIn, object_row, HasShape, InstanceIn, MemoryIn, GoesOn, Leaves}
use Rattle.covering_laws.specs.covered_memory.Demands.{StoresAt}
use Rattle.covering_laws.proofs.covered_memory.Cells.{each_change}
use Rattle.covering_laws.proofs.covered_memory.Puts.{part_along}
use Rattle.covering_laws.proofs.covered_memory.Stays.{same_memory}
use Rattle.covering_laws.proofs.covered_memory.Walks.{Walked, walk_part}
use Rattle.covering_laws.proofs.covered_memory.Access.{Target, cell_written, kept_in}
use Rattle.covering_laws.proofs.covered_memory.Changes.{PartsIn, parts_own, change_law}
use Rattle.covering_laws.specs.covered_library.Calls.{StoresIn}
use Rattle.covering_laws.proofs.covered_library.Stores.{own_stored}
use Rattle.covering_laws.specs.covered_rows.Nodes.{IsNode, HeldIn}
use Rattle.covering_laws.proofs.covered_rows.Values.{of_held}
use Rattle.covering_laws.proofs.covered_rows.Initials.{item_stores}
use Rattle.covering_laws.specs.covered_state.World.{World, trees_of, sets_of, setting_in}
use Rattle.covering_laws.specs.covered_state.Items.{Each, NodeIn}
use Rattle.covered_runs.specs.covered_steps.covered_values.Values.{GoesBack}
use Rattle.covered_runs.proofs.covered_steps.covered_values.Operands.{ok_one, err_ok, same_back, set_back, value_held}
use Rattle.covered_runs.proofs.covered_steps.covered_values.Places.{IsNamed, named_inv}
use Rattle.covered_runs.specs.covered_steps.covered_statements.Runnable.{IsRunnable}

some_one : {X : Type 0} → {x y : X} → ◌≡◌ {A = Option X} (Some x) (Some y) → x ≡ y
some_one h = cc

none_some : {X : Type 0} → {x : X} → ◌≡◌ {A = Option X} None (Some x) → ⊥
none_some h = cc

pointer_one : {i j : ℕ} → {p q : List PathStep} → {a b : Bool} → Pointer i p a ≡ Pointer j q b → i ≡ j
pointer_one h = cc

-- the memory is left covered, no instance loses its type, the pointers that are put there are in the rows of their
-- places, and the initialiser is done
pub record IsInitialised (world : World) (memory : List Instance) (f : Frame) (next : Next) : Type 0 where
  pub leaves : Leaves (sets_of world) memory next.memory
  pub back : GoesBack memory next.memory
  pub stores : StoresIn (sets_of world) next.memory next.stores
  pub frame : next.frame ≡ record f { items = replaced 1 [] f.items }

-- A path whose type is found is walked.
module _ (table : Table) where
  no_path : (path : List PathStep) (s : Ctype) → type_at_path table None path ≡ Some s → ⊥
  no_path [] s e = none_some e
  no_path (step ∷ rest) s e = no_path rest s e

  in_range : (t : Ctype) (step : PathStep) (q : Ctype) → part_type table t step ≡ Some q → is_out t step ≡ false
  in_range (ArrayOf of (Some n)) (Index i) q e = by (nat_lt i n) refl e
    where
      by : (b : Bool) → nat_lt i n ≡ b → cond b (Some of) None ≡ Some q → nat_le n i ≡ false
      by true less f = grind (arith, nat_tests)
      by false less f = absurd (none_some f)
  in_range t step q e = refl

  path_walks : (t : Ctype) (path : List PathStep) (s : Ctype) → type_at_path table (Some t) path ≡ Some s → walk table (Some t) path ≡ Ok s
  path_walks t [] s e = ap (λ (x : Ctype). Ok x) (some_one e)
  path_walks t (step ∷ rest) s e = by (part_type table t step) refl e (λ q g. path_walks q rest s g)
    where
      by : (o : Option Ctype) → part_type table t step ≡ o → type_at_path table o rest ≡ Some s → ((q : Ctype) → type_at_path table (Some q) rest ≡ Some s → walk table (Some q) rest ≡ Ok s)
          → cond (is_out t step) (Err OutOfRange) (walk table (part_type table t step) rest) ≡ Ok s
      by None is g next = absurd (no_path rest s g)
      by (Some q) is g next =
          ap (λ (b : Bool). cond b (Err OutOfRange) (walk table (part_type table t step) rest)) (in_range t step q is) ∙ (ap (λ (o : Option Ctype). walk table o rest) is ∙ next q g)

module _ (world : World) (runs : IsRunnable world) (memory : List Instance) (n : ℕ) (node : Node) (values : List (ℕ × Value)) (all : MemoryIn (sets_of world) memory)
    (there : slice_get (trees_of world).nodes n ≡ Some node) (held : (v : ℕ) → sort_at (trees_of world) v ≡ ValueNode → HeldIn (sets_of world) (setting_in world) memory v (value_in values v))
    (e : ℕ) (paths : List (List PathStep)) (kind : node.kind ≡ Initialise e paths) where
  abbrev table : Table
  table = world.program.types

  abbrev g : Sets
  g = sets_of world

  node_is : IsNode (trees_of world) n (Initialise e paths) (type_of world.program.types node.ty.0) node.children
  node_is = record { node = node; there = there; kind_is = kind; type_is = refl; children_are = refl }

  -- the type of a value has few nodes
  value_few : (v : ℕ) → IsFew world.program.types (type_at (trees_of world) v)
  value_few v = by (slice_get (trees_of world).nodes v)
    where
      by : (o : Option Node) → IsFew world.program.types (type_in world.program.types o)
      by None = omega arith
      by (Some x) = runs.stands.few x.ty.0

  -- the object's instance
  module _ (a : Instance) (key : a.key ≡ EntityKey e) (inside : InstanceIn (sets_of world) memory a) where
    own : (entity : Entity) × (slice_get (trees_of world).entities e ≡ Some entity) × (inside.location.content ≡ entity_content entity.storage entity.ty) × (entity_key e (Some entity) ≡ EntityKey e)
        × ((entity.storage ≡ FunctionBody → ⊥) → IsSome (extent_in world.program.types (type_of world.program.types entity.ty.0)))
    own = runs.objects e inside.first inside.location (sym (ap (first_from 0 world.space) key) ∙ inside.first_is) inside.location_is

    abbrev top : Ctype
    top = type_of world.program.types own.0.ty.0

    values_are : InitialValues (trees_of world) (Some (type_of world.program.types own.0.ty.0)) paths node.children
    values_are =
        subst (λ (o : Option Ctype). InitialValues (trees_of world) o paths node.children) (ap (entity_type (trees_of world)) own.1)
        (subst (λ (k : NodeKind). RowOf (trees_of world) k (type_of world.program.types node.ty.0) node.children) kind (runs.stands.rows n node there))

    -- no function's object has an instance
    content : inside.location.content ≡ Typed own.0.ty
    content = by own.0.storage own.2
      where
        by : (s : Storage) → inside.location.content ≡ entity_content s own.0.ty → inside.location.content ≡ Typed own.0.ty
        by FunctionBody is = absurd (subst (λ (c : Content). HasShape world.program.types c (whole_of world.program.types a)) is inside.shape)
        by Static is = is
        by Automatic is = is
        by Parameter is = is
        by Declared is = is

    shape : (whole_of table a ≡ Some top) × IsSome (extent_in table top)
    shape = subst (λ (c : Content). HasShape world.program.types c (whole_of world.program.types a)) content inside.shape

    -- an item's value is covered at its place
    one_part : (j : ℕ) (path : List PathStep) (v : ℕ) → slice_get paths j ≡ Some path → slice_get node.children j ≡ Some v → sort_at (trees_of world) v ≡ ValueNode
        → type_at_path table (Some top) path ≡ Some (type_at (trees_of world) v)
        → CellsIn g memory (object_row inside.location.content inside.first) (part_at table (whole_part (whole_of table a)) path) (value_in values v).cells
    one_part j path v path_is v_is sort ty =
        subst (λ (o : Option Ctype). CellsIn g memory (object_row inside.location.content inside.first) (part_at table (whole_part o) path) (value_in values v).cells) (sym shape.0)
        (each_change (λ p c. CellIn g memory (pointer_row (kept_row (row_in (setting_in world) v) (nodes_of table (type_at (trees_of world) v))) (part_at table (Some (reached (type_at (trees_of world) v) 0 false)) p)) c)
        (λ p c. CellIn g memory (pointer_row (object_row inside.location.content inside.first) (part_at table (part_at table (Some (reached top 0 false)) path) p)) c) (value_in values v).cells
        (λ p c h. subst (λ (o : Option Reached). CellIn g memory (pointer_row (object_row inside.location.content inside.first) o) c) (part_along table (Some (reached top 0 false)) path p)
        (cell_written g world.system runs.stands.grounds memory (λ l. l ≡ object_row inside.location.content inside.first walked.part.node) a path target
        (kept_row (row_in (setting_in world) v) (nodes_of table (type_at (trees_of world) v))) stores (subst (IsFew table) (sym walked.ty) (value_few v)) p c
        (subst (λ (s : Ctype). CellIn g memory (pointer_row (kept_row (row_in (setting_in world) v) (nodes_of table (type_at (trees_of world) v))) (part_at table (Some (reached s 0 false)) p)) c) (sym walked.ty) h)))
        (of_held world.program world.space world.system world.is_system world.family runs.stands.closed runs.stands.grounds v (type_at (trees_of world) v) memory (value_in values v) refl
        (held v sort)))
      where
        walks : walk table (Some top) path ≡ Ok (type_at (trees_of world) v)
        walks = path_walks table top path (type_at (trees_of world) v) ty

        walked : Walked table (Some (reached top 0 false)) path (type_at (trees_of world) v)
        walked = walk_part table top 0 false path (type_at (trees_of world) v) walks

        target : Target g world.system runs.stands.grounds memory (λ l. l ≡ object_row inside.location.content inside.first walked.part.node) a path
        target = record { inside = inside; whole = top; whole_is = shape.0; part = walked.part; part_is = walked.part_is; has = refl }

        stores : StoresAt table world.system world.family (λ l. l ≡ object_row inside.location.content inside.first walked.part.node) (kept_row (row_in (setting_in world) v) (nodes_of table (type_at (trees_of world) v))) walked.part.ty
        stores =
            subst (λ (s : Ctype). StoresAt table world.system world.family (λ l. l ≡ object_row inside.location.content inside.first walked.part.node) (kept_row (row_in (setting_in world) v) (nodes_of table (type_at (trees_of world) v))) s) (sym walked.ty)
            (item_stores world.program world.space world.system world.is_system world.family runs.stands.closed runs.stands.grounds n e paths (type_of world.program.types node.ty.0) node.children node_is j path v path_is v_is
            (type_at (trees_of world) v) refl own.0 own.1 memory a (key ∙ (sym own.3 ∙ sym (ap (entity_key e) own.1))) inside content top refl walked.part walked.part_is)

    abbrev PartsOf : List (List PathStep × CellList) → Type 0
    PartsOf list = PartsIn g world.system runs.stands.grounds memory (object_row inside.location.content inside.first) (whole_part (whole_of table a)) list

    parts_each : (ps : List (List PathStep)) (cs : List ℕ) → InitialValues (trees_of world) (Some top) ps cs
        → ((j : ℕ) (path : List PathStep) (v : ℕ) → slice_get ps j ≡ Some path → slice_get cs j ≡ Some v → sort_at (trees_of world) v ≡ ValueNode → type_at_path table (Some top) path ≡ Some (type_at (trees_of world) v)
        → CellsIn g memory (object_row inside.location.content inside.first) (part_at table (whole_part (whole_of table a)) path) (value_in values v).cells)
        → PartsOf (kept_parts table (whole_of table a) (parts (trees_of world) ps cs values))
    parts_each [] [] h get = tt
    parts_each (path ∷ ps) (v ∷ cs) h get = (
      kept_in g world.system runs.stands.grounds memory (object_row inside.location.content inside.first) (part_at table (whole_part (whole_of table a)) path)
          (type_of table (id_in (slice_get (trees_of world).nodes v)).0) (width_along table (whole_of table a) path) (value_in values v).cells (get 0 path v refl refl h.0 h.1),
      parts_each ps cs h.2 (λ j q x at is. get (suc j) q x at is),
    )
    parts_each [] (v ∷ cs) h get = absurd h
    parts_each (path ∷ ps) [] h get = absurd h

    own_parts : PartsOf (kept_parts table (whole_of table a) (parts (trees_of world) paths node.children values))
    own_parts = parts_each paths node.children values_are one_part

    -- the instance goes on as the same object, and is covered
    pub initialised_in : (clear : Bool) → GoesOn g a (initialised table clear (parts (trees_of world) paths node.children values) a) × InstanceIn g memory (initialised table clear (parts (trees_of world) paths node.children values) a)
    initialised_in true = (
      record { key = refl; in_tree = λ p x. x; whole = λ t x. x },
      parts_own g world.system runs.stands.grounds memory (record a { zero = true; cells = [] }) cleared_in (kept_parts table (whole_of table a) (parts (trees_of world) paths node.children values)) own_parts,
    )
      where
        cleared_in : InstanceIn g memory (record a { zero = true; cells = [] })
        cleared_in = record {
          first = inside.first;
          location = inside.location;
          first_is = inside.first_is;
          location_is = inside.location_is;
          shape = inside.shape;
          untyped = inside.untyped;
          further = inside.further;
          cells = tt;
        }
    initialised_in false = (
      record { key = refl; in_tree = λ p x. x; whole = λ t x. x },
      parts_own g world.system runs.stands.grounds memory a inside (kept_parts table (whole_of table a) (parts (trees_of world) paths node.children values)) own_parts,
    )

  same_type : (clear : Bool) (list : List Initial) (a : Instance) → (initialised table clear list a).ty ≡ None → a.ty ≡ None
  same_type true list a h = h
  same_type false list a h = h

  module _ (f : Frame) where
    abbrev after_at : ℕ → Option Instance → List Instance
    after_at i o = changed memory i o (initialised table (clears paths) (parts (trees_of world) paths node.children values))

    found_at : (i : ℕ) → instance_of memory f.instances (EntityKey e) ≡ Some i → IsNamed memory (EntityKey e) (Pointer i [] false)
    unfolding named_row
    found_at i is = named_inv memory f.instances (EntityKey e) (Pointer i [] false) (ap whole_place is)

    leaves_at : (i : ℕ) → instance_of memory f.instances (EntityKey e) ≡ Some i → Leaves g memory (after_at i (slice_get memory i))
    leaves_at i is =
        change_law g world.system runs.stands.grounds memory i (initialised table (clears paths) (parts (trees_of world) paths node.children values)) all
        (λ a a_is inside. initialised_in a (key a a_is) inside (clears paths))
      where
        named : IsNamed memory (EntityKey e) (Pointer i [] false)
        named = found_at i is

        key : (a : Instance) → slice_get memory i ≡ Some a → a.key ≡ EntityKey e
        key a a_is =
            ap (λ (x : Instance). x.key) (some_one (sym a_is ∙ (ap (slice_get memory) (sym (pointer_one named.cell_is)) ∙ named.there.inst_is))) ∙ named.there.key_is

    back_at : (i : ℕ) (o : Option Instance) → slice_get memory i ≡ o → GoesBack memory (after_at i o)
    back_at i None is = same_back memory
    back_at i (Some x) is = set_back memory i x (initialised table (clears paths) (parts (trees_of world) paths node.children values) x) is (same_type (clears paths) (parts (trees_of world) paths node.children values) x)

    stored_at : (after : List Instance) → MemoryIn g after → (i : ℕ) (o : Option Instance) → slice_get after i ≡ o → StoresIn g after (pointers_in i (cells_in o))
    stored_at after covered i None is = tt
    stored_at after covered i (Some b) is = own_stored g world.system runs.stands.grounds after b (covered i b is) after (same_memory g after) i b is refl

    row_initialised : (o : Option ℕ) (next : Next) → instance_of memory f.instances (EntityKey e) ≡ o
        → initialised_at (trees_of world) memory f o paths (parts (trees_of world) paths node.children values) ≡ Ok next → IsInitialised world memory f next
    row_initialised None next is h = absurd (err_ok h)
    row_initialised (Some i) next is h =
        let left = leaves_at i is in
        subst (IsInitialised world memory f) (ok_one h)
        (record {
          leaves = left;
          back = back_at i (slice_get memory i) refl;
          stores = stored_at (after_at i (slice_get memory i)) left.covered i (slice_get (after_at i (slice_get memory i)) i) refl;
          frame = refl;
        })

pub initialised_covered : (world : World) → IsRunnable world → (memory : List Instance) (f : Frame) (n : ℕ) (node : Node) (values : List (ℕ × Value)) (next : Next) → MemoryIn (sets_of world) memory
    → slice_get (trees_of world).nodes n ≡ Some node → Each (λ x. NodeIn world memory x.0 x.1) values → initialise_row (trees_of world) memory f node values ≡ Ok next → IsInitialised world memory f next
unfolding initialise_row
initialised_covered world runs memory f n node values next all there each h = by (lacks (trees_of world) values node.children) h
  where
    of_kind : (kind : NodeKind) → node.kind ≡ kind → initialise_by (trees_of world) memory f kind node.children values ≡ Ok next → IsInitialised world memory f next
    of_kind (Initialise e paths) is k = row_initialised world runs memory n node values all there (value_held world memory values each) e paths is f (instance_of memory f.instances (EntityKey e)) next refl k
    of_kind kind is k = absurd (err_ok k)

    by : (b : Bool) → (let r : Row = cond b (Err UnsetUse) (initialise_by (trees_of world) memory f node.kind node.children values) in r) ≡ Ok next → IsInitialised world memory f next
    by true k = absurd (err_ok k)
    by false k = of_kind node.kind refl k
