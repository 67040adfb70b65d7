-- The initialisers of static objects leave the memory covered, and no object in it waits for a type.
use Rattle.std.proofs.Common.{◌≡◌, ◌∙◌, inl, inr, ℕ, zero, suc, Bool, false, cond, List, [], ◌∷◌, map, Option, Some, None, slice_get, refl, sym, ap, subst}
use Rattle.std.proofs.lemmas.Bool.Decides.{eqb_tells}
use Rattle.c_types.specs.declared.key.ObjectKey.TheVariants.{Entity as EntityKey}
use Rattle.c_types.specs.declared.term.PathStep.{PathStep}
use Rattle.c_types.specs.declared.term.TypeId.{TypeId}
use Rattle.core_tree.specs.declared.node.Entity.{Entity}
use Rattle.core_tree.specs.declared.node.Node.{Node}
use Rattle.core_tree.specs.declared.node.NodeKind.{NodeKind}
use Rattle.core_tree.specs.declared.node.NodeKind.TheVariants.{Initialise}
use Rattle.core_tree.specs.declared.node.Program.{Program}
use Rattle.core_tree.specs.Typed.{CoreTrees, Sort, ValueNode, sort_at}
use Rattle.sol_model.specs.declared.system.System.{System}
use Rattle.sol_model.specs.Families.{Family}
use Rattle.obj_made.specs.declared.object.Content.TheVariants.{Blob, Elements}
use Rattle.obj_space.specs.View.{first_from}
use Rattle.ref_cells.specs.declared.cells.Cell.TheVariants.{Pointer}
use Rattle.ref_cells.specs.declared.cells.Value.{Value}
use Rattle.ref_cells.specs.declared.instance.Instance.{Instance}
use Rattle.ref_mem.specs.declared.writes.Initial.{Initial}
use Rattle.ref_mem.specs.Writes.{changed, initialised}
use Rattle.ref_state.specs.Values.{value_in}
use Rattle.ref_state.specs.ref_types.Types.{types_with}
use Rattle.ref_places.specs.Places.{first_instance, whole_place, named_row}
use Rattle.ref_statements.specs.Initialisers.{parts}
use Rattle.ref_start.specs.Fixed.{Fixing, fixed, static_body}
use Rattle.ref_start.specs.Start.{cells_by, id_in, part_of, parts_of, filled_at, filled_by, filled_in, filled_if, all_filled, filled_over, start_memory}
use Rattle.covering_laws.specs.covered_memory.Covered.{MemoryIn, Extends, Leaves}
use Rattle.covering_laws.proofs.covered_memory.Stays.{same_memory}
use Rattle.covering_laws.proofs.covered_memory.Changes.{change_law}
use Rattle.covering_laws.specs.covered_rows.Nodes.{HeldIn}
use Rattle.covering_laws.specs.covered_state.World.{World, trees_of, sets_of, setting_in}
use Rattle.covering_laws.specs.covered_state.Items.{SortIn}
use Rattle.covering_laws.proofs.covered_state.Stays.{node_stays}
use Rattle.covered_runs.specs.covered_steps.covered_values.Values.{GoesBack}
use Rattle.covered_runs.proofs.covered_steps.covered_values.Operands.{same_back, set_back}
use Rattle.covered_runs.proofs.covered_steps.covered_values.Places.{IsNamed, named_inv}
use Rattle.covered_runs.specs.covered_steps.Steps.{NoneBare}
use Rattle.covered_runs.proofs.covered_steps.Frames.{then_left}
use Rattle.covered_runs.specs.covered_steps.covered_statements.Runnable.{IsRunnable}
use Rattle.covered_runs.proofs.covered_steps.covered_statements.Initialised.{initialised_in}
use Rattle.covered_runs.specs.machine_sound.covered_start.Objects.{TakeAny, IsSolved, objects_at_start}
use Rattle.covered_runs.specs.machine_sound.covered_start.Start.{machine_world, StartSteady}
use Rattle.covered_runs.proofs.machine_sound.covered_start.Fixed.{fixed_covered}
use Rattle.covered_runs.proofs.machine_sound.covered_start.Pointed.{objects_covered}
use Rattle.covered_runs.proofs.machine_sound.covered_start.Static.{start_static, allocated_stream, stream_blob, objects_take}

some_one : {X : Type 0} → {x y : X} → ◌≡◌ {A = Option X} (Some x) (Some y) → x ≡ y
some_one h = cc

none_some : {X : Type 0} → {x : X} → ◌≡◌ {A = Option X} None (Some x) → ⊥
none_some h = cc

pointer_one : {i j : ℕ} → {p q : List PathStep} → {a b : Bool} → Pointer i p a ≡ Pointer j q b → i ≡ j
pointer_one h = cc

elements_blob : {id : TypeId} → Elements id ≡ Blob → ⊥
elements_blob h = cc

-- Numbers with their values: each is found by its number.

abbrev pub with_own : (ℕ → Value) → ℕ → ℕ × Value
with_own f c = (c, f c)

own_there : (f : ℕ → Value) (cs : List ℕ) (k v : ℕ) → slice_get cs k ≡ Some v → value_in (map (with_own f) cs) v ≡ f v
own_there f [] k v e = absurd (none_some e)
own_there f (c ∷ rest) zero v e =
    let same : c ≡ v = some_one e in
    elim (eqb_tells c v) [
      | inl is ↦ ap (λ (b : Bool). cond b (f c) (value_in (map (with_own f) rest) v)) is.0 ∙ ap f is.1
      | inr other ↦ absurd (other.1 same)
    ]
own_there f (c ∷ rest) (suc k) v e =
    elim (eqb_tells c v) [
      | inl is ↦ ap (λ (b : Bool). cond b (f c) (value_in (map (with_own f) rest) v)) is.0 ∙ ap f is.1
      | inr other ↦ ap (λ (b : Bool). cond b (f c) (value_in (map (with_own f) rest) v)) other.0 ∙ own_there f rest k v e
    ]

-- the value of a fixed node, of one unset cell where its computation stops
abbrev pub given_by : Fixing → ℕ → Value
given_by fix v = record { cells = cells_by (fix v) }

parts_same : (u : CoreTrees) (fix : Fixing) (list : List (ℕ × Value)) (ps : List (List PathStep)) (cs : List ℕ) → ((k v : ℕ) → slice_get cs k ≡ Some v → value_in list v ≡ given_by fix v)
    → parts u ps cs list ≡ parts_of u.nodes fix ps cs
parts_same u fix list (path ∷ ps) (v ∷ cs) own =
    ap (λ (x : Value). (let i : Initial = record { path = path; ty = id_in (slice_get u.nodes v); cells = x.cells } in i) ∷ parts u ps cs list) (own 0 v refl)
    ∙ ap (λ (more : List Initial). part_of u.nodes fix path v ∷ more) (parts_same u fix list ps cs (λ k w e. own (suc k) w e))
parts_same u fix list [] [] own = refl
parts_same u fix list [] (v ∷ cs) own = refl
parts_same u fix list (path ∷ ps) [] own = refl

-- where none waited before, none waits once instances went on as the same objects, none of them without its type
pub bare_back : (world : World) (old new : List Instance) → Extends (sets_of world) old new → GoesBack old new → NoneBare world old → NoneBare world new
bare_back world old new extends back none i inst at b =
    let a = back i inst at in
    let x = extends i a.0 a.1 in
    let key : a.0.key ≡ inst.key = sym (x.2.key) ∙ ap (λ (z : Instance). z.key) (some_one (sym x.1 ∙ at)) in
    none i a.0 a.1 (record { untyped = a.2 b.untyped; first = b.first; location = b.location; first_is = ap (first_from 0 world.space) key ∙ b.first_is; location_is = b.location_is; id = b.id; content_is = b.content_is })

-- an instance that is changed and keeps its type
pub changed_back : (memory : List Instance) (i : ℕ) (change : Instance → Instance) → ((a : Instance) → (change a).ty ≡ a.ty) → GoesBack memory (changed memory i (slice_get memory i) change)
changed_back memory i change same = by (slice_get memory i) refl
  where
    by : (o : Option Instance) → slice_get memory i ≡ o → GoesBack memory (changed memory i o change)
    by None is = same_back memory
    by (Some x) is = set_back memory i x (change x) is (λ none. sym (same x) ∙ none)

module _ (world : World) (runs : IsRunnable world) (objects : List Instance) (all : MemoryIn (sets_of world) objects) (take : TakeAny (sets_of world) objects) (unbare : NoneBare world objects) where
  abbrev pub fix : Fixing
  fix = fixed (trees_of world) objects

  -- what the objects become: covered, and none waits for a type
  pub record IsFilled (memory : List Instance) : Type 0 where
    pub leaves : Leaves (sets_of world) objects memory
    pub bare : NoneBare world memory

  module _ (memory : List Instance) (so : IsFilled memory) where
    held_one : (v : ℕ) → sort_at (trees_of world) v ≡ ValueNode → HeldIn (sets_of world) (setting_in world) memory v (given_by fix v)
    held_one v sort = by (fix v) refl
      where
        by : (o : Option Value) → fix v ≡ o → HeldIn (sets_of world) (setting_in world) memory v (record { cells = cells_by o })
        by None is = (tt, tt)
        by (Some x) is =
            (subst (λ (s : Sort). SortIn world memory s v x) sort
            (node_stays world objects memory so.leaves.extends v x (fixed_covered world objects v x runs.stands all take is))).0

    held_all : (cs : List ℕ) (v : ℕ) → sort_at (trees_of world) v ≡ ValueNode → HeldIn (sets_of world) (setting_in world) memory v (value_in (map (with_own (given_by fix)) cs) v)
    held_all [] v sort = tt
    held_all (c ∷ rest) v sort =
        elim (eqb_tells c v) [
          | inl is ↦
              subst (λ (b : Bool). HeldIn (sets_of world) (setting_in world) memory v (cond b (given_by fix c) (value_in (map (with_own (given_by fix)) rest) v))) (sym is.0)
              (subst (λ (m : ℕ). HeldIn (sets_of world) (setting_in world) memory v (given_by fix m)) (sym is.1) (held_one v sort))
          | inr other ↦
              subst (λ (b : Bool). HeldIn (sets_of world) (setting_in world) memory v (cond b (given_by fix c) (value_in (map (with_own (given_by fix)) rest) v))) (sym other.0)
              (held_all rest v sort)
        ]

    module _ (b : ℕ) (node : Node) (there : slice_get (trees_of world).nodes b ≡ Some node) (e : ℕ) (paths : List (List PathStep)) (kind : node.kind ≡ Initialise e paths) where
      found_at : (i : ℕ) → first_instance (EntityKey e) 0 memory ≡ Some i → IsNamed memory (EntityKey e) (Pointer i [] false)
      unfolding named_row
      found_at i is = named_inv memory [] (EntityKey e) (Pointer i [] false) (ap whole_place is)

      key_at : (i : ℕ) → first_instance (EntityKey e) 0 memory ≡ Some i → (a : Instance) → slice_get memory i ≡ Some a → a.key ≡ EntityKey e
      key_at i is a at =
          let named = found_at i is in
          ap (λ (x : Instance). x.key) (some_one (sym at ∙ (ap (slice_get memory) (sym (pointer_one named.cell_is)) ∙ named.there.inst_is))) ∙ named.there.key_is

      own_parts : parts (trees_of world) paths node.children (map (with_own (given_by fix)) node.children) ≡ parts_of (trees_of world).nodes fix paths node.children
      own_parts = parts_same (trees_of world) fix (map (with_own (given_by fix)) node.children) paths node.children (own_there (given_by fix) node.children)

      leaves_at : (i : ℕ) → first_instance (EntityKey e) 0 memory ≡ Some i
          → Leaves (sets_of world) memory (changed memory i (slice_get memory i) (initialised world.program.types false (parts (trees_of world) paths node.children (map (with_own (given_by fix)) node.children))))
      leaves_at i is =
          change_law (sets_of world) world.system runs.stands.grounds memory i (initialised world.program.types false (parts (trees_of world) paths node.children (map (with_own (given_by fix)) node.children))) so.leaves.covered
          (λ a at inside.
          initialised_in world runs memory b node (map (with_own (given_by fix)) node.children) so.leaves.covered there (held_all node.children) e paths kind a (key_at i is a at) inside false)

      by_place : (o : Option ℕ) → first_instance (EntityKey e) 0 memory ≡ o → IsFilled (filled_at (trees_of world) memory o (parts_of (trees_of world).nodes fix paths node.children))
      by_place None is = so
      by_place (Some i) is =
          subst (λ (list : List Initial). IsFilled (changed memory i (slice_get memory i) (initialised world.program.types false list))) own_parts
          (record {
            leaves = then_left (sets_of world) objects memory (changed memory i (slice_get memory i) (initialised world.program.types false (parts (trees_of world) paths node.children (map (with_own (given_by fix)) node.children)))) so.leaves (leaves_at i is);
            bare = bare_back world memory (changed memory i (slice_get memory i) (initialised world.program.types false (parts (trees_of world) paths node.children (map (with_own (given_by fix)) node.children)))) (leaves_at i is).extends
                (changed_back memory i (initialised world.program.types false (parts (trees_of world) paths node.children (map (with_own (given_by fix)) node.children))) (λ a. refl)) so.bare;
          })

    by_kind : (b : ℕ) (node : Node) → slice_get (trees_of world).nodes b ≡ Some node → (kind : NodeKind) → node.kind ≡ kind → IsFilled (filled_by (trees_of world) objects memory kind node.children)
    by_kind b node there (Initialise e paths) is = by_place b node there e paths is (first_instance (EntityKey e) 0 memory) refl
    by_kind b node there kind is = so

    by_node : (b : ℕ) (o : Option Node) → slice_get (trees_of world).nodes b ≡ o → IsFilled (filled_in (trees_of world) objects memory o)
    by_node b None is = so
    by_node b (Some node) is = by_kind b node is node.kind refl

    by_body : (o : Option ℕ) → IsFilled (filled_if (trees_of world) objects memory o)
    by_body None = so
    by_body (Some b) = by_node b (slice_get (trees_of world).nodes b) refl

  each_filled : (entities : List Entity) (memory : List Instance) → IsFilled memory → IsFilled (all_filled (trees_of world) objects entities memory)
  each_filled [] memory so = so
  each_filled (x ∷ rest) memory so = each_filled rest (filled_if (trees_of world) objects memory (static_body x)) (by_body memory so (static_body x))

  pub objects_filled : IsFilled (filled_over (trees_of world) objects)
  objects_filled = each_filled (trees_of world).entities objects (record { leaves = record { extends = same_memory (sets_of world) objects; covered = all }; bare = unbare })

-- the one object without a type is the stream, which is no array of elements
start_bare : (p : Program) (system : System) (family : Family) (s : IsSolved p system family) → NoneBare (machine_world p system family s) (objects_at_start p)
start_bare p system family s i inst at b =
    let inside = objects_covered p system family s i inst at in
    let key = allocated_stream inst.key (start_static p i inst at) (inside.untyped b.untyped) in
    elements_blob (sym b.content_is ∙ stream_blob p s.made inst.key key b.first b.location b.first_is b.location_is)

pub start_steady : StartSteady
unfolding start_memory types_with
start_steady p system family s runs =
    let filled = objects_filled (machine_world p system family s) runs (objects_at_start p) (objects_covered p system family s) (objects_take p family s.made) (start_bare p system family s) in
    record {
      covered = record {
        memory = filled.leaves.covered;
        frames = tt;
        kept = tt;
        notes = record { target = tt; stores = tt };
        handed = tt;
        awaited = record { each = λ i inst at b. absurd (filled.bare i inst at b) };
      };
      stacked = tt;
    }
