-- Initialise: each item is written at the location of its path, which has what the value's rows have.
use Rattle.std.proofs.Common.{arith, ◌≡◌, ◌∙◌, ℕ, zero, suc, ◌+◌, true, false, Bool, cond, eqb, List, [], ◌∷◌, length, Option, Some, None, slice_get, unwrap_or, Contains, refl, sym, ap, subst}
use Rattle.std.specs.List.{range_with_len}
use Rattle.std.specs.Option.{option_map}
use Rattle.std.proofs.lemmas.List.Elements.{Contains-append_left, Contains-append_right}
use Rattle.c_types.specs.declared.key.ObjectKey.{ObjectKey}
use Rattle.c_types.specs.declared.term.PathStep.{PathStep}
use Rattle.c_types.specs.declared.term.TypeId.{TypeId}
use Rattle.c_types.specs.Trees.{Ctype}
use Rattle.c_types.specs.Table.{type_of}
use Rattle.core_tree.specs.declared.node.Entity.{Entity}
use Rattle.core_tree.specs.declared.node.NodeKind.TheVariants.{Initialise}
use Rattle.core_tree.specs.declared.node.Program.{Program}
use Rattle.core_tree.specs.Typed.{CoreTrees, trees_in, type_at}
use Rattle.sol_model.specs.declared.system.System.{System}
use Rattle.sol_model.specs.declared.system.LocationFact.{LocationFact}
use Rattle.sol_model.specs.Families.{Family, IsContained}
use Rattle.sol_model.specs.Places.{node_from, sub_of}
use Rattle.sol_model.specs.Rules.{Satisfies}
use Rattle.sol_model.specs.Solutions.{IsClosed}
use Rattle.obj_made.specs.declared.object.Content.{Content}
use Rattle.obj_made.specs.declared.object.Content.TheVariants.{Typed}
use Rattle.obj_space.specs.declared.location.Location.{Location}
use Rattle.obj_space.specs.Spots.{Reached, reached, part_at}
use Rattle.obj_space.specs.View.{first_from, view_of}
use Rattle.obj_space.proofs.Placed.{get_mapped}
use Rattle.row_numbers.specs.Kept.{nodes_of, kept_at, kept, kept_row}
use Rattle.row_numbers.specs.Numbers.{type_number}
use Rattle.row_numbers.specs.Objects.{entity_key, location_of}
use Rattle.row_numbers.specs.Setting.{Setting}
use Rattle.ref_cells.specs.declared.instance.Instance.{Instance}
use Rattle.normal_form.specs.declared.normal.Assignment.{Assignment}
use Rattle.normal_form.specs.declared.normal.Assignment.TheVariants.{Copy}
use Rattle.normal_form.specs.Assignments.{row_in, path_node, target_node, spot, put_at, item_row, initialise_row}
use Rattle.normal_form.specs.Facts.{location_fact}
use Rattle.normal_form.specs.SystemOf.{constraint_of, SystemOf}
use Rattle.covering_laws.specs.covered_memory.Covered.{Sets, object_row, InstanceIn}
use Rattle.covering_laws.specs.covered_memory.Demands.{Grounds, StoresAt}
use Rattle.covering_laws.specs.covered_rows.Nodes.{IsNode}
use Rattle.covering_laws.proofs.covered_rows.Lists.{map_has, kept_has}
use Rattle.covering_laws.proofs.covered_rows.Demanded.{by_statement, copy_says}
use Rattle.covering_laws.proofs.covered_rows.Values.{sets, w'}

some_one : {X : Type 0} → {x y : X} → ◌≡◌ {A = Option X} (Some x) (Some y) → x ≡ y
some_one h = cc

none_some : {X : Type 0} → {x : X} → ◌≡◌ {A = Option X} None (Some x) → ⊥
none_some h = cc

range_is : (a n k x : ℕ) → slice_get (range_with_len a n) k ≡ Some x → x ≡ a + k
range_is a zero k x e = absurd (none_some e)
range_is a (suc n) zero x e = sym (some_one e) ∙ (let z : a ≡ a + 0 = omega arith in z)
range_is a (suc n) (suc k) x e = range_is (a + 1) n k x e ∙ (let z : (a + 1) + k ≡ a + suc k = omega arith in z)

module _ (p : Program) (space : List Location) (system : System) (is : SystemOf p (view_of space) system) (F : Family) (closed : IsClosed system F) (grounds : Grounds p.types space system) where
  abbrev g : Sets
  g = sets p space system is F closed grounds

  abbrev w : Setting
  w = w' p space system is F closed grounds

  abbrev u : CoreTrees
  u = trees_in p

  abbrev nodes : Ctype → List Ctype
  nodes t = nodes_of p.types t

  fact_is : (l : ℕ) (fact : LocationFact) → slice_get system.locations l ≡ Some fact → fact.collapsed ≡ (view_of space).collapsed l
  fact_is l fact e =
      let m = get_mapped (location_fact u (view_of space)) (range_with_len 0 (length space)) l fact (ap (λ (fs : List LocationFact). slice_get fs l) (sym is.locations) ∙ e) in
      let at : m.0 ≡ l = range_is 0 (length space) l m.0 m.1 ∙ (let z : 0 + l ≡ l = omega arith in z) in
      sym (ap (λ (f : LocationFact). f.collapsed) m.2) ∙ ap (λ (k : ℕ). (view_of space).collapsed k) at

  typed_from : (location i m : ℕ) (t : Bool) → cond t (Some (location + i)) None ≡ Some m → location + i ≡ m
  typed_from location i m true e = some_one e
  typed_from location i m false e = absurd (none_some e)

  -- what an item's copies say
  item_says : (location v : ℕ) (t : Ctype) → ((a : Assignment) → Contains (put_at (nodes t) ((view_of space).collapsed location) location (row_in w v)) a → Satisfies system F (constraint_of a))
      → (i : ℕ) → kept_at (slice_get (nodes t) i) ≡ true → (m : ℕ) → sub_of system location (type_number t) i ≡ Some m → IsContained F (kept_row (row_in w v) (nodes t) i) m
  item_says location v t each i kept_i m sub = by (slice_get system.locations location) refl sub
    where
      at : (fact : LocationFact) → slice_get system.locations location ≡ Some fact → (c : Bool) → fact.collapsed ≡ c → cond c (Some location) (cond (eqb fact.ty (type_number t)) (Some (location + i)) None) ≡ Some m
          → IsContained F (kept_row (row_in w v) (nodes t) i) m
      at fact here true is_c e =
          subst (λ (k : ℕ). IsContained F (kept_row (row_in w v) (nodes t) i) k) (some_one e)
          (copy_says p (view_of space) system is F closed location (kept_row (row_in w v) (nodes t) i)
          (each (Copy location (kept_row (row_in w v) (nodes t) i))
          (subst (λ (b : Bool). Contains (put_at (nodes t) b location (row_in w v)) (Copy location (kept_row (row_in w v) (nodes t) i))) (sym is_c ∙ fact_is location fact here)
          (map_has (λ (j : ℕ). Copy location (kept_row (row_in w v) (nodes t) j)) (kept (nodes t)) i (kept_has (nodes t) i kept_i)))))
      at fact here false is_c e =
          subst (λ (k : ℕ). IsContained F (kept_row (row_in w v) (nodes t) i) k) (typed_from location i m (eqb fact.ty (type_number t)) e)
          (copy_says p (view_of space) system is F closed (location + i) (kept_row (row_in w v) (nodes t) i)
          (each (Copy (location + i) (kept_row (row_in w v) (nodes t) i))
          (subst (λ (b : Bool). Contains (put_at (nodes t) b location (row_in w v)) (Copy (location + i) (kept_row (row_in w v) (nodes t) i))) (sym is_c ∙ fact_is location fact here)
          (map_has (λ (j : ℕ). Copy (location + j) (kept_row (row_in w v) (nodes t) j)) (kept (nodes t)) i (kept_has (nodes t) i kept_i)))))

      by : (o : Option LocationFact) → slice_get system.locations location ≡ o → node_from o location (type_number t) i ≡ Some m → IsContained F (kept_row (row_in w v) (nodes t) i) m
      by None here e = absurd (none_some e)
      by (Some fact) here e = at fact here fact.collapsed refl e

  -- the copies of each item are among those of the initialiser
  item_has : (e : ℕ) (paths : List (List PathStep)) (values : List ℕ) (j : ℕ) (path : List PathStep) (v : ℕ) → slice_get paths j ≡ Some path → slice_get values j ≡ Some v → (a : Assignment) → Contains (item_row w e path v) a
      → Contains (initialise_row w e paths values) a
  item_has e [] values j path v x y a h = absurd (none_some x)
  item_has e (q ∷ paths) [] j path v x y a h = absurd (none_some y)
  item_has e (q ∷ paths) (b ∷ values) zero path v x y a h =
      Contains-append_left (item_row w e q b) (initialise_row w e paths values) a
      (subst (λ (z : ℕ). Contains (item_row w e q z) a) (sym (some_one y)) (subst (λ (z : List PathStep). Contains (item_row w e z v) a) (sym (some_one x)) h))
  item_has e (q ∷ paths) (b ∷ values) (suc j) path v x y a h = Contains-append_right (item_row w e q b) (initialise_row w e paths values) a (item_has e paths values j path v x y a h)

  -- The place of an item has what the rows of the item's value have.
  pub item_stores : (n e : ℕ) (paths : List (List PathStep)) (s : Ctype) (children : List ℕ) → IsNode u n (Initialise e paths) s children
      → (j : ℕ) (path : List PathStep) (v : ℕ) → slice_get paths j ≡ Some path → slice_get children j ≡ Some v → (t : Ctype) → type_at u v ≡ t → (x : Entity) → slice_get p.entities.items e ≡ Some x
      → (memory : List Instance) (inst : Instance) → inst.key ≡ entity_key e (slice_get p.entities.items e) → (inside : InstanceIn g memory inst) → inside.location.content ≡ Typed x.ty
      → (top : Ctype) → top ≡ type_of p.types x.ty.0 → (part : Reached) → part_at p.types (Some (reached top 0 false)) path ≡ Some part
      → StoresAt p.types system F (λ l. l ≡ object_row inside.location.content inside.first part.node) (kept_row (row_in w v) (nodes t)) t
  item_stores n e paths s children node j path v path_is v_is t ty x x_is memory inst key inside content top whole part part_is = stores
    where
      first_is : location_of u (view_of space) e ≡ inside.first
      first_is = ap (λ (k : ObjectKey). unwrap_or (first_from 0 space k) 0) (sym key) ∙ ap (λ (o : Option ℕ). unwrap_or o 0) inside.first_is

      node_is : part.node ≡ target_node u e path
      node_is =
          sym (ap (λ (o : Option Reached). unwrap_or (option_map (λ (r : Reached). r.node) o) 0) part_is)
          ∙ (ap (λ (c : Ctype). path_node p.types (Some c) path) whole
          ∙ sym (ap (λ (o : Option Entity). path_node p.types (option_map (λ (id : TypeId). type_of p.types id.0) (option_map (λ (y : Entity). y.ty) o)) path) x_is))

      spot_same : spot u (view_of space) e path ≡ object_row inside.location.content inside.first part.node
      spot_same =
          ap (λ (k : ℕ). k + target_node u e path) first_is
          ∙ (ap (λ (k : ℕ). inside.first + k) (sym node_is) ∙ sym (ap (λ (c : Content). object_row c inside.first part.node) content))

      stores : StoresAt p.types system F (λ l. l ≡ object_row inside.location.content inside.first part.node) (kept_row (row_in w v) (nodes t)) t
      stores i kept_i l m is_l sub =
          item_says (spot u (view_of space) e path) v t
          (λ a c. by_statement p (view_of space) system is F closed n (Initialise e paths) s children node a
          (item_has e paths children j path v path_is v_is a (subst (λ (b : Ctype). Contains (put_at (nodes b) ((view_of space).collapsed (spot u (view_of space) e path)) (spot u (view_of space) e path) (row_in w v)) a) (sym ty) c)))
          i kept_i m (ap (λ (k : ℕ). sub_of system k (type_number t) i) (spot_same ∙ sym is_l) ∙ sub)
