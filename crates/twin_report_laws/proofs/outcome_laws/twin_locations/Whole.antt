-- Programs that are one, but for numbers, have the same locations.
use Rattle.std.proofs.Common.{◌≡◌, ◌∙◌, ◌++◌, ℕ, Bool, true, false, List, Some, None, slice_get, refl, sym, ap, subst, inl, inr}
use Rattle.std.specs.Prelude.{if◌then◌else◌}
use Rattle.c_types.specs.declared.key.ObjectKey.{ObjectKey}
use Rattle.c_types.specs.declared.key.ObjectKey.TheVariants.{Entity as EntityKey, Function as FunctionKey, Varargs as VarargsKey}
use Rattle.c_types.specs.Made.{IsMade, AreNamed}
use Rattle.c_types.specs.Table.{Table}
use Rattle.core_tree.specs.declared.node.Node.{Node}
use Rattle.core_tree.specs.declared.node.NodeKind.{NodeKind}
use Rattle.core_tree.specs.declared.node.NodeKind.TheVariants.{Text, CallNode}
use Rattle.core_tree.specs.declared.node.Entity.{Entity}
use Rattle.core_tree.specs.declared.node.Storage.{Storage}
use Rattle.core_tree.specs.declared.node.Program.{Program}
use Rattle.link_merge.proofs.Own.{type_tags}
use Rattle.link_merge.proofs.Terms.{type_is}
use Rattle.obj_made.specs.declared.object.Content.{Content}
use Rattle.obj_made.specs.declared.object.Content.TheVariants.{Function, Blob}
use Rattle.obj_made.specs.declared.object.Object.{Object}
use Rattle.obj_made.specs.Spelling.{entity_name, varargs_name}
use Rattle.obj_made.specs.Uses.{is_literal}
use Rattle.obj_made.specs.Made.{entity_content, entity_object, node_object, object_unless_declared, object_of_kind, called_entity, has_varargs, varargs_object, made_in_order, objects_in}
use Rattle.obj_space.specs.declared.location.Location.{Location}
use Rattle.obj_space.specs.Objects.{named_object, library_name, library_part, objects_of}
use Rattle.obj_space.specs.Space.{locations_by, locations_of, locations_in}
use Rattle.twin_report_laws.specs.outcome_laws.twin_programs.One.{Numbers, LeadsTo}
use Rattle.twin_report_laws.specs.outcome_laws.twin_locations.Same.{key_moved, SameLocation, LocationsLead, IsFunctionKey, own, library, TwinLocations, OneFunction}
use Rattle.twin_report_laws.proofs.outcome_laws.twin_locations.Options.{some_one, none_some}
use Rattle.twin_report_laws.proofs.outcome_laws.twin_locations.Members.{Member, member_at, at_member, member_left, member_right, member_split, map_member, member_flat, flat_member}
use Rattle.twin_report_laws.proofs.outcome_laws.twin_locations.Cells.{Cell, cells, cell_moved, cell_at, at_cell}
use Rattle.twin_report_laws.proofs.outcome_laws.twin_locations.Made.{IsMadeOf, by_entity, by_node, by_further, made_of, of_made}
use Rattle.twin_report_laws.proofs.outcome_laws.twin_locations.Library.{library_same}
use Rattle.twin_report_laws.proofs.outcome_laws.twin_locations.Objects.{SameObject, IsKnownTable, made_twin, allocates_view, unless_there}
use Rattle.twin_report_laws.proofs.outcome_laws.twin_locations.Fixed.{IsLibraryObject, function, fixed, star, outside, library_view, library_twin}

pub known_table : (table : Table) → IsMade table → AreNamed table → IsKnownTable table
known_table table made named = record { made = made; tags = λ id. type_tags table id named; grows = λ id t at. type_is table id t named at }

module _ (p q : Program) (to back : Numbers) (l : LeadsTo p q to back) (r : LeadsTo q p back to) (known : IsKnownTable p.types) (other : IsKnownTable q.types) where
  object_twin : (o : Object) → Member (objects_of p) o → (d : Object) × Member (objects_of q) d × SameObject p q to o d
  object_twin o there = elim (member_split (objects_in (made_in_order p)) (library_part p) o there) [
    | inl made ↦
        let (d, of, same) = made_twin p q to back l r known other o (made_of p o made) in
        (d, member_left (objects_in (made_in_order q)) (library_part q) d (of_made q d of), same)
    | inr its ↦ (
      o,
      member_right (objects_in (made_in_order q)) (library_part q) o (subst (λ (os : List Object). Member os o) (sym (library_same p q to back l r)) its),
      library_twin p q to o (library_view p o its),
    )
  ]

  location_twin : (x : Location) → Member (locations_in p) x → (y : Location) × Member (locations_in q) y × SameLocation to x y
  unfolding locations_in
  location_twin x there =
      let (o, at, of) = member_flat (locations_of p.types) (objects_of p) x there in
      let (d, d_at, same) = object_twin o at in
      let (c, c_at, is) = cell_at p.types o o.content x of in
      let moved : Member (cells q.types d.content) (cell_moved to.tag c) = subst (λ (cs : List Cell). Member cs (cell_moved to.tag c)) (sym same.nodes) (map_member (cell_moved to.tag) (cells p.types o.content) c c_at) in
      let (y, y_at, y_is) = at_cell q.types d d.content (cell_moved to.tag c) moved in (
        y,
        flat_member (locations_of q.types) (objects_of q) d y d_at y_at,
        record {
          key = y_is.key ∙ (same.key ∙ sym (ap (key_moved to) is.key));
          name = y_is.name ∙ (ap (λ (name : List ℕ). name ++ c.suffix) same.name ∙ sym is.name);
          ty = y_is.ty ∙ sym (ap (λ (n : ℕ). (cell_moved to.tag (record { suffix = c.suffix; ty = n; collapsed = c.collapsed })).ty) is.ty);
          collapsed = y_is.collapsed ∙ sym is.collapsed;
        },
      )

  locations_lead : LocationsLead p q to
  locations_lead = record {
    each = λ i x at.
        let (y, there, same) = location_twin x (member_at (locations_in p) i x at) in
        let (k, k_at) = at_member (locations_in q) y there in
        (k, y, k_at, same);
  }

pub twin_locations : TwinLocations
twin_locations p q o made named other_made other_named =
    let known = known_table p.types made named in
    let other = known_table q.types other_made other_named in
    (locations_lead p q o.to o.back o.forth o.returned known other, locations_lead q p o.back o.to o.returned o.forth other known)

-- ---- the object of a function
entity_keys : (a b : ℕ) → EntityKey a ≡ EntityKey b → a ≡ b
entity_keys a b e = cc

function_keys : (a b : ℕ) → FunctionKey a ≡ FunctionKey b → a ≡ b
function_keys a b e = cc

module _ (p : Program) where
  entity_key : (e : ℕ) (x : Entity) (o : Object) → entity_object p e x ≡ Some o → o.key ≡ EntityKey e
  entity_key e x o is =
      let mine = unless_there x.storage (record { key = EntityKey e; name = entity_name p.names.items p.entities.items (is_literal p.nodes.items e) x; content = entity_content x.storage x.ty }) o is in
      sym (ap (λ (c : Object). c.key) mine.0)

  -- an object that a node makes is no entity's and none of the library's
  IsNodeKey : ObjectKey → Type 0
  IsNodeKey key = ((e : ℕ) → key ≡ EntityKey e → ⊥) × ((k : ℕ) → key ≡ FunctionKey k → ⊥)

  node_key : (n : ℕ) (x : Node) (o : Object) → node_object p n x ≡ Some o → IsNodeKey o.key
  unfolding IsNodeKey
  node_key n x o is = by x.kind is
    where
      by : (kind : NodeKind) → object_of_kind p n x kind ≡ Some o → ((e : ℕ) → o.key ≡ EntityKey e → ⊥) × ((k : ℕ) → o.key ≡ FunctionKey k → ⊥)
      by (Text bytes) h = (let key = ap (λ (c : Object). c.key) (some_one h) in ((λ e same. absurd (cc)), (λ k same. absurd (cc))))
      by CallNode h = (let key = ap (λ (c : Object). c.key) (allocates_view p n x (called_entity p.nodes.items p.entities.items x) o h).object in ((λ e same. absurd (cc)), (λ k same. absurd (cc))))
      by kind h = absurd (none_some h)

  further_key : (e : ℕ) (x : Entity) (o : Object) → varargs_object p e x ≡ Some o → o.key ≡ VarargsKey e
  further_key e x o is = by (has_varargs p.types x) (record { key = VarargsKey e; name = varargs_name p.names.items x; content = Blob }) refl is
    where
      by : (b : Bool) (c : Object) → c.key ≡ VarargsKey e → (if b then Some c else None) ≡ Some o → o.key ≡ VarargsKey e
      by true c key h = ap (λ (d : Object). d.key) (sym (some_one h)) ∙ key
      by false c key h = absurd (none_some h)

  -- all objects of a function's key are one, which is a function
  record IsOneFunction (key : ObjectKey) : Type 0 where
    object : Object
    is : object.content ≡ Function
    each : (o : Object) → Member (objects_of p) o → o.key ≡ key → o ≡ object

  own_each : (e : ℕ) (x : Entity) (d : Object) → slice_get p.entities.items e ≡ Some x → entity_object p e x ≡ Some d → (o : Object) → Member (objects_of p) o → o.key ≡ EntityKey e → o ≡ d
  unfolding IsNodeKey
  own_each e x d at is o there key = elim (member_split (objects_in (made_in_order p)) (library_part p) o there) [
    | inl made ↦ by (made_of p o made)
    | inr its ↦ none o (library_view p o its) key
  ]
    where
      none : (c : Object) → IsLibraryObject c → c.key ≡ EntityKey e → c ≡ d
      none c (function k) same = absurd (cc)
      none c (fixed k name content h) same = absurd (cc)
      none c (star k name content h) same = absurd (cc)
      none c outside same = absurd (cc)

      by : IsMadeOf p o → o ≡ d
      by (by_entity f y y_at y_is) =
          let same : f ≡ e = entity_keys f e (sym (entity_key f y o y_is) ∙ key) in
          let one : y ≡ x = some_one (sym y_at ∙ (ap (slice_get p.entities.items) same ∙ at)) in
          some_one (sym y_is ∙ (ap (λ (n : ℕ). entity_object p n y) same ∙ (ap (entity_object p e) one ∙ is)))
      by (by_node n y y_at y_is) = absurd ((node_key n y o y_is).0 e key)
      by (by_further f y y_at y_is) = (let other = further_key f y o y_is in absurd (cc))

  library_each : (k : ℕ) (o : Object) → Member (objects_of p) o → o.key ≡ FunctionKey k → o ≡ named_object (FunctionKey k) (library_name k) Function
  unfolding IsNodeKey
  library_each k o there key = elim (member_split (objects_in (made_in_order p)) (library_part p) o there) [
    | inl made ↦ by (made_of p o made)
    | inr its ↦ one o (library_view p o its) key
  ]
    where
      one : (c : Object) → IsLibraryObject c → c.key ≡ FunctionKey k → c ≡ named_object (FunctionKey k) (library_name k) Function
      one c (function n) same = ap (λ (m : ℕ). named_object (FunctionKey m) (library_name m) Function) (function_keys n k same)
      one c (fixed n name content h) same = absurd (cc)
      one c (star n name content h) same = absurd (cc)
      one c outside same = absurd (cc)

      by : IsMadeOf p o → o ≡ named_object (FunctionKey k) (library_name k) Function
      by (by_entity f y y_at y_is) = (let same = entity_key f y o y_is in absurd (cc))
      by (by_node n y y_at y_is) = absurd ((node_key n y o y_is).1 k key)
      by (by_further f y y_at y_is) = (let other = further_key f y o y_is in absurd (cc))

  one_object : (key : ObjectKey) → IsFunctionKey p key → IsOneFunction key
  one_object key (own e x at storage) =
      let d : Object = record { key = EntityKey e; name = entity_name p.names.items p.entities.items (is_literal p.nodes.items e) x; content = entity_content x.storage x.ty } in
      record {
        object = d;
        is = ap (λ (s : Storage). entity_content s x.ty) storage;
        each = own_each e x d at (ap (λ (s : Storage). object_unless_declared s d) storage);
      }
  one_object key (library k) = record { object = named_object (FunctionKey k) (library_name k) Function; is = refl; each = library_each k }

  one_place : (o : Object) (content : Content) (x : Location) → content ≡ Function → Member (locations_by p.types o content) x → record { key = o.key; content = o.content; name = o.name; ty = 5; collapsed = false } ≡ x
  one_place o content x is there = by (subst (λ (c : Content). Member (locations_by p.types o c) x) is there)
    where
      by : Member (locations_by p.types o Function) x → record { key = o.key; content = o.content; name = o.name; ty = 5; collapsed = false } ≡ x
      by (inl same) = same
      by (inr none) = absurd none

  function_place : (key : ObjectKey) (x : Location) → (one : IsOneFunction key) → Member (locations_in p) x → x.key ≡ key
      → record { key = one.object.key; content = one.object.content; name = one.object.name; ty = 5; collapsed = false } ≡ x
  unfolding locations_in
  function_place key x one there is =
      let (o, at, of) = member_flat (locations_of p.types) (objects_of p) x there in
      let (c, c_at, cell) = cell_at p.types o o.content x of in
      let same : o ≡ one.object = one.each o at (sym cell.key ∙ is) in
      one_place one.object one.object.content x one.is (subst (λ (d : Object). Member (locations_by p.types d d.content) x) same of)

pub one_function : OneFunction
one_function p key i j x y known x_at y_at x_key y_key =
    let one = one_object p key known in
    sym (function_place p key x one (member_at (locations_in p) i x x_at) x_key) ∙ function_place p key y one (member_at (locations_in p) j y y_at) y_key
