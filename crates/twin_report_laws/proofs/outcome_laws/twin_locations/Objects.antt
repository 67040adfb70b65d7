-- Objects of programs that are one, but for numbers.
use Rattle.std.proofs.Common.{◌≡◌, ◌∙◌, ◌<◌, ℕ, Bool, true, false, codes, List, map, Option, Some, None, is_some, refl, sym, ap}
use Rattle.std.specs.Prelude.{if◌then◌else◌, nat_eq}
use Rattle.std.specs.List.{slice_get}
use Rattle.std.specs.Option.{option_map}
use Rattle.std.proofs.lemmas.Option.{slice_get_within}
use Rattle.pta_base.specs.declared.place.Place.{Place}
use Rattle.c_types.specs.declared.key.ObjectKey.TheVariants.{Entity as EntityKey, Text as TextKey, Call as CallKey, Varargs as VarargsKey}
use Rattle.c_types.specs.declared.term.MemberTerm.{MemberTerm}
use Rattle.c_types.specs.declared.term.Term.{Term}
use Rattle.c_types.specs.declared.term.TypeId.{TypeId}
use Rattle.c_types.specs.Trees.{Ctype, PointerTo, grow}
use Rattle.c_types.specs.Table.{Table, types_of, type_of, members_in, extent_in}
use Rattle.c_types.specs.Made.{IsMade}
use Rattle.core_tree.specs.declared.node.Node.{Node}
use Rattle.core_tree.specs.declared.node.NodeKind.{NodeKind}
use Rattle.core_tree.specs.declared.node.NodeKind.TheVariants.{Text, CallNode}
use Rattle.core_tree.specs.declared.node.Entity.{Entity}
use Rattle.core_tree.specs.declared.node.Storage.{Storage}
use Rattle.core_tree.specs.declared.node.Storage.TheVariants.{Static, Automatic, FunctionBody, Parameter, Declared}
use Rattle.core_tree.specs.declared.node.Program.{Program}
use Rattle.link_model.specs.Renamed.{renamed}
use Rattle.link_model.specs.Partition.{HasTags}
use Rattle.unit_link.specs.Places.{kind_renamed}
use Rattle.obj_made.specs.declared.object.Content.TheVariants.{Blob, Typed}
use Rattle.obj_made.specs.declared.object.Object.{Object}
use Rattle.obj_made.specs.Spelling.{placed_name, entity_name, varargs_name}
use Rattle.obj_made.specs.Uses.{is_literal, entity_number, is_allocator}
use Rattle.obj_made.specs.Made.{entity_content, object_unless_declared, entity_object, conversion_above, typed_by, allocated_content, called_object, object_of_call, called_entity, object_of_kind, node_object, has_varargs, varargs_object}
use Rattle.obj_space.specs.Parts.{Part, parts_of}
use Rattle.twin_report_laws.specs.outcome_laws.twin_programs.One.{Numbers, SameEntity, SameNode, LeadsTo}
use Rattle.twin_report_laws.specs.outcome_laws.twin_locations.Same.{key_moved}
use Rattle.twin_report_laws.proofs.outcome_laws.twin_locations.Options.{some_one, none_some}
use Rattle.twin_report_laws.proofs.outcome_laws.twin_locations.Uses.{number_same}
use Rattle.twin_report_laws.proofs.outcome_laws.twin_locations.Parts.{parts_alike, complete_alike}
use Rattle.twin_report_laws.proofs.outcome_laws.twin_locations.Calls.{type_under, called_there, types_same}
use Rattle.twin_report_laws.proofs.outcome_laws.twin_locations.Names.{name_same}
use Rattle.twin_report_laws.proofs.outcome_laws.twin_locations.Cells.{cell_of, cell_moved, one_cell, cells, cells_renamed, pointed_cells, cells_by, cells_allocated}
use Rattle.twin_report_laws.proofs.outcome_laws.twin_locations.Further.{has_same, further_name}
use Rattle.twin_report_laws.proofs.outcome_laws.twin_locations.Made.{IsMadeOf, by_entity, by_node, by_further}

-- an object is the same, but for these numbers
pub record SameObject (p q : Program) (to : Numbers) (o d : Object) : Type 0 where
  pub key : d.key ≡ key_moved to o.key
  pub name : d.name ≡ o.name
  pub nodes : cells q.types d.content ≡ map (cell_moved to.tag) (cells p.types o.content)

-- what is known of a table
pub record IsKnownTable (table : Table) : Type 0 where
  pub made : IsMade table
  pub tags : (id : ℕ) → HasTags table.tags (type_of table id)
  pub grows : (id : ℕ) (t : Term) → slice_get table.terms id ≡ Some t → type_of table id ≡ grow (types_of table) t

-- ---- the object of a call
abbrev pub call_object : Program → ℕ → Node → ℕ → List ℕ → Object
call_object p n x k name = record { key = CallKey n; name = placed_name p.names.items name x.place; content = allocated_content k (typed_by p.types (conversion_above p.nodes.items n)) }

-- a call of an allocating function
pub record Allocates (p : Program) (n : ℕ) (x : Node) (callee : Option Entity) (o : Object) : Type 0 where
  pub entity : Entity
  pub entity_is : callee ≡ Some entity
  pub number : ℕ
  pub number_is : entity_number entity ≡ Some number
  pub allocates : is_allocator number ≡ true
  pub object : call_object p n x number entity.name ≡ o

pub allocates_view : (p : Program) (n : ℕ) (x : Node) (callee : Option Entity) (o : Object) → object_of_call p n x callee ≡ Some o → Allocates p n x callee o
allocates_view p n x None o h = absurd (none_some h)
allocates_view p n x (Some entity) o h = by (entity_number entity) refl h
  where
    last : (k : ℕ) → entity_number entity ≡ Some k → (b : Bool) → is_allocator k ≡ b → (if b then Some (call_object p n x k entity.name) else None) ≡ Some o → Allocates p n x (Some entity) o
    last k e true f g = record { entity = entity; entity_is = refl; number = k; number_is = e; allocates = f; object = some_one g }
    last k e false f g = absurd (none_some g)

    by : (number : Option ℕ) → entity_number entity ≡ number → called_object p n x entity number ≡ Some o → Allocates p n x (Some entity) o
    by None e g = absurd (none_some g)
    by (Some k) e g = last k e (is_allocator k) refl g

allocates_is : (p : Program) (n : ℕ) (x : Node) (callee : Option Entity) (o : Object) → Allocates p n x callee o → object_of_call p n x callee ≡ Some o
allocates_is p n x callee o h =
    ap (object_of_call p n x) h.entity_is
    ∙ (ap (called_object p n x h.entity) h.number_is
    ∙ (ap (λ (b : Bool). if b then Some (call_object p n x h.number h.entity.name) else None) h.allocates ∙ ap (λ (d : Object). Some d) h.object))

-- the object of an entity that has its place
pub unless_there : (storage : Storage) (o d : Object) → object_unless_declared storage o ≡ Some d → (o ≡ d) × ((c : Object) → object_unless_declared storage c ≡ Some c)
unless_there Declared o d h = absurd (none_some h)
unless_there Static o d h = (some_one h, λ c. refl)
unless_there Automatic o d h = (some_one h, λ c. refl)
unless_there FunctionBody o d h = (some_one h, λ c. refl)
unless_there Parameter o d h = (some_one h, λ c. refl)

module _ (p q : Program) (to back : Numbers) (l : LeadsTo p q to back) (r : LeadsTo q p back to) (known : IsKnownTable p.types) (other : IsKnownTable q.types) where
  no_members : (tag : ℕ) → tag < p.types.tags → members_in p.types tag ≡ None → members_in q.types (to.tag tag) ≡ None
  no_members tag lt at = by (members_in q.types (to.tag tag)) refl
    where
      by : (o : Option (List MemberTerm)) → members_in q.types (to.tag tag) ≡ o → members_in q.types (to.tag tag) ≡ None
      by None e = e
      by (Some ks) e =
          let round = l.tag_back tag lt in
          let (ms, there, same) = r.members (to.tag tag) ks round.0 e in
          absurd (none_some (sym at ∙ (ap (members_in p.types) (sym round.1) ∙ there)))

  -- the nodes of a type
  tree_same : (t : Ctype) → HasTags p.types.tags t → map cell_of (parts_of q.types (renamed to.tag t)) ≡ map (cell_moved to.tag) (map cell_of (parts_of p.types t))
  tree_same t has =
      ap (λ (ps : List Part). map cell_of ps) (parts_alike p.types q.types to.tag l.members no_members known.tags known.made other.made t has) ∙ cells_renamed to.tag (parts_of p.types t)

  typed_same : (a b : TypeId) → type_of q.types b.0 ≡ renamed to.tag (type_of p.types a.0) → cells q.types (Typed b) ≡ map (cell_moved to.tag) (cells p.types (Typed a))
  typed_same a b h = ap (λ (t : Ctype). map cell_of (parts_of q.types t)) h ∙ tree_same (type_of p.types a.0) (known.tags a.0)

  content_same : (storage : Storage) (a b : TypeId) → type_of q.types b.0 ≡ renamed to.tag (type_of p.types a.0) → cells q.types (entity_content storage b) ≡ map (cell_moved to.tag) (cells p.types (entity_content storage a))
  content_same FunctionBody a b h = refl
  content_same Static a b h = typed_same a b h
  content_same Automatic a b h = typed_same a b h
  content_same Parameter a b h = typed_same a b h
  content_same Declared a b h = typed_same a b h

  pointed_same : (t : Ctype) → HasTags p.types.tags t → pointed_cells q.types (renamed to.tag t) ≡ map (cell_moved to.tag) (pointed_cells p.types t)
  pointed_same (PointerTo s) has =
      ap (λ (b : Bool). if b then map cell_of (parts_of q.types (renamed to.tag s)) else one_cell 5 true) (complete_alike p.types q.types to.tag l.members no_members known.tags known.made other.made s has)
      ∙ by (is_some (extent_in p.types s)) (tree_same s has)
    where
      by : (b : Bool) → map cell_of (parts_of q.types (renamed to.tag s)) ≡ map (cell_moved to.tag) (map cell_of (parts_of p.types s))
          → (if b then map cell_of (parts_of q.types (renamed to.tag s)) else one_cell 5 true) ≡ map (cell_moved to.tag) (if b then map cell_of (parts_of p.types s) else one_cell 5 true)
      by true h = h
      by false h = refl
  pointed_same t has = refl

  under_same : (o : Option TypeId) → cells_by q.types (option_map (renamed to.tag) (type_under p.types o)) ≡ map (cell_moved to.tag) (cells_by p.types (type_under p.types o))
  under_same None = refl
  under_same (Some id) = pointed_same (type_of p.types id.0) (known.tags id.0)

  allocated_same : (n k : ℕ) → back.node (to.node n) ≡ n
      → cells q.types (allocated_content k (typed_by q.types (conversion_above q.nodes.items (to.node n)))) ≡ map (cell_moved to.tag) (cells p.types (allocated_content k (typed_by p.types (conversion_above p.nodes.items n))))
  allocated_same n k round =
      cells_allocated q.types other.grows k (conversion_above q.nodes.items (to.node n))
      ∙ (by (nat_eq k 21) (ap (cells_by q.types) (types_same p q to back l r n round) ∙ under_same (conversion_above p.nodes.items n))
      ∙ sym (ap (map (cell_moved to.tag)) (cells_allocated p.types known.grows k (conversion_above p.nodes.items n))))
    where
      by : (b : Bool) → cells_by q.types (type_under q.types (conversion_above q.nodes.items (to.node n))) ≡ map (cell_moved to.tag) (cells_by p.types (type_under p.types (conversion_above p.nodes.items n)))
          → (if b then one_cell 0 false else cells_by q.types (type_under q.types (conversion_above q.nodes.items (to.node n)))) ≡ map (cell_moved to.tag) (if b then one_cell 0 false else cells_by p.types (type_under p.types (conversion_above p.nodes.items n)))
      by true h = refl
      by false h = h

  abbrev HasTwin : Object → Type 0
  HasTwin o = (d : Object) × IsMadeOf q d × SameObject p q to o d

  -- what the twin of an entity makes
  pub record EntityTwin (e : ℕ) (x : Entity) (o : Object) : Type 0 where
    pub twin : Entity
    pub there : slice_get q.entities.items (to.entity e) ≡ Some twin
    pub like : SameEntity p.types q.types to x twin
    pub object : Object
    pub object_is : entity_object q (to.entity e) twin ≡ Some object
    pub same : SameObject p q to o object

  pub entity_twin : (e : ℕ) (x : Entity) (o : Object) → slice_get p.entities.items e ≡ Some x → entity_object p e x ≡ Some o → EntityTwin e x o
  entity_twin e x o at is =
      let (y, there, same) = l.entities e x at in
      let (mine, keeps) = unless_there x.storage (record { key = EntityKey e; name = entity_name p.names.items p.entities.items (is_literal p.nodes.items e) x; content = entity_content x.storage x.ty }) o is in
      let d : Object = record {
        key = EntityKey (to.entity e);
        name = entity_name q.names.items q.entities.items (is_literal q.nodes.items (to.entity e)) y;
        content = entity_content y.storage y.ty;
      } in
      record {
        twin = y;
        there = there;
        like = same;
        object = d;
        object_is = ap (λ (s : Storage). object_unless_declared s d) same.storage ∙ keeps d;
        same = record {
          key = ap (λ (c : Object). key_moved to c.key) mine;
          name = name_same p q to back l r e x y at there same ∙ ap (λ (c : Object). c.name) mine;
          nodes = ap (λ (s : Storage). cells q.types (entity_content s y.ty)) same.storage
              ∙ (content_same x.storage x.ty y.ty same.type ∙ ap (λ (c : Object). map (cell_moved to.tag) (cells p.types c.content)) mine);
        };
      }

  placed_same : (kind : List ℕ) (a b : Place) → b ≡ a → placed_name q.names.items kind b ≡ placed_name p.names.items kind a
  placed_same kind a b h = ap (λ (names : List (List ℕ)). placed_name names kind b) l.names ∙ ap (placed_name p.names.items kind) h

  -- what the twin of a node makes
  abbrev MakesTwin : ℕ → Node → Object → Type 0
  MakesTwin n y o = (d : Object) × (node_object q (to.node n) y ≡ Some d) × SameObject p q to o d

  text_twin : (n : ℕ) (x y : Node) (bytes : List ℕ) (o : Object) → slice_get q.nodes.items (to.node n) ≡ Some y → SameNode p.types q.types to x y → x.kind ≡ Text bytes
      → object_of_kind p n x (Text bytes) ≡ Some o → MakesTwin n y o
  text_twin n x y bytes o there same kind is =
      let mine = some_one is in
      let d : Object = record { key = TextKey (to.node n); name = placed_name q.names.items (codes "str") y.place; content = Typed y.ty } in (
        d,
        ap (object_of_kind q (to.node n) y) (same.kind ∙ ap (kind_renamed to.entity) kind),
        record {
          key = ap (λ (c : Object). key_moved to c.key) mine;
          name = placed_same (codes "str") x.place y.place same.place ∙ ap (λ (c : Object). c.name) mine;
          nodes = typed_same x.ty y.ty same.type ∙ ap (λ (c : Object). map (cell_moved to.tag) (cells p.types c.content)) mine;
        },
      )

  call_twin : (n : ℕ) (x y : Node) (o : Object) → slice_get q.nodes.items (to.node n) ≡ Some y → back.node (to.node n) ≡ n → SameNode p.types q.types to x y → x.kind ≡ CallNode
      → object_of_kind p n x CallNode ≡ Some o → MakesTwin n y o
  call_twin n x y o there round same kind is =
      let h = allocates_view p n x (called_entity p.nodes.items p.entities.items x) o is in
      let (entity, called, like) = called_there p q to back l x y h.entity same h.entity_is in
      let d : Object = call_object q (to.node n) y h.number entity.name in
      let made : object_of_call q (to.node n) y (called_entity q.nodes.items q.entities.items y) ≡ Some d =
      allocates_is q (to.node n) y (called_entity q.nodes.items q.entities.items y) d
      (record { entity = entity; entity_is = called; number = h.number; number_is = number_same p q to back l h.entity entity like ∙ h.number_is; allocates = h.allocates; object = refl }) in (
        d,
        ap (object_of_kind q (to.node n) y) (same.kind ∙ ap (kind_renamed to.entity) kind) ∙ made,
        record {
          key = ap (λ (c : Object). key_moved to c.key) h.object;
          name = ap (λ (name : List ℕ). placed_name q.names.items name y.place) like.name ∙ (placed_same h.entity.name x.place y.place same.place ∙ ap (λ (c : Object). c.name) h.object);
          nodes = allocated_same n h.number round ∙ ap (λ (c : Object). map (cell_moved to.tag) (cells p.types c.content)) h.object;
        },
      )

  pub record NodeTwin (n : ℕ) (x : Node) (o : Object) : Type 0 where
    pub twin : Node
    pub there : slice_get q.nodes.items (to.node n) ≡ Some twin
    pub like : SameNode p.types q.types to x twin
    pub made : MakesTwin n twin o

  pub node_twin : (n : ℕ) (x : Node) (o : Object) → slice_get p.nodes.items n ≡ Some x → node_object p n x ≡ Some o → NodeTwin n x o
  node_twin n x o at is =
      let (y, there, same) = l.nodes n x at in
      record { twin = y; there = there; like = same; made = by y there same (l.node_back n (slice_get_within p.nodes.items n x at)) x.kind refl is }
    where
      by : (y : Node) → slice_get q.nodes.items (to.node n) ≡ Some y → SameNode p.types q.types to x y → back.node (to.node n) ≡ n → (kind : NodeKind) → x.kind ≡ kind → object_of_kind p n x kind ≡ Some o → MakesTwin n y o
      by y there same round (Text bytes) e h = text_twin n x y bytes o there same e h
      by y there same round CallNode e h = call_twin n x y o there round same e h
      by y there same round kind e h = absurd (none_some h)

  -- what a function is passed past its parameters
  further_view : (b : Bool) (o d : Object) → (if b then Some o else None) ≡ Some d → (b ≡ true) × (o ≡ d)
  further_view true o d h = (refl, some_one h)
  further_view false o d h = absurd (none_some h)

  pub record FurtherTwin (e : ℕ) (x : Entity) (o : Object) : Type 0 where
    pub twin : Entity
    pub there : slice_get q.entities.items (to.entity e) ≡ Some twin
    pub like : SameEntity p.types q.types to x twin
    pub object : Object
    pub object_is : varargs_object q (to.entity e) twin ≡ Some object
    pub same : SameObject p q to o object

  pub further_twin : (e : ℕ) (x : Entity) (o : Object) → slice_get p.entities.items e ≡ Some x → varargs_object p e x ≡ Some o → FurtherTwin e x o
  further_twin e x o at is =
      let (y, there, same) = l.entities e x at in
      let (has, mine) = further_view (has_varargs p.types x) (record { key = VarargsKey e; name = varargs_name p.names.items x; content = Blob }) o is in
      let d : Object = record { key = VarargsKey (to.entity e); name = varargs_name q.names.items y; content = Blob } in
      record {
        twin = y;
        there = there;
        like = same;
        object = d;
        object_is = ap (λ (b : Bool). if b then Some d else None) (has_same p q to back l x y same ∙ has);
        same = record {
          key = ap (λ (c : Object). key_moved to c.key) mine;
          name = further_name p q to back l x y same ∙ ap (λ (c : Object). c.name) mine;
          nodes = ap (λ (c : Object). map (cell_moved to.tag) (cells p.types c.content)) mine;
        };
      }

  -- what tokens make is made in the other program
  pub made_twin : (o : Object) → IsMadeOf p o → HasTwin o
  made_twin o (by_entity e x at is) = (let t = entity_twin e x o at is in (t.object, by_entity (to.entity e) t.twin t.there t.object_is, t.same))
  made_twin o (by_node n x at is) = (let t = node_twin n x o at is in (t.made.0, by_node (to.node n) t.twin t.there t.made.1, t.made.2))
  made_twin o (by_further e x at is) = (let t = further_twin e x o at is in (t.object, by_further (to.entity e) t.twin t.there t.object_is, t.same))
