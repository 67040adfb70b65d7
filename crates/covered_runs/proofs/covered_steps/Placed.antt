-- The objects and functions of a program's entities have locations.
use Rattle.std.proofs.Common.{arith, ◌≡◌, ◌∙◌, ℕ, zero, suc, ◌+◌, ◌<◌, List, [], ◌∷◌, length, Option, Some, None, IsSome, slice_get, refl, sym, ap, subst}
use Rattle.std.proofs.lemmas.Option.{slice_get_within}
use Rattle.c_types.specs.declared.key.ObjectKey.{ObjectKey}
use Rattle.c_types.specs.declared.key.ObjectKey.TheVariants.{Entity as EntityKey}
use Rattle.c_types.specs.declared.term.TypeId.{TypeId}
use Rattle.c_types.specs.Table.{type_of, extent_in}
use Rattle.c_types.specs.Made.{IsMade}
use Rattle.core_tree.specs.declared.node.Entity.{Entity}
use Rattle.core_tree.specs.declared.node.Node.{Node}
use Rattle.core_tree.specs.declared.node.Program.{Program}
use Rattle.core_tree.specs.declared.node.Storage.{Storage}
use Rattle.core_tree.specs.declared.node.Storage.TheVariants.{Static, Automatic, FunctionBody, Parameter, Declared}
use Rattle.obj_made.specs.declared.object.Content.TheVariants.{Typed}
use Rattle.obj_made.specs.declared.object.Object.{Object}
use Rattle.obj_made.specs.Made.{Made, spot_at, in_order, made_at, entity_content, object_unless_declared, entity_object, entity_made, entities_made, node_object, node_made, nodes_made, varargs_object, varargs_spot, varargs_made, made_of_names, made_in_order}
use Rattle.obj_made.specs.Spelling.{entity_name}
use Rattle.obj_made.specs.Uses.{is_literal}
use Rattle.obj_made.proofs.Ordered.{in_order-append}
use Rattle.obj_space.specs.declared.location.Location.{Location}
use Rattle.obj_space.specs.Space.{locations_by, locations_in}
use Rattle.covering_laws.specs.object_contents.Contents.{IsMadeOf}
use Rattle.covering_laws.proofs.object_contents.Contents.{contents_known}
use Rattle.covering_laws.proofs.object_contents.Made.{HasAt, put, keep_at, HasLocation, located_of, has_location, first_some}
use Rattle.covering_laws.proofs.covered_memory.Firsts.{is_first}
use Rattle.covered_runs.specs.covered_steps.Placed.{EntitiesPlaced}

pub none_some : {X : Type 0} → {x : X} → ◌≡◌ {A = Option X} None (Some x) → ⊥
none_some h = cc

pub some_one : {X : Type 0} → {x y : X} → ◌≡◌ {A = Option X} (Some x) (Some y) → x ≡ y
some_one h = cc

module _ (p : Program) (e : ℕ) (own : Object) where
  entities_after : (done : Made) (k : ℕ) (xs : List Entity) → e < k → HasAt e own done → HasAt e own (in_order done (entities_made p k xs))
  entities_after done k [] lt h = h
  entities_after done k (x ∷ rest) lt h =
      subst (HasAt e own) (sym (in_order-append done (entity_made p k x) (entities_made p (k + 1) rest)))
      (entities_after (in_order done (entity_made p k x)) (k + 1) rest (omega arith) (keep_at e own (spot_at x.place k) (entity_object p k x) done (λ same. omega arith) h))

  entities_at : (done : Made) (k : ℕ) (xs : List Entity) (i : ℕ) (x : Entity) → slice_get xs i ≡ Some x → k + i ≡ e → entity_object p e x ≡ Some own → HasAt e own (in_order done (entities_made p k xs))
  entities_at done k [] i x at is object = absurd (none_some at)
  entities_at done k (y ∷ rest) zero x at is object =
      let same : y ≡ x = some_one at in
      let number : k ≡ e = omega arith in
      let made : entity_object p k y ≡ Some own = ap (λ (j : ℕ). entity_object p j y) number ∙ (ap (entity_object p e) same ∙ object) in
      subst (HasAt e own) (sym (in_order-append done (entity_made p k y) (entities_made p (k + 1) rest)))
      (entities_after (in_order done (entity_made p k y)) (k + 1) rest (omega arith)
      (subst (λ (o : Option Object). HasAt e own (in_order done (made_at (spot_at y.place k) o))) (sym made) (put e own (spot_at y.place k) done number)))
  entities_at done k (y ∷ rest) (suc i) x at is object =
      subst (HasAt e own) (sym (in_order-append done (entity_made p k y) (entities_made p (k + 1) rest)))
      (entities_at (in_order done (entity_made p k y)) (k + 1) rest i x at (omega arith) object)

  -- nodes take other places
  nodes_after : e < length p.entities.items → (done : Made) (k : ℕ) (xs : List Node) → HasAt e own done → HasAt e own (in_order done (nodes_made p k xs))
  nodes_after lt done k [] h = h
  nodes_after lt done k (x ∷ rest) h =
      subst (HasAt e own) (sym (in_order-append done (node_made p k x) (nodes_made p (k + 1) rest)))
      (nodes_after lt (in_order done (node_made p k x)) (k + 1) rest (keep_at e own (spot_at x.place (length p.entities.items + k)) (node_object p k x) done (λ same. omega arith) h))

  -- nor does what functions are passed past their parameters take its place
  further_after : e < length p.entities.items → (done : Made) (k : ℕ) (xs : List Entity) → HasAt e own done → HasAt e own (in_order done (varargs_made p k xs))
  further_after lt done k [] h = h
  further_after lt done k (x ∷ rest) h =
      subst (HasAt e own) (sym (in_order-append done (made_at (varargs_spot p k x) (varargs_object p k x)) (varargs_made p (k + 1) rest)))
      (further_after lt (in_order done (made_at (varargs_spot p k x) (varargs_object p k x))) (k + 1) rest (keep_at e own (varargs_spot p k x) (varargs_object p k x) done (λ same. omega arith) h))

  among : (x : Entity) → slice_get p.entities.items e ≡ Some x → entity_object p e x ≡ Some own → HasAt e own (made_in_order p)
  among x at object =
      let lt = slice_get_within p.entities.items e x at in
      further_after lt (made_of_names p) 0 p.entities.items
      (nodes_after lt (in_order [] (entities_made p 0 p.entities.items)) 0 p.nodes.items (entities_at [] 0 p.entities.items e x at (omega arith) object))

-- what isn't only declared is an object
object_is : (s : Storage) (o : Object) → (s ≡ Declared → ⊥) → object_unless_declared s o ≡ Some o
object_is Static o other = refl
object_is Automatic o other = refl
object_is FunctionBody o other = refl
object_is Parameter o other = refl
object_is Declared o other = absurd (other refl)

no_static : Static ≡ FunctionBody → ⊥
no_static h = cc

no_automatic : Automatic ≡ FunctionBody → ⊥
no_automatic h = cc

no_parameter : Parameter ≡ FunctionBody → ⊥
no_parameter h = cc

no_declared : Declared ≡ FunctionBody → ⊥
no_declared h = cc

located_by : (p : Program) → IsMade p.types → (s : Storage) (own : Object) (id : TypeId) → ((s ≡ FunctionBody → ⊥) → IsSome (extent_in p.types (type_of p.types id.0))) → HasLocation own.key (locations_by p.types own (entity_content s id))
located_by p made FunctionBody own id complete = (0, _, refl, refl)
located_by p made Static own id complete = located_of p made own (Typed id) id (complete no_static)
located_by p made Automatic own id complete = located_of p made own (Typed id) id (complete no_automatic)
located_by p made Parameter own id complete = located_of p made own (Typed id) id (complete no_parameter)
located_by p made Declared own id complete = located_of p made own (Typed id) id (complete no_declared)

pub entities_placed : EntitiesPlaced
entities_placed p e x made at other complete =
    let own : Object = record { key = EntityKey e; name = entity_name p.names.items p.entities.items (is_literal p.nodes.items e) x; content = entity_content x.storage x.ty } in
    let found = has_location p made e own (located_by p made x.storage own x.ty complete) (among p e own x at (object_is x.storage own other)) in
    let first = first_some 0 found.0 (locations_in p) found.1 (EntityKey e) found.2 found.3 in
    let here = (is_first (locations_in p) (EntityKey e) first.0 first.1).here in
    record { first = first.0; location = here.0; first_is = first.1; location_is = here.1; content_is = content here.0 here.2 (contents_known p first.0 here.0 made here.1).0 }
  where
    content : (y : Location) → y.key ≡ EntityKey e → IsMadeOf p y.key y.content → y.content ≡ entity_content x.storage x.ty
    content y key h =
        let of = subst (λ (k : ObjectKey). IsMadeOf p k y.content) key h in
        of.2 ∙ ap (λ (z : Entity). entity_content z.storage z.ty) (some_one (sym of.1 ∙ at))
