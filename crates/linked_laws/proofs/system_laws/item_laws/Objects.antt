-- The object of an entity that has its place, among all objects of a program.
use Rattle.std.proofs.Common.{arith, ◌≡◌, ◌∙◌, Bool, true, false, cond, ℕ, zero, suc, ◌+◌, ◌<◌, List, [], ◌∷◌, ◌++◌, length, map, Option, Some, None, slice_get, refl, sym, ap, subst}
use Rattle.std.specs.List.{flat_map}
use Rattle.std.specs.declared.cmp.Ordering.{Ordering}
use Rattle.std.specs.declared.cmp.Ordering.TheVariants.{Less, Equal, Greater}
use Rattle.std.specs.Ordering.{match_ordering, nat_cmp, ordering_then}
use Rattle.std.specs.BTreeMap.{insert_entry}
use Rattle.std.proofs.lemmas.Cmp.{ranked}
use Rattle.std.proofs.lemmas.Option.{slice_get_within}
use Rattle.c_types.specs.declared.term.TypeId.{TypeId}
use Rattle.c_types.specs.Table.{type_of}
use Rattle.core_tree.specs.declared.node.Program.{Program}
use Rattle.core_tree.specs.declared.node.Node.{Node}
use Rattle.core_tree.specs.declared.node.Entity.{Entity}
use Rattle.core_tree.specs.declared.node.Storage.{Storage}
use Rattle.core_tree.specs.declared.node.Storage.TheVariants.{Static, Automatic, Parameter, FunctionBody, Declared}
use Rattle.obj_made.specs.declared.object.Content.{Content}
use Rattle.obj_made.specs.declared.object.Content.TheVariants.{Typed}
use Rattle.obj_made.specs.declared.object.Object.{Object}
use Rattle.obj_made.specs.Made.{Spot, by_place, Made, in_order, entity_content, object_unless_declared, entity_object, made_at, entity_made, entities_made, node_object, node_made, nodes_made, spot_at, varargs_object, varargs_spot, varargs_made, made_of_names, made_in_order, objects_in}
use Rattle.obj_made.proofs.Ordered.{in_order-append}
use Rattle.obj_space.specs.Objects.{library_part}
use Rattle.c_types.specs.declared.key.ObjectKey.{ObjectKey}
use Rattle.c_types.specs.declared.key.ObjectKey.TheVariants.{Entity as EntityKey}
use Rattle.std.proofs.lemmas.Bool.{false≢true}
use Rattle.obj_space.specs.declared.location.Location.{Location}
use Rattle.obj_space.specs.Found.{same_object}
use Rattle.obj_space.specs.View.{first_from}
use Rattle.obj_space.proofs.Indexed.{same_self}
use Rattle.obj_space.specs.Parts.{Part, parts_of}
use Rattle.obj_space.specs.Space.{located, locations_by, locations_of, locations_in}
use Rattle.linked_laws.specs.system_laws.item_laws.Items.{HasPlace}

-- two ranks that are equal
ranks_equal : (a b : ℕ) (o : Ordering) → o ≡ nat_cmp a b → o ≡ Equal → a ≡ b
ranks_equal a b Less h e = cc
ranks_equal a b Equal h e = ranked a b Equal h
ranks_equal a b Greater h e = cc

then_equal : (o q : Ordering) → ordering_then o q ≡ Equal → q ≡ Equal
then_equal Less q e = cc
then_equal Equal q e = e
then_equal Greater q e = cc

place_equal : (a b : Spot) → by_place a b ≡ Equal → a.3 ≡ b.3
place_equal a b e =
    let one = then_equal (nat_cmp a.0 b.0) _ e in
    let two = then_equal (nat_cmp a.1 b.1) _ one in
    let three = then_equal (nat_cmp a.2 b.2) _ two in
    ranks_equal a.3 b.3 (nat_cmp a.3 b.3) refl three

-- the object that the entity e is, of that type
abbrev IsOf : ℕ → TypeId → Object → Type 0
IsOf e id object = (object.content ≡ Typed id) × (object.key ≡ EntityKey e)

-- it stands among these
data HasObject (e : ℕ) (id : TypeId) : Made → Type 0 where
  here : {spot : Spot} {object : Object} {rest : Made} → spot.3 ≡ e → IsOf e id object → HasObject e id ((spot, object) ∷ rest)
  later : {m : Spot × Object} {rest : Made} → HasObject e id rest → HasObject e id (m ∷ rest)

put_by : (e : ℕ) (id : TypeId) (spot k : Spot) (object v : Object) (rest more : Made) (o : Ordering) → by_place spot k ≡ o → spot.3 ≡ e → IsOf e id object → HasObject e id more
    → HasObject e id (match_ordering o ((spot, object) ∷ (k, v) ∷ rest) ((k, object) ∷ rest) ((k, v) ∷ more))
put_by e id spot k object v rest more Less is at function h = here at function
put_by e id spot k object v rest more Equal is at function h = here (sym (place_equal spot k is) ∙ at) function
put_by e id spot k object v rest more Greater is at function h = later h

put : (e : ℕ) (id : TypeId) (spot : Spot) (object : Object) (made : Made) → spot.3 ≡ e → IsOf e id object → HasObject e id (insert_entry by_place made spot object)
put e id spot object [] at function = here at function
put e id spot object ((k, v) ∷ rest) at function = put_by e id spot k object v rest (insert_entry by_place rest spot object) (by_place spot k) refl at function (put e id spot object rest at function)

keep_by : (e : ℕ) (id : TypeId) (spot k : Spot) (object v : Object) (rest more : Made) (o : Ordering) → by_place spot k ≡ o → (spot.3 ≡ e → ⊥) → HasObject e id ((k, v) ∷ rest) → (HasObject e id rest → HasObject e id more)
    → HasObject e id (match_ordering o ((spot, object) ∷ (k, v) ∷ rest) ((k, object) ∷ rest) ((k, v) ∷ more))
keep_by e id spot k object v rest more Less is other h f = later h
keep_by e id spot k object v rest more Equal is other (here at function) f = absurd (other (place_equal spot k is ∙ at))
keep_by e id spot k object v rest more Equal is other (later h) f = later h
keep_by e id spot k object v rest more Greater is other (here at function) f = here at function
keep_by e id spot k object v rest more Greater is other (later h) f = later (f h)

keep : (e : ℕ) (id : TypeId) (spot : Spot) (object : Object) (made : Made) → (spot.3 ≡ e → ⊥) → HasObject e id made → HasObject e id (insert_entry by_place made spot object)
keep e id spot object [] other h = later h
keep e id spot object ((k, v) ∷ rest) other h = keep_by e id spot k object v rest (insert_entry by_place rest spot object) (by_place spot k) refl other h (keep e id spot object rest other)

keep_at : (e : ℕ) (id : TypeId) (spot : Spot) (o : Option Object) (done : Made) → (spot.3 ≡ e → ⊥) → HasObject e id done → HasObject e id (in_order done (made_at spot o))
keep_at e id spot None done other h = h
keep_at e id spot (Some object) done other h = keep e id spot object done other h

module _ (p : Program) (e : ℕ) (id : TypeId) where
  entities_after : (done : Made) (k : ℕ) (xs : List Entity) → e < k → HasObject e id done → HasObject e id (in_order done (entities_made p k xs))
  entities_after done k [] lt h = h
  entities_after done k (x ∷ rest) lt h =
      subst (HasObject e id) (sym (in_order-append done (entity_made p k x) (entities_made p (k + 1) rest)))
      (entities_after (in_order done (entity_made p k x)) (k + 1) rest (omega arith) (keep_at e id (spot_at x.place k) (entity_object p k x) done (λ same. omega arith) h))

  nodes_after : (done : Made) (n : ℕ) (xs : List Node) → e < length p.entities.items → HasObject e id done → HasObject e id (in_order done (nodes_made p n xs))
  nodes_after done n [] lt h = h
  nodes_after done n (x ∷ rest) lt h =
      subst (HasObject e id) (sym (in_order-append done (node_made p n x) (nodes_made p (n + 1) rest)))
      (nodes_after (in_order done (node_made p n x)) (n + 1) rest lt (keep_at e id (spot_at x.place (length p.entities.items + n)) (node_object p n x) done (λ same. omega arith) h))

  further_after : (done : Made) (k : ℕ) (xs : List Entity) → e < length p.entities.items → HasObject e id done → HasObject e id (in_order done (varargs_made p k xs))
  further_after done k [] lt h = h
  further_after done k (x ∷ rest) lt h =
      subst (HasObject e id) (sym (in_order-append done (made_at (varargs_spot p k x) (varargs_object p k x)) (varargs_made p (k + 1) rest)))
      (further_after (in_order done (made_at (varargs_spot p k x) (varargs_object p k x))) (k + 1) rest lt (keep_at e id (varargs_spot p k x) (varargs_object p k x) done (λ same. omega arith) h))

  placed_content : (storage : Storage) → HasPlace storage → entity_content storage id ≡ Typed id
  placed_content Static h = refl
  placed_content Automatic h = refl
  placed_content Parameter h = refl
  placed_content FunctionBody h = absurd h
  placed_content Declared h = absurd h

  placed_object : (storage : Storage) (object : Object) → HasPlace storage → object_unless_declared storage object ≡ Some object
  placed_object Static object h = refl
  placed_object Automatic object h = refl
  placed_object Parameter object h = refl
  placed_object FunctionBody object h = absurd h
  placed_object Declared object h = absurd h

  put_entity : (done : Made) (x : Entity) (storage : Storage) (object : Object) → HasPlace storage → object.content ≡ entity_content storage id → object.key ≡ EntityKey e → HasObject e id (in_order done (made_at (spot_at x.place e) (object_unless_declared storage object)))
  put_entity done x storage object is content key =
      subst (λ (o : Option Object). HasObject e id (in_order done (made_at (spot_at x.place e) o))) (sym (placed_object storage object is))
      (put e id (spot_at x.place e) object done refl (content ∙ placed_content storage is, key))

  entities_at : (done : Made) (k : ℕ) (xs : List Entity) (i : ℕ) (x : Entity) → slice_get xs i ≡ Some x → k + i ≡ e → HasPlace x.storage → x.ty ≡ id → HasObject e id (in_order done (entities_made p k xs))
  entities_at done k [] i x at is storage type = cc
  entities_at done k (y ∷ rest) zero x at is storage type =
      let same : y ≡ x = cc in
      let number : k ≡ e = omega arith in
      subst (HasObject e id) (sym (in_order-append done (entity_made p k y) (entities_made p (k + 1) rest)))
      (entities_after (in_order done (entity_made p k y)) (k + 1) rest (omega arith)
      (subst (λ (n : ℕ). HasObject e id (in_order done (entity_made p n y))) (sym number)
      (put_entity done y y.storage _ (subst (λ (z : Entity). HasPlace z.storage) (sym same) storage) (ap (entity_content y.storage) (ap (λ (z : Entity). z.ty) same ∙ type)) refl)))
  entities_at done k (y ∷ rest) (suc i) x at is storage type =
      subst (HasObject e id) (sym (in_order-append done (entity_made p k y) (entities_made p (k + 1) rest)))
      (entities_at (in_order done (entity_made p k y)) (k + 1) rest i x at (omega arith) storage type)

  whole : (x : Entity) → slice_get p.entities.items e ≡ Some x → HasPlace x.storage → x.ty ≡ id → HasObject e id (made_in_order p)
  whole x at storage type =
      let lt = slice_get_within p.entities.items e x at in
      further_after (made_of_names p) 0 p.entities.items lt (nodes_after (in_order [] (entities_made p 0 p.entities.items)) 0 p.nodes.items lt (entities_at [] 0 p.entities.items e x at (omega arith) storage type))

  -- its location
  HasLocation : List Location → Type 0
  HasLocation space = (l : ℕ) × (y : Location) × (slice_get space l ≡ Some y) × (y.key ≡ EntityKey e)

  by_parts : (object : Object) (more : List Location) (parts : List Part) (i : ℕ) (part : Part) → slice_get parts i ≡ Some part → object.key ≡ EntityKey e → HasLocation (map (located object.key object.content object.name) parts ++ more)
  unfolding HasLocation
  by_parts object more [] i part at key = cc
  by_parts object more (q ∷ parts) i part at key = (0, _, refl, key)

  by_content : (object : Object) (more : List Location) (i : ℕ) (part : Part) → slice_get (parts_of p.types (type_of p.types id.0)) i ≡ Some part → (content : Content) → content ≡ Typed id → object.key ≡ EntityKey e
      → HasLocation (locations_by p.types object content ++ more)
  unfolding HasLocation
  by_content object more i part at content is key =
      subst (λ (c : Content). HasLocation (locations_by p.types object c ++ more)) (sym is) (by_parts object more (parts_of p.types (type_of p.types id.0)) i part at key)

  behind : (xs ys : List Location) → HasLocation ys → HasLocation (xs ++ ys)
  unfolding HasLocation
  behind [] ys h = h
  behind (x ∷ xs) ys h = let r = behind xs ys h in (suc r.0, r.1, r.2, r.3)

  module _ (i : ℕ) (part : Part) (has_part : slice_get (parts_of p.types (type_of p.types id.0)) i ≡ Some part) where
    some_located : (made : Made) (more : List Object) → HasObject e id made → HasLocation (flat_map (locations_of p.types) (objects_in made ++ more))
    some_located [] more h = elim h [ ]
    some_located ((spot, object) ∷ rest) more (here at function) = by_content object (flat_map (locations_of p.types) (objects_in rest ++ more)) i part has_part object.content function.0 function.1
    some_located ((spot, object) ∷ rest) more (later h) = behind (locations_of p.types object) (flat_map (locations_of p.types) (objects_in rest ++ more)) (some_located rest more h)

    pub has_location : (x : Entity) → slice_get p.entities.items e ≡ Some x → HasPlace x.storage → x.ty ≡ id → (l : ℕ) × (y : Location) × (slice_get (locations_in p) l ≡ Some y) × (y.key ≡ EntityKey e)
    unfolding locations_in HasLocation
    has_location x at storage type = some_located (made_in_order p) (library_part p) (whole x at storage type)

-- the first location of an object that has one
first_by : (n k : ℕ) (x y : Location) (rest : List Location) (key : ObjectKey) (b : Bool) → same_object x.key key ≡ b → slice_get (x ∷ rest) k ≡ Some y → y.key ≡ key
    → ((j : ℕ) → slice_get rest j ≡ Some y → (l : ℕ) × (first_from (n + 1) rest key ≡ Some l)) → (l : ℕ) × (cond b (Some n) (first_from (n + 1) rest key) ≡ Some l)
first_by n k x y rest key true is at own f = (n, refl)
first_by n zero x y rest key false is at own f = absurd (false≢true (sym is ∙ same_self x.key key (let e : x ≡ y = cc in ap (λ (z : Location). z.key) e ∙ own)))
first_by n (suc k) x y rest key false is at own f = f k at

first_some : (n k : ℕ) (space : List Location) (y : Location) (key : ObjectKey) → slice_get space k ≡ Some y → y.key ≡ key → (l : ℕ) × (first_from n space key ≡ Some l)
first_some n k [] y key at own = cc
first_some n k (x ∷ rest) y key at own = first_by n k x y rest key (same_object x.key key) refl at own (λ j e. first_some (n + 1) j rest y key e own)

-- the first location of the object of an entity that has its place and nodes
pub entity_begins : (p : Program) (e : ℕ) (x : Entity) (i : ℕ) (part : Part) → slice_get p.entities.items e ≡ Some x → HasPlace x.storage → slice_get (parts_of p.types (type_of p.types x.ty.0)) i ≡ Some part
    → (l : ℕ) × (first_from 0 (locations_in p) (EntityKey e) ≡ Some l)
entity_begins p e x i part at storage has = let r = has_location p e x.ty i part has x at storage refl in first_some 0 r.0 (locations_in p) r.1 (EntityKey e) r.2 r.3
