-- The object of a call, among all objects of a program.
use Rattle.std.proofs.Common.{arith, ◌≡◌, ◌∙◌, Bool, true, false, cond, nat_eq, ℕ, zero, suc, ◌+◌, ◌<◌, List, [], ◌∷◌, ◌++◌, map, length, Option, Some, None, IsSome, is_some, slice_get, refl, sym, ap, subst}
use Rattle.std.specs.List.{flat_map}
use Rattle.std.specs.Option.{option_and_then}
use Rattle.std.specs.declared.cmp.Ordering.{Ordering}
use Rattle.std.specs.declared.cmp.Ordering.TheVariants.{Less, Equal, Greater}
use Rattle.std.specs.Ordering.{match_ordering, nat_cmp, ordering_then}
use Rattle.std.specs.BTreeMap.{insert_entry}
use Rattle.std.proofs.lemmas.Cmp.{ranked}
use Rattle.std.proofs.lemmas.Bool.{false≢true}
use Rattle.std.proofs.lemmas.Option.{slice_get_within}
use Rattle.std.proofs.lemmas.List.Concat.{flat_map-cons}
use Rattle.c_types.specs.declared.key.ObjectKey.{ObjectKey}
use Rattle.c_types.specs.declared.key.ObjectKey.TheVariants.{Call as CallKey}
use Rattle.c_types.specs.declared.term.TypeId.{TypeId}
use Rattle.c_types.specs.Trees.{Ctype}
use Rattle.c_types.specs.Layout.{Extent}
use Rattle.c_types.specs.Table.{type_of, look_in, extent_in}
use Rattle.c_types.specs.Made.{IsMade}
use Rattle.type_rules.proofs.Objects.{HasFirst, has_first}
use Rattle.core_tree.specs.declared.node.Program.{Program}
use Rattle.core_tree.specs.declared.node.Node.{Node}
use Rattle.core_tree.specs.declared.node.NodeKind.{NodeKind}
use Rattle.core_tree.specs.declared.node.NodeKind.TheVariants.{CallNode}
use Rattle.core_tree.specs.declared.node.Entity.{Entity}
use Rattle.obj_made.specs.declared.object.Content.{Content}
use Rattle.obj_made.specs.declared.object.Content.TheVariants.{Scalars, Elements}
use Rattle.obj_made.specs.declared.object.Object.{Object}
use Rattle.obj_made.specs.Uses.{entity_number, is_allocator}
use Rattle.obj_made.specs.Made.{Spot, by_place, Made, in_order, made_at, entities_made, allocated_content, elements_or_blob, typed_by, complete_in, pointed_in, conversion_above, called_object, object_of_call, called_entity, object_of_kind, node_object, node_made, nodes_made, varargs_object, varargs_spot, varargs_made, made_of_names, spot_at, made_in_order, objects_in}
use Rattle.obj_made.proofs.Ordered.{in_order-append}
use Rattle.obj_space.specs.Objects.{library_part}
use Rattle.obj_space.specs.declared.location.Location.{Location}
use Rattle.obj_space.specs.Found.{same_object}
use Rattle.obj_space.specs.Parts.{Part, parts_of, nodes_of}
use Rattle.obj_space.specs.Space.{located, locations_by, locations_of, locations_in}
use Rattle.obj_space.specs.View.{first_from}
use Rattle.obj_space.proofs.Indexed.{same_self}
use Rattle.obj_space.proofs.Placed.{get_map}
use Rattle.obj_space.proofs.Preorder.{same_nodes}
use Rattle.covering_laws.specs.object_contents.Contents.{CallsMade}

none_some : {X : Type 0} → {x : X} → ◌≡◌ {A = Option X} None (Some x) → ⊥
none_some h = cc

some_one : {X : Type 0} → {x y : X} → ◌≡◌ {A = Option X} (Some x) (Some y) → x ≡ y
some_one h = cc

-- two ranks that are equal
ranks_equal : (a b : ℕ) (o : Ordering) → o ≡ nat_cmp a b → o ≡ Equal → a ≡ b
ranks_equal a b Less h e = cc
ranks_equal a b Equal h e = ranked a b Equal h
ranks_equal a b Greater h e = cc

then_equal : (o q : Ordering) → ordering_then o q ≡ Equal → q ≡ Equal
then_equal Less q e = cc
then_equal Equal q e = e
then_equal Greater q e = cc

place_equal : (a b : Spot) → by_place a b ≡ Equal → a.3 ≡ b.3
place_equal a b e =
    let one = then_equal (nat_cmp a.0 b.0) _ e in
    let two = then_equal (nat_cmp a.1 b.1) _ one in
    let three = then_equal (nat_cmp a.2 b.2) _ two in
    ranks_equal a.3 b.3 (nat_cmp a.3 b.3) refl three

-- an object stands among these, at a place of that number
pub data HasAt (m : ℕ) (own : Object) : Made → Type 0 where
  here : {spot : Spot} {rest : Made} → spot.3 ≡ m → HasAt m own ((spot, own) ∷ rest)
  later : {e : Spot × Object} {rest : Made} → HasAt m own rest → HasAt m own (e ∷ rest)

module _ (m : ℕ) (own : Object) where
  put_case : (spot k : Spot) (v : Object) (rest more : Made) (o : Ordering) → by_place spot k ≡ o → spot.3 ≡ m → HasAt m own more → HasAt m own (match_ordering o ((spot, own) ∷ (k, v) ∷ rest) ((k, own) ∷ rest) ((k, v) ∷ more))
  put_case spot k v rest more Less is at h = here at
  put_case spot k v rest more Equal is at h = here (sym (place_equal spot k is) ∙ at)
  put_case spot k v rest more Greater is at h = later h

  pub put : (spot : Spot) (made : Made) → spot.3 ≡ m → HasAt m own (insert_entry by_place made spot own)
  put spot [] at = here at
  put spot ((k, v) ∷ rest) at = put_case spot k v rest (insert_entry by_place rest spot own) (by_place spot k) refl at (put spot rest at)

  keep_by : (spot k : Spot) (object v : Object) (rest more : Made) (o : Ordering) → by_place spot k ≡ o → (spot.3 ≡ m → ⊥) → HasAt m own ((k, v) ∷ rest) → (HasAt m own rest → HasAt m own more)
      → HasAt m own (match_ordering o ((spot, object) ∷ (k, v) ∷ rest) ((k, object) ∷ rest) ((k, v) ∷ more))
  keep_by spot k object v rest more Less is other h f = later h
  keep_by spot k object v rest more Equal is other (here at) f = absurd (other (place_equal spot k is ∙ at))
  keep_by spot k object v rest more Equal is other (later h) f = later h
  keep_by spot k object v rest more Greater is other (here at) f = here at
  keep_by spot k object v rest more Greater is other (later h) f = later (f h)

  keep : (spot : Spot) (object : Object) (made : Made) → (spot.3 ≡ m → ⊥) → HasAt m own made → HasAt m own (insert_entry by_place made spot object)
  keep spot object [] other h = later h
  keep spot object ((k, v) ∷ rest) other h = keep_by spot k object v rest (insert_entry by_place rest spot object) (by_place spot k) refl other h (keep spot object rest other)

  pub keep_at : (spot : Spot) (o : Option Object) (done : Made) → (spot.3 ≡ m → ⊥) → HasAt m own done → HasAt m own (in_order done (made_at spot o))
  keep_at spot None done other h = h
  keep_at spot (Some object) done other h = keep spot object done other h

module _ (p : Program) (n : ℕ) (own : Object) where
  abbrev m : ℕ
  m = length p.entities.items + n

  nodes_after : (done : Made) (k : ℕ) (xs : List Node) → n < k → HasAt m own done → HasAt m own (in_order done (nodes_made p k xs))
  nodes_after done k [] lt h = h
  nodes_after done k (x ∷ rest) lt h =
      subst (HasAt m own) (sym (in_order-append done (node_made p k x) (nodes_made p (k + 1) rest)))
      (nodes_after (in_order done (node_made p k x)) (k + 1) rest (omega arith) (keep_at m own (spot_at x.place (length p.entities.items + k)) (node_object p k x) done (λ same. omega arith) h))

  nodes_at : (done : Made) (k : ℕ) (xs : List Node) (i : ℕ) (x : Node) → slice_get xs i ≡ Some x → k + i ≡ n → node_object p n x ≡ Some own → HasAt m own (in_order done (nodes_made p k xs))
  nodes_at done k [] i x at is object = absurd (none_some at)
  nodes_at done k (y ∷ rest) zero x at is object =
      let same : y ≡ x = some_one at in
      let number : k ≡ n = omega arith in
      let made : node_object p k y ≡ Some own = ap (λ (j : ℕ). node_object p j y) number ∙ (ap (node_object p n) same ∙ object) in
      subst (HasAt m own) (sym (in_order-append done (node_made p k y) (nodes_made p (k + 1) rest)))
      (nodes_after (in_order done (node_made p k y)) (k + 1) rest (omega arith)
      (subst (λ (o : Option Object). HasAt m own (in_order done (made_at (spot_at y.place (length p.entities.items + k)) o))) (sym made)
      (put m own (spot_at y.place (length p.entities.items + k)) done (ap (λ (j : ℕ). length p.entities.items + j) number))))
  nodes_at done k (y ∷ rest) (suc i) x at is object =
      subst (HasAt m own) (sym (in_order-append done (node_made p k y) (nodes_made p (k + 1) rest)))
      (nodes_at (in_order done (node_made p k y)) (k + 1) rest i x at (omega arith) object)

  further_after : n < length p.nodes.items → (done : Made) (k : ℕ) (xs : List Entity) → HasAt m own done → HasAt m own (in_order done (varargs_made p k xs))
  further_after lt done k [] h = h
  further_after lt done k (x ∷ rest) h =
      subst (HasAt m own) (sym (in_order-append done (made_at (varargs_spot p k x) (varargs_object p k x)) (varargs_made p (k + 1) rest)))
      (further_after lt (in_order done (made_at (varargs_spot p k x) (varargs_object p k x))) (k + 1) rest (keep_at m own (varargs_spot p k x) (varargs_object p k x) done (λ same. omega arith) h))

  among : (x : Node) → slice_get p.nodes.items n ≡ Some x → node_object p n x ≡ Some own → HasAt m own (made_in_order p)
  among x at object =
      further_after (slice_get_within p.nodes.items n x at) (made_of_names p) 0 p.entities.items
      (nodes_at (in_order [] (entities_made p 0 p.entities.items)) 0 p.nodes.items n x at (omega arith) object)

-- a location of that object
abbrev pub HasLocation : ObjectKey → List Location → Type 0
HasLocation key space = (l : ℕ) × (y : Location) × (slice_get space l ≡ Some y) × (y.key ≡ key)

pub behind : (key : ObjectKey) (xs ys : List Location) → HasLocation key ys → HasLocation key (xs ++ ys)
behind key [] ys h = h
behind key (x ∷ xs) ys h = let r = behind key xs ys h in (suc r.0, r.1, r.2, r.3)

pub front : (key : ObjectKey) (xs ys : List Location) → HasLocation key xs → HasLocation key (xs ++ ys)
front key [] ys h = absurd (none_some h.2)
front key (x ∷ xs) ys (zero, y, at, is) = (zero, y, at, is)
front key (x ∷ xs) ys (suc l, y, at, is) = let r = front key xs ys (l, y, at, is) in (suc r.0, r.1, r.2, r.3)

module _ (p : Program) (made : IsMade p.types) where
  -- a complete type has a node
  first_part : (o : Option Extent) → IsSome o → HasFirst o → (ps : List Part) → map (λ (q : Part). q.ty) ps ≡ nodes_of o → (q : Part) × (slice_get ps 0 ≡ Some q)
  first_part None some first ps same = absurd (false≢true some)
  first_part (Some e) some first [] same = absurd (none_some (ap (λ (ts : List Ctype). slice_get ts 0) same ∙ first.1))
  first_part (Some e) some first (q ∷ ps) same = (q, refl)

  pub located_of : (o : Object) (content : Content) (id : TypeId) → IsSome (extent_in p.types (type_of p.types id.0)) → HasLocation o.key (map (located o.key o.content o.name) (parts_of p.types (type_of p.types id.0)))
  located_of o content id complete =
      let q = first_part (extent_in p.types (type_of p.types id.0)) complete (has_first (look_in p.types) (type_of p.types id.0)) (parts_of p.types (type_of p.types id.0)) (same_nodes p.types made (type_of p.types id.0)) in
      (0, located o.key o.content o.name q.0, get_map (located o.key o.content o.name) (parts_of p.types (type_of p.types id.0)) 0 q.0 q.1, refl)

  -- the type of a conversion is complete, where it is used
  complete_by : (b : Bool) (to id : TypeId) → is_some (extent_in p.types (type_of p.types to.0)) ≡ b → cond b (Some to) None ≡ Some id → IsSome (extent_in p.types (type_of p.types id.0))
  complete_by true to id is h = subst (λ (x : TypeId). IsSome (extent_in p.types (type_of p.types x.0))) (some_one h) is
  complete_by false to id is h = absurd (none_some h)

  pointed_by : (o : Option TypeId) (id : TypeId) → option_and_then (complete_in p.types) o ≡ Some id → IsSome (extent_in p.types (type_of p.types id.0))
  pointed_by None id h = absurd (none_some h)
  pointed_by (Some to) id h = complete_by (is_some (extent_in p.types (type_of p.types to.0))) to id refl h

  typed_complete : (o : Option TypeId) (id : TypeId) → typed_by p.types o ≡ Some id → IsSome (extent_in p.types (type_of p.types id.0))
  typed_complete None id h = absurd (none_some h)
  typed_complete (Some c) id h = pointed_by (pointed_in (slice_get p.types.terms c.0)) id h

  elements_located : (object : Object) (o : Option TypeId) → ((id : TypeId) → o ≡ Some id → IsSome (extent_in p.types (type_of p.types id.0))) → HasLocation object.key (locations_by p.types object (elements_or_blob o))
  elements_located object None complete = (0, _, refl, refl)
  elements_located object (Some id) complete = located_of object (Elements id) id (complete id refl)

  choice_located : (object : Object) (b : Bool) (o : Option TypeId) → ((id : TypeId) → o ≡ Some id → IsSome (extent_in p.types (type_of p.types id.0))) → HasLocation object.key (locations_by p.types object (cond b (Scalars 0) (elements_or_blob o)))
  choice_located object true o complete = (0, _, refl, refl)
  choice_located object false o complete = elements_located object o complete

  call_located : (object : Object) (k : ℕ) (o : Option TypeId) → object.content ≡ allocated_content k (typed_by p.types o) → HasLocation object.key (locations_of p.types object)
  call_located object k o is =
      subst (λ (c : Content). HasLocation object.key (locations_by p.types object c)) (sym is) (choice_located object (nat_eq k 21) (typed_by p.types o) (λ id h. typed_complete o id h))

  some_located : (mm : ℕ) (own : Object) → HasLocation own.key (locations_of p.types own) → (list : Made) (more : List Object) → HasAt mm own list → HasLocation own.key (flat_map (locations_of p.types) (objects_in list ++ more))
  some_located mm own found [] more h = elim h [ ]
  some_located mm own found ((spot, object) ∷ rest) more (here at) =
      subst (HasLocation own.key) (sym (flat_map-cons (locations_of p.types) own (objects_in rest ++ more))) (front own.key (locations_of p.types own) (flat_map (locations_of p.types) (objects_in rest ++ more)) found)
  some_located mm own found ((spot, object) ∷ rest) more (later h) =
      subst (HasLocation own.key) (sym (flat_map-cons (locations_of p.types) object (objects_in rest ++ more))) (behind own.key (locations_of p.types object) (flat_map (locations_of p.types) (objects_in rest ++ more)) (some_located mm own found rest more h))

-- the first location of an object that has one
first_by : (n k : ℕ) (x y : Location) (rest : List Location) (key : ObjectKey) (b : Bool) → same_object x.key key ≡ b → slice_get (x ∷ rest) k ≡ Some y → y.key ≡ key
    → ((j : ℕ) → slice_get rest j ≡ Some y → (l : ℕ) × (first_from (n + 1) rest key ≡ Some l)) → (l : ℕ) × (cond b (Some n) (first_from (n + 1) rest key) ≡ Some l)
first_by n k x y rest key true is at own f = (n, refl)
first_by n zero x y rest key false is at own f = absurd (false≢true (sym is ∙ same_self x.key key (let e : x ≡ y = some_one at in ap (λ (z : Location). z.key) e ∙ own)))
first_by n (suc k) x y rest key false is at own f = f k at

pub first_some : (n k : ℕ) (space : List Location) (y : Location) (key : ObjectKey) → slice_get space k ≡ Some y → y.key ≡ key → (l : ℕ) × (first_from n space key ≡ Some l)
first_some n k [] y key at own = absurd (none_some at)
first_some n k (x ∷ rest) y key at own = first_by n k x y rest key (same_object x.key key) refl at own (λ j e. first_some (n + 1) j rest y key e own)

-- the object that the call makes
module _ (p : Program) (n : ℕ) (node : Node) (function : Entity) (number : ℕ) where
  abbrev IsCallObject : Option Object → Type 0
  IsCallObject o = (own : Object) × (o ≡ Some own) × (own.key ≡ CallKey n) × (own.content ≡ allocated_content number (typed_by p.types (conversion_above p.nodes.items n)))

  allocated_is : (b : Bool) (own : Object) → b ≡ true → own.key ≡ CallKey n → own.content ≡ allocated_content number (typed_by p.types (conversion_above p.nodes.items n)) → IsCallObject (cond b (Some own) None)
  allocated_is true own is key content = (own, refl, key, content)
  allocated_is false own is key content = absurd (false≢true is)

  numbered_is : (k : Option ℕ) → k ≡ Some number → is_allocator number ≡ true → IsCallObject (called_object p n node function k)
  numbered_is k is allocates = subst (λ (j : Option ℕ). IsCallObject (called_object p n node function j)) (sym is) (allocated_is (is_allocator number) _ allocates refl refl)

  entity_is : called_entity p.nodes.items p.entities.items node ≡ Some function → entity_number function ≡ Some number → is_allocator number ≡ true → IsCallObject (object_of_call p n node (called_entity p.nodes.items p.entities.items node))
  entity_is called numbered allocates = subst (λ (o : Option Entity). IsCallObject (object_of_call p n node o)) (sym called) (numbered_is (entity_number function) numbered allocates)

  kind_is : node.kind ≡ CallNode → called_entity p.nodes.items p.entities.items node ≡ Some function → entity_number function ≡ Some number → is_allocator number ≡ true → IsCallObject (node_object p n node)
  kind_is kind called numbered allocates = subst (λ (k : NodeKind). IsCallObject (object_of_kind p n node k)) (sym kind) (entity_is called numbered allocates)

pub has_location : (p : Program) → IsMade p.types → (mm : ℕ) (own : Object) → HasLocation own.key (locations_of p.types own) → HasAt mm own (made_in_order p) → HasLocation own.key (locations_in p)
unfolding locations_in
has_location p made mm own found h = some_located p made mm own found (made_in_order p) (library_part p) h

pub calls_made : CallsMade
calls_made p n node function number made there kind called numbered allocates =
    let o = kind_is p n node function number kind called numbered allocates in
    let found = call_located p made o.0 number (conversion_above p.nodes.items n) o.3 in
    let r = has_location p made (length p.entities.items + n) o.0 found (among p n o.0 node there o.1) in
    first_some 0 r.0 (locations_in p) r.1 (CallKey n) r.2 (r.3 ∙ o.2)
