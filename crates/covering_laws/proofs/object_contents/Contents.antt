-- What the objects of a program are made of.
use Rattle.std.proofs.Common.{arith, ◌≡◌, ◌∙◌, ◌⊎◌, inl, inr, ℕ, zero, suc, ◌+◌, Bool, true, false, if◌then◌else◌, List, [], ◌∷◌, ◌++◌, map, length, Option, Some, None, IsSome, slice_get, refl, sym, ap, subst}
use Rattle.std.specs.List.{flat_map}
use Rattle.std.specs.declared.cmp.Ordering.{Ordering}
use Rattle.std.specs.declared.cmp.Ordering.TheVariants.{Less, Equal, Greater}
use Rattle.std.specs.Ordering.{match_ordering}
use Rattle.std.specs.BTreeMap.{insert_entry}
use Rattle.std.proofs.lemmas.List.Concat.{flat_map-cons}
use Rattle.c_types.specs.declared.key.ObjectKey.{ObjectKey}
use Rattle.c_types.specs.declared.key.ObjectKey.TheVariants.{Library as LibraryKey}
use Rattle.c_types.specs.declared.term.TypeId.{TypeId}
use Rattle.c_types.specs.Trees.{Ctype}
use Rattle.c_types.specs.Layout.{Extent}
use Rattle.c_types.specs.Table.{type_of, extent_in}
use Rattle.c_types.specs.Made.{IsMade}
use Rattle.core_tree.specs.declared.node.Program.{Program}
use Rattle.core_tree.specs.declared.node.Node.{Node}
use Rattle.core_tree.specs.declared.node.NodeKind.{NodeKind}
use Rattle.core_tree.specs.declared.node.NodeKind.TheVariants.{Text, CallNode}
use Rattle.core_tree.specs.declared.node.Entity.{Entity}
use Rattle.core_tree.specs.declared.node.Storage.{Storage}
use Rattle.core_tree.specs.declared.node.Storage.TheVariants.{Static, Automatic, FunctionBody, Parameter, Declared}
use Rattle.obj_made.specs.declared.object.Content.{Content}
use Rattle.obj_made.specs.declared.object.Content.TheVariants.{Function, Blob, Scalar, Scalars, Typed, Elements}
use Rattle.obj_made.specs.declared.object.Object.{Object}
use Rattle.obj_made.specs.Uses.{entity_number, is_allocator, is_named, is_starred}
use Rattle.obj_made.specs.Made.{Made, Spot, by_place, in_order, made_at, spot_at, object_unless_declared, entity_made, entities_made, called_object, object_of_call, called_entity, object_of_kind, node_made, nodes_made, has_varargs, varargs_object, varargs_spot, varargs_made, made_of_names, made_in_order, objects_in}
use Rattle.obj_space.specs.declared.location.Location.{Location}
use Rattle.obj_space.specs.Objects.{LibraryRow, named_object, function_if, functions_below, library_rows, library_object, library_objects_from, library_objects, is_needed, star_if, star_objects, outside_objects, library_part, objects_of, takes_arguments}
use Rattle.obj_space.specs.Parts.{Part, parts_of, nodes_of}
use Rattle.obj_space.specs.Space.{located, locations_by, locations_of, locations_in}
use Rattle.obj_space.specs.Spots.{type_made}
use Rattle.obj_space.proofs.Placed.{get_mapped}
use Rattle.obj_space.proofs.Preorder.{same_nodes}
use Rattle.covering_laws.specs.object_contents.Contents.{IsMadeOf, IsMadeWhole, ContentsKnown}

none_some : {X : Type 0} → {x : X} → ◌≡◌ {A = Option X} None (Some x) → ⊥
none_some h = cc

some_one : {X : Type 0} → {x y : X} → ◌≡◌ {A = Option X} (Some x) (Some y) → x ≡ y
some_one h = cc

module _ (p : Program) where
  abbrev pub IsRight : Object → Type 0
  IsRight o = IsMadeOf p o.key o.content

  abbrev pub AllRight : List Object → Type 0
  AllRight [] = Unit {0}
  AllRight (o ∷ os) = IsRight o × AllRight os

  abbrev MadeRight : Made → Type 0
  MadeRight [] = Unit {0}
  MadeRight (m ∷ rest) = IsRight m.1 × MadeRight rest

  right_append : (a b : List Object) → AllRight a → AllRight b → AllRight (a ++ b)
  right_append [] b ha hb = hb
  right_append (o ∷ a) b ha hb = (ha.0, right_append a b ha.1 hb)

  made_append : (a b : Made) → MadeRight a → MadeRight b → MadeRight (a ++ b)
  made_append [] b ha hb = hb
  made_append (m ∷ a) b ha hb = (ha.0, made_append a b ha.1 hb)

  picked : (o : Ordering) (a b c : Made) → MadeRight a → MadeRight b → MadeRight c → MadeRight (match_ordering o a b c)
  picked Less a b c ha hb hc = ha
  picked Equal a b c ha hb hc = hb
  picked Greater a b c ha hb hc = hc

  inserted : (done : Made) (k : Spot) (v : Object) → IsRight v → MadeRight done → MadeRight (insert_entry by_place done k v)
  inserted [] k v h hd = (h, tt)
  inserted (e ∷ es) k v h hd =
      picked (by_place k e.0) ((k, v) ∷ e ∷ es) ((e.0, v) ∷ es) (e ∷ insert_entry by_place es k v) (h, (hd.0, hd.1)) (h, hd.1) (hd.0, inserted es k v h hd.1)

  ordered : (done ms : Made) → MadeRight done → MadeRight ms → MadeRight (in_order done ms)
  ordered done [] hd hm = hd
  ordered done (m ∷ ms) hd hm = ordered (insert_entry by_place done m.0 m.1) ms (inserted done m.0 m.1 hm.0 hd) hm.1

  unless_declared : (spot : Spot) (object : Object) (s : Storage) → ((s ≡ Declared → ⊥) → IsRight object) → MadeRight (made_at spot (object_unless_declared s object))
  unless_declared spot object Static h = (h (λ is. cc), tt)
  unless_declared spot object Automatic h = (h (λ is. cc), tt)
  unless_declared spot object FunctionBody h = (h (λ is. cc), tt)
  unless_declared spot object Parameter h = (h (λ is. cc), tt)
  unless_declared spot object Declared h = tt

  entities_right : (e : ℕ) (es : List Entity) → ((i : ℕ) (x : Entity) → slice_get es i ≡ Some x → slice_get p.entities.items (e + i) ≡ Some x) → MadeRight (entities_made p e es)
  entities_right e [] at = tt
  entities_right e (entity ∷ es) at =
      let here : slice_get p.entities.items e ≡ Some entity = ap (slice_get p.entities.items) (let z : e ≡ e + 0 = omega arith in z) ∙ at 0 entity refl in
      made_append (entity_made p e entity) (entities_made p (e + 1) es) (unless_declared (spot_at entity.place e) _ entity.storage (λ made. (entity, here, refl, made)))
      (entities_right (e + 1) es (λ i x is. ap (slice_get p.entities.items) (let z : (e + 1) + i ≡ e + suc i = omega arith in z) ∙ at (suc i) x is))

  if_right : (spot : Spot) (b : Bool) (o : Object) → (b ≡ true → IsRight o) → MadeRight (made_at spot (if b then Some o else None))
  if_right spot true o h = (h refl, tt)
  if_right spot false o h = tt

  module _ (spot : Spot) (n : ℕ) (node : Node) (there : slice_get p.nodes.items n ≡ Some node) where
    called_right : (entity : Entity) → called_entity p.nodes.items p.entities.items node ≡ Some entity → (k : Option ℕ) → entity_number entity ≡ k → MadeRight (made_at spot (called_object p n node entity k))
    called_right entity called None is = tt
    called_right entity called (Some k) is =
        if_right spot (is_allocator k) _ (λ allocates. record { node = node; there = there; function = entity; called = called; number = k; numbered = is; allocates = allocates; content_is = refl })

    call_right : (o : Option Entity) → called_entity p.nodes.items p.entities.items node ≡ o → MadeRight (made_at spot (object_of_call p n node o))
    call_right None is = tt
    call_right (Some entity) is = called_right entity is (entity_number entity) refl

    kind_right : (kind : NodeKind) → MadeRight (made_at spot (object_of_kind p n node kind))
    kind_right (Text bytes) = ((node, there, refl), tt)
    kind_right CallNode = call_right (called_entity p.nodes.items p.entities.items node) refl
    kind_right kind = tt

  nodes_right : (n : ℕ) (ns : List Node) → ((i : ℕ) (x : Node) → slice_get ns i ≡ Some x → slice_get p.nodes.items (n + i) ≡ Some x) → MadeRight (nodes_made p n ns)
  nodes_right n [] at = tt
  nodes_right n (node ∷ ns) at =
      let here : slice_get p.nodes.items n ≡ Some node = ap (slice_get p.nodes.items) (let z : n ≡ n + 0 = omega arith in z) ∙ at 0 node refl in
      made_append (node_made p n node) (nodes_made p (n + 1) ns) (kind_right (spot_at node.place (length p.entities.items + n)) n node here node.kind)
      (nodes_right (n + 1) ns (λ i x is. ap (slice_get p.nodes.items) (let z : (n + 1) + i ≡ n + suc i = omega arith in z) ∙ at (suc i) x is))

  further_right : (e : ℕ) (es : List Entity) → ((i : ℕ) (x : Entity) → slice_get es i ≡ Some x → slice_get p.entities.items (e + i) ≡ Some x) → MadeRight (varargs_made p e es)
  further_right e [] at = tt
  further_right e (entity ∷ es) at =
      let here : slice_get p.entities.items e ≡ Some entity = ap (slice_get p.entities.items) (let z : e ≡ e + 0 = omega arith in z) ∙ at 0 entity refl in
      made_append (made_at (varargs_spot p e entity) (varargs_object p e entity)) (varargs_made p (e + 1) es) (if_right (varargs_spot p e entity) (has_varargs p.types entity) _ (λ is. (entity, here, refl, is)))
      (further_right (e + 1) es (λ i x is. ap (slice_get p.entities.items) (let z : (e + 1) + i ≡ e + suc i = omega arith in z) ∙ at (suc i) x is))

  listed_right : (ms : Made) → MadeRight ms → AllRight (objects_in ms)
  listed_right [] h = tt
  listed_right (m ∷ ms) h = (h.0, listed_right ms h.1)

  made_right : AllRight (objects_in (made_in_order p))
  made_right =
      let first : Made = entities_made p 0 p.entities.items in
      let second : Made = nodes_made p 0 p.nodes.items in
      listed_right (made_in_order p)
      (ordered (made_of_names p) (varargs_made p 0 p.entities.items)
      (ordered (in_order [] first) second
      (ordered [] first tt (entities_right 0 p.entities.items (λ i x is. ap (slice_get p.entities.items) (let z : 0 + i ≡ i = omega arith in z) ∙ is)))
      (nodes_right 0 p.nodes.items (λ i x is. ap (slice_get p.nodes.items) (let z : 0 + i ≡ i = omega arith in z) ∙ is)))
      (further_right 0 p.entities.items (λ i x is. ap (slice_get p.entities.items) (let z : 0 + i ≡ i = omega arith in z) ∙ is)))

  function_right : (b : Bool) (k : ℕ) → is_named p.entities.items p.nodes.items k ≡ b → AllRight (function_if b k)
  function_right true k is = ((refl, is), tt)
  function_right false k is = tt

  functions_right : (k : ℕ) → AllRight (functions_below p k)
  unfolding functions_below
  functions_right zero = tt
  functions_right (suc k) = right_append (functions_below p k) _ (functions_right k) (function_right (is_named p.entities.items p.nodes.items k) k refl)

  row_right : (b : Bool) (k : ℕ) (row : LibraryRow) → slice_get library_rows k ≡ Some row → AllRight (if b then named_object (LibraryKey k) row.name row.content ∷ [] else [])
  row_right true k row at = ((row, at, refl), tt)
  row_right false k row at = tt

  rows_right : (named : ℕ → Bool) (arguments : Bool) (k : ℕ) (rows : List LibraryRow) → ((i : ℕ) (x : LibraryRow) → slice_get rows i ≡ Some x → slice_get library_rows (k + i) ≡ Some x) → AllRight (library_objects_from named arguments k rows)
  rows_right named arguments k [] at = tt
  rows_right named arguments k (row ∷ rows) at =
      let here : slice_get library_rows k ≡ Some row = ap (slice_get library_rows) (let z : k ≡ k + 0 = omega arith in z) ∙ at 0 row refl in
      right_append (library_object named arguments k row) (library_objects_from named arguments (k + 1) rows) (row_right (is_needed named arguments row) k row here)
      (rows_right named arguments (k + 1) rows (λ i x is. ap (slice_get library_rows) (let z : (k + 1) + i ≡ k + suc i = omega arith in z) ∙ at (suc i) x is))

  library_right : (named : ℕ → Bool) (arguments : Bool) → AllRight (library_objects named arguments)
  unfolding library_objects
  library_right named arguments = rows_right named arguments 0 library_rows (λ i x is. ap (slice_get library_rows) (let z : 0 + i ≡ i = omega arith in z) ∙ is)

  star_right : (b : Bool) (k : ℕ) → is_starred p.entities.items p.nodes.items k ≡ b → AllRight (star_if b k)
  star_right true k is = ((refl, is), tt)
  star_right false k is = tt

  stars_right : AllRight (star_objects p)
  stars_right =
      let s = λ (k : ℕ). star_right (is_starred p.entities.items p.nodes.items k) k refl in
      right_append _ _ (s 0) (right_append _ _ (s 1) (right_append _ _ (s 2) (s 21)))

  outside_right : (entries : List ℕ) → p.entries.items ≡ entries → AllRight (outside_objects entries)
  outside_right [] is = tt
  outside_right (e ∷ rest) is = ((refl, λ none. listed e rest (sym is ∙ none)), tt)
    where
      listed : (e : ℕ) (rest : List ℕ) → e ∷ rest ≡ [] → ⊥
      listed e rest h = cc

  pub objects_right : AllRight (objects_of p)
  objects_right =
      right_append (objects_in (made_in_order p)) (library_part p) made_right
      (right_append (functions_below p 55) _ (functions_right 55)
      (right_append (library_objects (is_named p.entities.items p.nodes.items) (takes_arguments p)) (star_objects p ++ outside_objects p.entries.items) (library_right _ _)
      (right_append (star_objects p) (outside_objects p.entries.items) stars_right (outside_right p.entries.items refl))))

-- an element of two lists joined is one of either
of_either : {X : Type 0} (xs ys : List X) (l : ℕ) (x : X) → slice_get (xs ++ ys) l ≡ Some x → ((k : ℕ) × (slice_get xs k ≡ Some x)) ⊎ ((k : ℕ) × (slice_get ys k ≡ Some x))
of_either [] ys l x e = inr (l, e)
of_either (a ∷ xs) ys zero x e = inl (0, e)
of_either (a ∷ xs) ys (suc l) x e = elim (of_either xs ys l x e) [ inl h ↦ inl (suc h.0, h.1) | inr h ↦ inr h ]

one_is : {X : Type 0} (a : X) (l : ℕ) (x : X) → slice_get (a ∷ []) l ≡ Some x → a ≡ x
one_is a zero x e = some_one e
one_is a (suc l) x e = absurd (none_some e)

module _ (p : Program) (made : IsMade p.types) where
  abbrev IsKnown : Location → Type 0
  IsKnown x = IsMadeOf p x.key x.content × IsMadeWhole p.types x.content

  -- a type whose tree has a node is complete
  some_extent : (o : Option Extent) (ps : List Part) → map (λ (q : Part). q.ty) ps ≡ nodes_of o → (i : ℕ) (q : Part) → slice_get ps i ≡ Some q → IsSome o
  some_extent (Some e) ps same i q at = refl
  some_extent None [] same i q at = absurd (none_some at)
  some_extent None (r ∷ ps) same i q at = absurd (no_list _ _ same)
    where
      no_list : (t : Ctype) (ts : List Ctype) → t ∷ ts ≡ [] → ⊥
      no_list t ts h = cc

  typed_complete : (id : TypeId) (i : ℕ) (q : Part) → slice_get (parts_of p.types (type_of p.types id.0)) i ≡ Some q → IsSome (extent_in p.types (type_of p.types id.0))
  typed_complete id i q at = some_extent (extent_in p.types (type_of p.types id.0)) (parts_of p.types (type_of p.types id.0)) (same_nodes p.types made (type_of p.types id.0)) i q at

  one_known : (o : Object) (x : Location) → IsMadeOf p o.key o.content → ((id : TypeId) → type_made o.content ≡ Some id → IsSome (extent_in p.types (type_of p.types id.0))) → x.key ≡ o.key → x.content ≡ o.content → IsKnown x
  one_known o x right whole key content =
      (subst (λ (c : Content). IsMadeOf p x.key c) (sym content) (subst (λ (k : ObjectKey). IsMadeOf p k o.content) (sym key) right), λ id is. whole id (sym (ap type_made content) ∙ is))

  by_content : (o : Object) → IsMadeOf p o.key o.content → (content : Content) → o.content ≡ content → (l : ℕ) (x : Location) → slice_get (locations_by p.types o content) l ≡ Some x → IsKnown x
  by_content o right Function is l x e = (let same = one_is _ l x e in one_known o x right (λ id h. absurd (none_some (sym (ap type_made is) ∙ h))) (sym (ap (λ (y : Location). y.key) same)) (sym (ap (λ (y : Location). y.content) same)))
  by_content o right Blob is l x e = (let same = one_is _ l x e in one_known o x right (λ id h. absurd (none_some (sym (ap type_made is) ∙ h))) (sym (ap (λ (y : Location). y.key) same)) (sym (ap (λ (y : Location). y.content) same)))
  by_content o right (Scalar number) is l x e = (let same = one_is _ l x e in one_known o x right (λ id h. absurd (none_some (sym (ap type_made is) ∙ h))) (sym (ap (λ (y : Location). y.key) same)) (sym (ap (λ (y : Location). y.content) same)))
  by_content o right (Scalars number) is l x e = (let same = one_is _ l x e in one_known o x right (λ id h. absurd (none_some (sym (ap type_made is) ∙ h))) (sym (ap (λ (y : Location). y.key) same)) (sym (ap (λ (y : Location). y.content) same)))
  by_content o right (Typed id) is l x e =
      let m = get_mapped (located o.key o.content o.name) _ l x e in
      one_known o x right (λ other h. subst (λ (i : TypeId). IsSome (extent_in p.types (type_of p.types i.0))) (some_one (sym (ap type_made is) ∙ h)) (typed_complete id l m.0 m.1)) (sym (ap (λ (y : Location). y.key) m.2)) (sym (ap (λ (y : Location). y.content) m.2))
  by_content o right (Elements id) is l x e =
      let m = get_mapped (located o.key o.content o.name) _ l x e in
      one_known o x right (λ other h. subst (λ (i : TypeId). IsSome (extent_in p.types (type_of p.types i.0))) (some_one (sym (ap type_made is) ∙ h)) (typed_complete id l m.0 m.1)) (sym (ap (λ (y : Location). y.key) m.2)) (sym (ap (λ (y : Location). y.content) m.2))

  all_known : (os : List Object) → AllRight p os → (l : ℕ) (x : Location) → slice_get (flat_map (locations_of p.types) os) l ≡ Some x → IsKnown x
  all_known [] right l x e = absurd (none_some e)
  all_known (o ∷ os) right l x e =
      elim (of_either (locations_of p.types o) (flat_map (locations_of p.types) os) l x (sym (ap (λ (ls : List Location). slice_get ls l) (flat_map-cons (locations_of p.types) o os)) ∙ e)) [
        | inl h ↦ by_content o right.0 o.content refl h.0 x h.1
        | inr h ↦ all_known os right.1 h.0 x h.1
      ]

pub contents_known : ContentsKnown
unfolding locations_in
contents_known p l x made e = all_known p made (objects_of p) (objects_right p) l x e
