-- What the objects of entities are made of.
use Rattle.std.proofs.Common.{arith, ◌≡◌, ◌∙◌, ℕ, zero, suc, ◌+◌, Bool, true, false, cond, List, [], ◌∷◌, ◌++◌, map, Option, Some, None, slice_get, refl, sym, ap, subst}
use Rattle.std.specs.Prelude.{⊤}
use Rattle.std.specs.List.{flat_map}
use Rattle.std.specs.declared.cmp.Ordering.{Ordering}
use Rattle.std.specs.declared.cmp.Ordering.TheVariants.{Less, Equal, Greater}
use Rattle.std.specs.Ordering.{match_ordering}
use Rattle.std.specs.BTreeMap.{insert_entry}
use Rattle.c_types.specs.declared.key.ObjectKey.{ObjectKey}
use Rattle.c_types.specs.declared.key.ObjectKey.TheVariants.{Entity as EntityKey}
use Rattle.core_tree.specs.declared.node.Program.{Program}
use Rattle.core_tree.specs.declared.node.Node.{Node}
use Rattle.core_tree.specs.declared.node.Entity.{Entity}
use Rattle.core_tree.specs.declared.node.NodeKind.{NodeKind}
use Rattle.core_tree.specs.declared.node.NodeKind.TheVariants.{Text, CallNode}
use Rattle.core_tree.specs.declared.node.Storage.{Storage}
use Rattle.core_tree.specs.declared.node.Storage.TheVariants.{Declared}
use Rattle.obj_made.specs.declared.object.Content.{Content}
use Rattle.obj_made.specs.declared.object.Content.TheVariants.{Function, Blob, Scalar, Scalars, Typed, Elements}
use Rattle.obj_made.specs.declared.object.Object.{Object}
use Rattle.obj_made.specs.Uses.{is_allocator, is_named, is_starred, entity_number}
use Rattle.obj_made.specs.Made.{Spot, by_place, Made, in_order, entity_content, object_unless_declared, entity_object, made_at, entity_made, entities_made, called_object, called_entity, object_of_call, object_of_kind, node_object, node_made, nodes_made, spot_at, has_varargs, varargs_object, varargs_spot, varargs_made, made_of_names, made_in_order, objects_in}
use Rattle.obj_made.proofs.Ordered.{in_order-append}
use Rattle.obj_space.specs.declared.location.Location.{Location}
use Rattle.obj_space.specs.Objects.{functions_below, LibraryRow, library_rows, is_needed, library_object, library_objects_from, library_objects, takes_arguments, star_if, star_objects, outside_objects, library_part, objects_of}
use Rattle.obj_space.specs.Parts.{Part}
use Rattle.obj_space.specs.Space.{located, locations_by, locations_of, locations_in}

some_one : {X : Type 0} → {x y : X} → ◌≡◌ {A = Option X} (Some x) (Some y) → x ≡ y
some_one h = cc

none_some : {X : Type 0} → {x : X} → ◌≡◌ {A = Option X} None (Some x) → ⊥
none_some h = cc

-- the entity of that number, if the key is an entity's, decides the content
abbrev pub Fits : Program → ObjectKey → Content → Type 0
Fits p key content = (e : ℕ) → key ≡ EntityKey e → (x : Entity) × (slice_get p.entities.items e ≡ Some x) × (content ≡ entity_content x.storage x.ty)

abbrev ObjectFits : Program → Object → Type 0
ObjectFits p o = Fits p o.key o.content

abbrev AllFit : Program → Made → Type 0
AllFit p [] = ⊤
AllFit p (m ∷ rest) = ObjectFits p m.1 × AllFit p rest

abbrev EachFits : Program → List Object → Type 0
EachFits p [] = ⊤
EachFits p (o ∷ rest) = ObjectFits p o × EachFits p rest

abbrev LocationsFit : Program → List Location → Type 0
LocationsFit p [] = ⊤
LocationsFit p (y ∷ rest) = Fits p y.key y.content × LocationsFit p rest

module _ (p : Program) where
  put_by : (spot k : Spot) (object v : Object) (rest more : Made) (o : Ordering) → ObjectFits p object → ObjectFits p v → AllFit p rest → AllFit p more
      → AllFit p (match_ordering o ((spot, object) ∷ (k, v) ∷ rest) ((k, object) ∷ rest) ((k, v) ∷ more))
  put_by spot k object v rest more Less fit own h g = (fit, (own, h))
  put_by spot k object v rest more Equal fit own h g = (fit, h)
  put_by spot k object v rest more Greater fit own h g = (own, g)

  put : (spot : Spot) (object : Object) (made : Made) → ObjectFits p object → AllFit p made → AllFit p (insert_entry by_place made spot object)
  put spot object [] fit h = (fit, tt)
  put spot object ((k, v) ∷ rest) fit h = put_by spot k object v rest (insert_entry by_place rest spot object) (by_place spot k) fit h.0 h.1 (put spot object rest fit h.1)

  put_made : (spot : Spot) (o : Option Object) (done : Made) → ((object : Object) → o ≡ Some object → ObjectFits p object) → AllFit p done → AllFit p (in_order done (made_at spot o))
  put_made spot None done fit h = h
  put_made spot (Some object) done fit h = put spot object done (fit object refl) h

  unless : (storage : Storage) (made object : Object) → object_unless_declared storage made ≡ Some object → made ≡ object
  unless Declared made object e = absurd (none_some e)
  unless storage made object e = some_one e

  entity_fits : (k : ℕ) (x : Entity) → slice_get p.entities.items k ≡ Some x → (object : Object) → entity_object p k x ≡ Some object → ObjectFits p object
  entity_fits k x at object is = λ e key.
      let same = unless x.storage _ object is in
      let own : EntityKey k ≡ object.key = ap (λ (o : Object). o.key) same in
      let number : k ≡ e = (let both : EntityKey k ≡ EntityKey e = own ∙ key in cc) in
      (x, ap (slice_get p.entities.items) (sym number) ∙ at, sym (ap (λ (o : Object). o.content) same))

  entities_fit : (done : Made) (k : ℕ) (xs : List Entity) → ((i : ℕ) (x : Entity) → slice_get xs i ≡ Some x → slice_get p.entities.items (k + i) ≡ Some x) → AllFit p done → AllFit p (in_order done (entities_made p k xs))
  entities_fit done k [] there h = h
  entities_fit done k (x ∷ rest) there h =
      let here : k + 0 ≡ k = omega arith in
      let at : slice_get p.entities.items k ≡ Some x = ap (slice_get p.entities.items) (sym here) ∙ there 0 x refl in
      subst (AllFit p) (sym (in_order-append done (entity_made p k x) (entities_made p (k + 1) rest)))
      (entities_fit (in_order done (entity_made p k x)) (k + 1) rest
      (λ i y e. let next : (k + 1) + i ≡ k + suc i = omega arith in ap (slice_get p.entities.items) next ∙ there (suc i) y e)
      (put_made (spot_at x.place k) (entity_object p k x) done (entity_fits k x at) h))

  -- what nodes make has no entity's key
  allocated_fits : (n : ℕ) (node : Node) (k : ℕ) (name : List ℕ) (b : Bool) (made object : Object) → ((e : ℕ) → made.key ≡ EntityKey e → ⊥) → cond b (Some made) None ≡ Some object → ObjectFits p object
  allocated_fits n node k name true made object other is = λ e key. absurd (other e (ap (λ (o : Object). o.key) (some_one is) ∙ key))
  allocated_fits n node k name false made object other is = absurd (none_some is)

  called_fits : (n : ℕ) (node : Node) (entity : Entity) (o : Option ℕ) (object : Object) → called_object p n node entity o ≡ Some object → ObjectFits p object
  called_fits n node entity None object is = absurd (none_some is)
  called_fits n node entity (Some k) object is = allocated_fits n node k entity.name (is_allocator k) _ object (λ e key. cc) is

  call_fits : (n : ℕ) (node : Node) (o : Option Entity) (object : Object) → object_of_call p n node o ≡ Some object → ObjectFits p object
  call_fits n node None object is = absurd (none_some is)
  call_fits n node (Some entity) object is = called_fits n node entity (entity_number entity) object is

  kind_fits : (n : ℕ) (node : Node) (kind : NodeKind) (object : Object) → object_of_kind p n node kind ≡ Some object → ObjectFits p object
  kind_fits n node (Text bytes) object is = λ e key. absurd (let own = ap (λ (o : Object). o.key) (some_one is) ∙ key in cc)
  kind_fits n node CallNode object is = call_fits n node (called_entity p.nodes.items p.entities.items node) object is
  kind_fits n node kind object is = absurd (none_some is)

  nodes_fit : (done : Made) (n : ℕ) (xs : List Node) → AllFit p done → AllFit p (in_order done (nodes_made p n xs))
  nodes_fit done n [] h = h
  nodes_fit done n (x ∷ rest) h =
      subst (AllFit p) (sym (in_order-append done (node_made p n x) (nodes_made p (n + 1) rest)))
      (nodes_fit (in_order done (node_made p n x)) (n + 1) rest (put_made _ (node_object p n x) done (kind_fits n x x.kind) h))

  -- nor has what functions are passed past their parameters
  further_fits : (b : Bool) (made object : Object) → ((e : ℕ) → made.key ≡ EntityKey e → ⊥) → cond b (Some made) None ≡ Some object → ObjectFits p object
  further_fits true made object other is = λ e key. absurd (other e (ap (λ (o : Object). o.key) (some_one is) ∙ key))
  further_fits false made object other is = absurd (none_some is)

  further_fit : (done : Made) (k : ℕ) (xs : List Entity) → AllFit p done → AllFit p (in_order done (varargs_made p k xs))
  further_fit done k [] h = h
  further_fit done k (x ∷ rest) h =
      subst (AllFit p) (sym (in_order-append done (made_at (varargs_spot p k x) (varargs_object p k x)) (varargs_made p (k + 1) rest)))
      (further_fit (in_order done (made_at (varargs_spot p k x) (varargs_object p k x))) (k + 1) rest
      (put_made (varargs_spot p k x) (varargs_object p k x) done (λ object is. further_fits (has_varargs p.types x) _ object (λ e key. cc) is) h))

  both_fit : (xs ys : List Object) → EachFits p xs → EachFits p ys → EachFits p (xs ++ ys)
  both_fit [] ys h k = k
  both_fit (o ∷ xs) ys h k = (h.0, both_fit xs ys h.1 k)

  made_fit : (made : Made) → AllFit p made → EachFits p (objects_in made)
  made_fit [] h = tt
  made_fit (m ∷ rest) h = (h.0, made_fit rest h.1)

  -- nor has the library's
  one_if : (b : Bool) (object : Object) → ((e : ℕ) → object.key ≡ EntityKey e → ⊥) → EachFits p (cond b (object ∷ []) [])
  one_if true object other = ((λ e key. absurd (other e key)), tt)
  one_if false object other = tt

  functions_fit : (n : ℕ) → EachFits p (functions_below p n)
  unfolding functions_below
  functions_fit zero = tt
  functions_fit (suc n) = both_fit (functions_below p n) _ (functions_fit n) (one_if (is_named p.entities.items p.nodes.items n) _ (λ e key. cc))

  rows_fit : (named : ℕ → Bool) (arguments : Bool) (k : ℕ) (rows : List LibraryRow) → EachFits p (library_objects_from named arguments k rows)
  rows_fit named arguments k [] = tt
  rows_fit named arguments k (row ∷ rest) = both_fit (library_object named arguments k row) _ (one_if (is_needed named arguments row) _ (λ e key. cc)) (rows_fit named arguments (k + 1) rest)

  library_fit : (named : ℕ → Bool) (arguments : Bool) → EachFits p (library_objects named arguments)
  unfolding library_objects
  library_fit named arguments = rows_fit named arguments 0 library_rows

  star_fit : (b : Bool) (k : ℕ) → EachFits p (star_if b k)
  star_fit b k = one_if b _ (λ e key. cc)

  outside_fit : (entries : List ℕ) → EachFits p (outside_objects entries)
  outside_fit [] = tt
  outside_fit (e ∷ rest) = ((λ e key. cc), tt)

  objects_fit : EachFits p (objects_of p)
  objects_fit =
      let starred = is_starred p.entities.items p.nodes.items in
      both_fit (objects_in (made_in_order p)) (library_part p)
      (made_fit (made_in_order p) (further_fit (made_of_names p) 0 p.entities.items
      (nodes_fit (in_order [] (entities_made p 0 p.entities.items)) 0 p.nodes.items (entities_fit [] 0 p.entities.items (λ i x e. let none : 0 + i ≡ i = omega arith in ap (slice_get p.entities.items) none ∙ e) tt))))
      (both_fit (functions_below p 55) _ (functions_fit 55)
      (both_fit (library_objects (is_named p.entities.items p.nodes.items) (takes_arguments p)) _ (library_fit (is_named p.entities.items p.nodes.items) (takes_arguments p))
      (both_fit (star_objects p) (outside_objects p.entries.items)
      (both_fit (star_if (starred 0) 0) _ (star_fit (starred 0) 0) (both_fit (star_if (starred 1) 1) _ (star_fit (starred 1) 1) (both_fit (star_if (starred 2) 2) _ (star_fit (starred 2) 2) (star_fit (starred 21) 21))))
      (outside_fit p.entries.items))))

  -- their locations
  parts_fit : (object : Object) (ps : List Part) → ObjectFits p object → LocationsFit p (map (located object.key object.content object.name) ps)
  parts_fit object [] fit = tt
  parts_fit object (q ∷ ps) fit = (fit, parts_fit object ps fit)

  by_content : (object : Object) (content : Content) → ObjectFits p object → LocationsFit p (locations_by p.types object content)
  by_content object Function fit = (fit, tt)
  by_content object Blob fit = (fit, tt)
  by_content object (Scalar number) fit = (fit, tt)
  by_content object (Scalars number) fit = (fit, tt)
  by_content object (Typed id) fit = parts_fit object _ fit
  by_content object (Elements id) fit = parts_fit object _ fit

  more_fit : (xs ys : List Location) → LocationsFit p xs → LocationsFit p ys → LocationsFit p (xs ++ ys)
  more_fit [] ys h k = k
  more_fit (x ∷ xs) ys h k = (h.0, more_fit xs ys h.1 k)

  flat_fit : (os : List Object) → EachFits p os → LocationsFit p (flat_map (locations_of p.types) os)
  flat_fit [] h = tt
  flat_fit (o ∷ os) h = more_fit (locations_of p.types o) _ (by_content o o.content h.0) (flat_fit os h.1)

  fit_at : (space : List Location) (l : ℕ) (y : Location) → LocationsFit p space → slice_get space l ≡ Some y → Fits p y.key y.content
  fit_at [] l y h at = absurd (none_some at)
  fit_at (z ∷ space) zero y h at = subst (λ (w : Location). Fits p w.key w.content) (some_one at) h.0
  fit_at (z ∷ space) (suc l) y h at = fit_at space l y h.1 at

-- a location of an entity's object has the entity's content
pub content_of : (p : Program) (l : ℕ) (y : Location) → slice_get (locations_in p) l ≡ Some y → Fits p y.key y.content
unfolding locations_in
content_of p l y at = fit_at p (flat_map (locations_of p.types) (objects_of p)) l y (flat_fit p (objects_of p) (objects_fit p)) at
