-- A function of the library is one location, which stands behind those of the objects that tokens make.
use Rattle.std.proofs.Common.{arith, ◌≡◌, ◌∙◌, ◌⊎◌, inl, inr, ℕ, zero, suc, ◌+◌, ◌<◌, Bool, true, false, cond, List, [], ◌∷◌, ◌++◌, length, Option, Some, None, slice_get, refl, sym, ap, subst}
use Rattle.std.specs.List.{flat_map}
use Rattle.std.specs.declared.cmp.Ordering.{Ordering}
use Rattle.std.specs.declared.cmp.Ordering.TheVariants.{Less, Equal, Greater}
use Rattle.std.specs.Ordering.{match_ordering}
use Rattle.std.specs.BTreeMap.{insert_entry}
use Rattle.std.proofs.lemmas.List.Concat.{flat_map-cons, flat_map-append}
use Rattle.c_types.specs.declared.key.ObjectKey.{ObjectKey}
use Rattle.c_types.specs.declared.key.ObjectKey.TheVariants.{Entity as EntityKey, Text as TextKey, Call as CallKey, Library as LibraryKey, Star as StarKey, Function as FunctionKey, Varargs as VarargsKey, Outside as OutsideKey}
use Rattle.c_types.specs.Table.{Table}
use Rattle.c_types.specs.Made.{IsMade}
use Rattle.core_tree.specs.declared.node.Entity.{Entity}
use Rattle.core_tree.specs.declared.node.Node.{Node}
use Rattle.core_tree.specs.declared.node.NodeKind.{NodeKind}
use Rattle.core_tree.specs.declared.node.NodeKind.TheVariants.{Text, CallNode}
use Rattle.core_tree.specs.declared.node.Program.{Program}
use Rattle.core_tree.specs.declared.node.Storage.{Storage}
use Rattle.core_tree.specs.declared.node.Storage.TheVariants.{Static, Automatic, FunctionBody, Parameter, Declared}
use Rattle.obj_made.specs.declared.object.Content.{Content}
use Rattle.obj_made.specs.declared.object.Content.TheVariants.{Function, Blob, Scalar, Scalars, Typed, Elements}
use Rattle.obj_made.specs.declared.object.Object.{Object}
use Rattle.obj_made.specs.Uses.{entity_number, is_allocator, is_named, is_starred}
use Rattle.obj_made.specs.Made.{Made, Spot, by_place, in_order, made_at, spot_at, object_unless_declared, entity_made, entities_made, called_object, object_of_call, called_entity, object_of_kind, node_made, nodes_made, has_varargs, varargs_object, varargs_spot, varargs_made, made_of_names, made_in_order, objects_in}
use Rattle.obj_space.specs.declared.location.Location.{Location}
use Rattle.obj_space.specs.Objects.{LibraryRow, named_object, function_if, functions_below, library_rows, library_object, library_objects_from, library_objects, is_needed, star_if, star_objects, outside_objects, library_part, objects_of, takes_arguments}
use Rattle.obj_space.specs.Space.{located, locations_by, locations_of, locations_in, HasTrees}
use Rattle.obj_space.specs.View.{first_from}
use Rattle.obj_space.proofs.Placed.{get_mapped, all_placed}
use Rattle.obj_space.proofs.Small.{objects_small}
use Rattle.linked_laws.proofs.main_laws.Objects.{body_begins}
use Rattle.covered_runs.specs.covered_programs.allocation_laws.Spread.{AreSpaced, ObjectsSpaced}
use Rattle.covered_runs.proofs.covered_programs.allocation_laws.Marks.{none_some, some_one}
use Rattle.covered_runs.proofs.covered_programs.allocation_laws.Firsts.{first_item}

-- a token's object
abbrev IsToken : ObjectKey → Type 0
IsToken (EntityKey e) = Unit {0}
IsToken (TextKey n) = Unit {0}
IsToken (CallKey n) = Unit {0}
IsToken (VarargsKey e) = Unit {0}
IsToken key = ⊥

-- one of the library's, of which functions are made as functions
abbrev IsOfLibrary : ObjectKey → Content → Type 0
IsOfLibrary (FunctionKey k) content = content ≡ Function
IsOfLibrary (LibraryKey k) content = Unit {0}
IsOfLibrary (StarKey k) content = Unit {0}
IsOfLibrary OutsideKey content = Unit {0}
IsOfLibrary key content = ⊥

abbrev Tokens : Made → Type 0
Tokens [] = Unit {0}
Tokens (m ∷ rest) = IsToken m.1.key × Tokens rest

abbrev Each : (Object → Type 0) → List Object → Type 0
Each P [] = Unit {0}
Each P (o ∷ os) = P o × Each P os

abbrev IsTokens : Object → Type 0
IsTokens o = IsToken o.key

abbrev IsLibrarys : Object → Type 0
IsLibrarys o = IsOfLibrary o.key o.content

tokens_append : (a b : Made) → Tokens a → Tokens b → Tokens (a ++ b)
tokens_append [] b ha hb = hb
tokens_append (m ∷ a) b ha hb = (ha.0, tokens_append a b ha.1 hb)

picked : (o : Ordering) (a b c : Made) → Tokens a → Tokens b → Tokens c → Tokens (match_ordering o a b c)
picked Less a b c ha hb hc = ha
picked Equal a b c ha hb hc = hb
picked Greater a b c ha hb hc = hc

inserted : (done : Made) (k : Spot) (v : Object) → IsToken v.key → Tokens done → Tokens (insert_entry by_place done k v)
inserted [] k v h hd = (h, tt)
inserted (e ∷ es) k v h hd = picked (by_place k e.0) ((k, v) ∷ e ∷ es) ((e.0, v) ∷ es) (e ∷ insert_entry by_place es k v) (h, (hd.0, hd.1)) (h, hd.1) (hd.0, inserted es k v h hd.1)

ordered : (done ms : Made) → Tokens done → Tokens ms → Tokens (in_order done ms)
ordered done [] hd hm = hd
ordered done (m ∷ ms) hd hm = ordered (insert_entry by_place done m.0 m.1) ms (inserted done m.0 m.1 hm.0 hd) hm.1

unless_declared : (spot : Spot) (object : Object) (s : Storage) → IsToken object.key → Tokens (made_at spot (object_unless_declared s object))
unless_declared spot object Static h = (h, tt)
unless_declared spot object Automatic h = (h, tt)
unless_declared spot object FunctionBody h = (h, tt)
unless_declared spot object Parameter h = (h, tt)
unless_declared spot object Declared h = tt

module _ (p : Program) where
  entities_tokens : (e : ℕ) (es : List Entity) → Tokens (entities_made p e es)
  entities_tokens e [] = tt
  entities_tokens e (entity ∷ es) = tokens_append (entity_made p e entity) (entities_made p (e + 1) es) (unless_declared (spot_at entity.place e) _ entity.storage tt) (entities_tokens (e + 1) es)

  if_token : (spot : Spot) (b : Bool) (o : Object) → IsToken o.key → Tokens (made_at spot (let q : Option Object = cond b (Some o) None in q))
  if_token spot true o h = (h, tt)
  if_token spot false o h = tt

  module _ (spot : Spot) (n : ℕ) (node : Node) where
    called_token : (entity : Entity) (k : Option ℕ) → Tokens (made_at spot (called_object p n node entity k))
    called_token entity None = tt
    called_token entity (Some k) = if_token spot (is_allocator k) _ tt

    call_token : (o : Option Entity) → Tokens (made_at spot (object_of_call p n node o))
    call_token None = tt
    call_token (Some entity) = called_token entity (entity_number entity)

    kind_token : (kind : NodeKind) → Tokens (made_at spot (object_of_kind p n node kind))
    kind_token (Text bytes) = (tt, tt)
    kind_token CallNode = call_token (called_entity p.nodes.items p.entities.items node)
    kind_token kind = tt

  nodes_tokens : (n : ℕ) (ns : List Node) → Tokens (nodes_made p n ns)
  nodes_tokens n [] = tt
  nodes_tokens n (node ∷ ns) = tokens_append (node_made p n node) (nodes_made p (n + 1) ns) (kind_token (spot_at node.place (length p.entities.items + n)) n node node.kind) (nodes_tokens (n + 1) ns)

  further_tokens : (e : ℕ) (es : List Entity) → Tokens (varargs_made p e es)
  further_tokens e [] = tt
  further_tokens e (entity ∷ es) =
      tokens_append (made_at (varargs_spot p e entity) (varargs_object p e entity)) (varargs_made p (e + 1) es) (if_token (varargs_spot p e entity) (has_varargs p.types entity) _ tt) (further_tokens (e + 1) es)

  listed : (ms : Made) → Tokens ms → Each IsTokens (objects_in ms)
  listed [] h = tt
  listed (m ∷ ms) h = (h.0, listed ms h.1)

  made_tokens : Each IsTokens (objects_in (made_in_order p))
  made_tokens =
      listed (made_in_order p)
      (ordered (made_of_names p) (varargs_made p 0 p.entities.items)
      (ordered (in_order [] (entities_made p 0 p.entities.items)) (nodes_made p 0 p.nodes.items) (ordered [] (entities_made p 0 p.entities.items) tt (entities_tokens 0 p.entities.items)) (nodes_tokens 0 p.nodes.items))
      (further_tokens 0 p.entities.items))

  each_append : (a b : List Object) → Each IsLibrarys a → Each IsLibrarys b → Each IsLibrarys (a ++ b)
  each_append [] b ha hb = hb
  each_append (o ∷ a) b ha hb = (ha.0, each_append a b ha.1 hb)

  function_library : (b : Bool) (k : ℕ) → Each IsLibrarys (function_if b k)
  function_library true k = (refl, tt)
  function_library false k = tt

  functions_library : (k : ℕ) → Each IsLibrarys (functions_below p k)
  unfolding functions_below
  functions_library zero = tt
  functions_library (suc k) = each_append (functions_below p k) _ (functions_library k) (function_library (is_named p.entities.items p.nodes.items k) k)

  row_library : (b : Bool) (k : ℕ) (row : LibraryRow) → Each IsLibrarys (let os : List Object = cond b (named_object (LibraryKey k) row.name row.content ∷ []) [] in os)
  row_library true k row = (tt, tt)
  row_library false k row = tt

  rows_library : (named : ℕ → Bool) (arguments : Bool) (k : ℕ) (rows : List LibraryRow) → Each IsLibrarys (library_objects_from named arguments k rows)
  rows_library named arguments k [] = tt
  rows_library named arguments k (row ∷ rows) =
      each_append (library_object named arguments k row) (library_objects_from named arguments (k + 1) rows) (row_library (is_needed named arguments row) k row) (rows_library named arguments (k + 1) rows)

  objects_library : (named : ℕ → Bool) (arguments : Bool) → Each IsLibrarys (library_objects named arguments)
  unfolding library_objects
  objects_library named arguments = rows_library named arguments 0 library_rows

  star_library : (b : Bool) (k : ℕ) → Each IsLibrarys (star_if b k)
  star_library true k = (tt, tt)
  star_library false k = tt

  stars_library : Each IsLibrarys (star_objects p)
  stars_library =
      let s = λ (k : ℕ). star_library (is_starred p.entities.items p.nodes.items k) k in
      each_append _ _ (s 0) (each_append _ _ (s 1) (each_append _ _ (s 2) (s 21)))

  outside_library : (entries : List ℕ) → Each IsLibrarys (outside_objects entries)
  outside_library [] = tt
  outside_library (e ∷ rest) = (tt, tt)

  part_library : Each IsLibrarys (library_part p)
  part_library =
      each_append (functions_below p 55) _ (functions_library 55)
      (each_append (library_objects (is_named p.entities.items p.nodes.items) (takes_arguments p)) _ (objects_library (is_named p.entities.items p.nodes.items) (takes_arguments p))
      (each_append (star_objects p) (outside_objects p.entries.items) stars_library (outside_library p.entries.items)))

-- Locations of objects.

of_either : {X : Type 0} (xs ys : List X) (l : ℕ) (x : X) → slice_get (xs ++ ys) l ≡ Some x → ((k : ℕ) × (slice_get xs k ≡ Some x)) ⊎ ((k : ℕ) × (slice_get ys k ≡ Some x))
of_either [] ys l x e = inr (l, e)
of_either (a ∷ xs) ys zero x e = inl (0, e)
of_either (a ∷ xs) ys (suc l) x e = elim (of_either xs ys l x e) [ inl h ↦ inl (suc h.0, h.1) | inr h ↦ inr h ]

one_is : {X : Type 0} (a : X) (l : ℕ) (x : X) → slice_get (a ∷ []) l ≡ Some x → a ≡ x
one_is a zero x e = some_one e
one_is a (suc l) x e = absurd (none_some e)

module _ (table : Table) where
  -- a location is its object's, and that of a function's object has no structure's type
  record IsLocationOf (o : Object) (x : Location) : Type 0 where
    key : x.key ≡ o.key
    function : o.content ≡ Function → (x.ty ≡ 5) × (x.collapsed ≡ false)

  by_content : (o : Object) (content : Content) → o.content ≡ content → (l : ℕ) (x : Location) → slice_get (locations_by table o content) l ≡ Some x → IsLocationOf o x
  by_content o Function is l x e =
      (let same = one_is _ l x e in record { key = ap (λ (y : Location). y.key) (sym same); function = λ h. (ap (λ (y : Location). y.ty) (sym same), ap (λ (y : Location). y.collapsed) (sym same)) })
  by_content o Blob is l x e = (let same = one_is _ l x e in record { key = ap (λ (y : Location). y.key) (sym same); function = λ h. (let bad : Blob ≡ Function = sym is ∙ h in cc) })
  by_content o (Scalar number) is l x e = (let same = one_is _ l x e in record { key = ap (λ (y : Location). y.key) (sym same); function = λ h. (let bad : Scalar number ≡ Function = sym is ∙ h in cc) })
  by_content o (Scalars number) is l x e = (let same = one_is _ l x e in record { key = ap (λ (y : Location). y.key) (sym same); function = λ h. (let bad : Scalars number ≡ Function = sym is ∙ h in cc) })
  by_content o (Typed id) is l x e =
      let m = get_mapped (located o.key o.content o.name) _ l x e in
      record { key = ap (λ (y : Location). y.key) (sym m.2); function = λ h. (let bad : Typed id ≡ Function = sym is ∙ h in cc) }
  by_content o (Elements id) is l x e =
      let m = get_mapped (located o.key o.content o.name) _ l x e in
      record { key = ap (λ (y : Location). y.key) (sym m.2); function = λ h. (let bad : Elements id ≡ Function = sym is ∙ h in cc) }

  -- the object of a location
  object_there : (P : Object → Type 0) (os : List Object) → Each P os → (l : ℕ) (x : Location) → slice_get (flat_map (locations_of table) os) l ≡ Some x → (o : Object) × P o × IsLocationOf o x
  object_there P [] each l x e = absurd (none_some e)
  object_there P (o ∷ os) each l x e =
      elim (of_either (locations_of table o) (flat_map (locations_of table) os) l x (sym (ap (λ (ls : List Location). slice_get ls l) (flat_map-cons (locations_of table) o os)) ∙ e)) [
        | inl h ↦ (o, each.0, by_content o o.content refl h.0 x h.1)
        | inr h ↦ object_there P os each.1 h.0 x h.1
      ]

module _ (p : Program) (made : IsMade p.types) where
  abbrev front : List Location
  front = flat_map (locations_of p.types) (objects_in (made_in_order p))

  abbrev back : List Location
  back = flat_map (locations_of p.types) (library_part p)

  both : locations_in p ≡ front ++ back
  unfolding locations_in
  both = flat_map-append (locations_of p.types) (objects_in (made_in_order p)) (library_part p)

  trees : HasTrees p.types (locations_in p)
  unfolding locations_in
  trees = all_placed p.types made (objects_of p) (objects_small p)

  in_front : (l k : ℕ) (x : Location) → slice_get front l ≡ Some x → x.key ≡ FunctionKey k → ⊥
  in_front l k x at key = let o = object_there p.types IsTokens (objects_in (made_in_order p)) (made_tokens p) l x at in subst IsToken (sym o.2.key ∙ key) o.1

  in_back : (l e : ℕ) (x : Location) → slice_get back l ≡ Some x → x.key ≡ EntityKey e → ⊥
  in_back l e x at key = let o = object_there p.types IsLibrarys (library_part p) (part_library p) l x at in subst (λ (q : ObjectKey). IsOfLibrary q o.0.content) (sym o.2.key ∙ key) o.1

  functions : (l k : ℕ) (x : Location) → slice_get (locations_in p) l ≡ Some x → x.key ≡ FunctionKey k → (x.ty ≡ 5) × (x.collapsed ≡ false)
  functions l k x at key = elim (of_either front back l x (ap (λ (ls : List Location). slice_get ls l) (sym both) ∙ at)) [
    | inl h ↦ absurd (in_front h.0 k x h.1 key)
    | inr h ↦
        (let o = object_there p.types IsLibrarys (library_part p) (part_library p) h.0 x h.1 in
        o.2.function (subst (λ (q : ObjectKey). IsOfLibrary q o.0.content) (sym o.2.key ∙ key) o.1))
  ]

  module _ (e : ℕ) (body : Entity) (there : slice_get p.entities.items e ≡ Some body) (storage : body.storage ≡ FunctionBody) where
    some_front : (ls : List Location) (l k : ℕ) (x y : Location) → slice_get ls l ≡ Some y → slice_get (ls ++ back) 0 ≡ Some x → ((j : ℕ) (z : Location) → slice_get ls j ≡ Some z → z.key ≡ FunctionKey k → ⊥) → x.key ≡ FunctionKey k → ⊥
    some_front [] l k x y at first none key = none_some at
    some_front (z ∷ ls) l k x y at first none key = none 0 x first key

    after : (k l : ℕ) → first_from 0 (locations_in p) (FunctionKey k) ≡ Some l → 0 < l
    after k (suc l) h = omega arith
    after k zero h =
        let x = first_item (locations_in p) (FunctionKey k) 0 h in
        let begin = body_begins p e body there storage in
        let main = first_item (locations_in p) (EntityKey e) begin.0 begin.1 in
        absurd (elim (of_either front back begin.0 main.0 (ap (λ (ls : List Location). slice_get ls begin.0) (sym both) ∙ main.1)) [
          | inl m ↦ some_front front m.0 k x.0 main.0 m.1 (ap (λ (ls : List Location). slice_get ls 0) (sym both) ∙ x.1) (λ j z at key. in_front j k z at key) x.2
          | inr m ↦ in_back m.0 e main.0 m.1 main.2
        ])

    spaced_of : AreSpaced p (locations_in p)
    spaced_of = record { trees = trees; functions = functions; after = after }

pub objects_spaced : ObjectsSpaced
objects_spaced p e body made there storage = spaced_of p made e body there storage
