-- The functions of the library that programs which are one name, and their locations.
use Rattle.std.proofs.Common.{arith, ◌≡◌, ◌∙◌, ◌+◌, ◌<◌, ℕ, suc, Bool, true, false, cond, List, [], ◌∷◌, ◌++◌, length, Option, Some, None, refl, sym, ap, subst, inl, inr}
use Rattle.std.specs.Prelude.{⊤, if◌then◌else◌, find, nat_eq, ◌&&◌, ◌==◌}
use Rattle.std.specs.List.{slice_get}
use Rattle.std.specs.Option.{option_map, option_map_or}
use Rattle.std.specs.Str.{bytes_eq}
use Rattle.std.specs.Cmp.Lexicographic.{bytes_decides}
use Rattle.std.specs.declared.cmp.Ordering.{Ordering}
use Rattle.std.specs.declared.cmp.Ordering.TheVariants.{Less, Equal, Greater}
use Rattle.std.specs.Ordering.{match_ordering}
use Rattle.std.specs.BTreeMap.{insert_entry}
use Rattle.std.proofs.lemmas.Bool.{cases_Bool, eqb-true, eq-eqb, false≢true}
use Rattle.std.proofs.lemmas.Option.{slice_get_within}
use Rattle.c_types.specs.declared.key.ObjectKey.{ObjectKey}
use Rattle.c_types.specs.declared.key.ObjectKey.TheVariants.{Entity as EntityKey, Text as TextKey, Call as CallKey, Library as LibraryKey, Star as StarKey, Function as FunctionKey}
use Rattle.c_types.specs.declared.key.ObjectKey.TheVariants.{Varargs as VarargsKey, Outside as OutsideKey}
use Rattle.c_types.specs.Trees.{Ctype}
use Rattle.c_types.specs.Table.{Table, type_of}
use Rattle.core_tree.specs.declared.node.Node.{Node}
use Rattle.core_tree.specs.declared.node.NodeKind.{NodeKind}
use Rattle.core_tree.specs.declared.node.NodeKind.TheVariants.{Text, CallNode}
use Rattle.core_tree.specs.declared.node.Entity.{Entity}
use Rattle.core_tree.specs.declared.node.Linkage.{Linkage}
use Rattle.core_tree.specs.declared.node.Linkage.TheVariants.{External}
use Rattle.core_tree.specs.declared.node.Storage.{Storage}
use Rattle.core_tree.specs.declared.node.Storage.TheVariants.{Static, Automatic, FunctionBody, Parameter, Declared}
use Rattle.core_tree.specs.declared.node.Program.{Program}
use Rattle.core_tree.specs.Valid.{IsLocal}
use Rattle.link_names.specs.Externals.{IsExternal}
use Rattle.lib_summaries.specs.Table.{Row, Numbered, rows, find_from, summary_of, name_among}
use Rattle.obj_made.specs.declared.object.Content.{Content}
use Rattle.obj_made.specs.declared.object.Content.TheVariants.{Function, Blob, Scalar, Scalars, Typed, Elements}
use Rattle.obj_made.specs.declared.object.Object.{Object}
use Rattle.obj_made.specs.Uses.{entity_number, is_allocator}
use Rattle.obj_made.specs.Made.{Spot, by_place, Made, in_order, object_unless_declared, entity_object, made_at, entities_made, called_object, object_of_call, called_entity, object_of_kind, node_object, nodes_made, made_in_order, objects_in, has_varargs, varargs_object, varargs_spot, varargs_made, made_of_names}
use Rattle.obj_made.specs.Spelling.{varargs_name}
use Rattle.obj_space.specs.declared.location.Location.{Location}
use Rattle.obj_space.specs.Parts.{parts_of}
use Rattle.obj_space.specs.Found.{same_object, kind_of, number_of}
use Rattle.obj_space.specs.View.{first_from}
use Rattle.obj_space.specs.Objects.{library_part, objects_of}
use Rattle.obj_space.specs.Space.{located, locations_by, locations_of, locations_in, IsKnown}
use Rattle.row_numbers.specs.Objects.{is_open, library_number, is_library, library_id}
use Rattle.row_numbers.specs.Functions.{type_or_void}
use Rattle.link_model.specs.Renamed.{renamed}
use Rattle.twin_report_laws.specs.outcome_laws.twin_programs.One.{Numbers, SameEntity, LeadsTo}
use Rattle.twin_report_laws.proofs.outcome_laws.twin_words.Sums.{some_one, none_some}
use Rattle.twin_report_laws.proofs.outcome_laws.twin_words.Members.{Member, at_member, member_at, member_split, member_right, member_map, member_flat, flat_member, find_member, find_some}
use Rattle.twin_report_laws.proofs.outcome_laws.twin_words.Locations.{AllKnown, library_part_known, library_same}

-- ---- first locations
-- the location where an object begins
pub record Begins (space : List Location) (key : ObjectKey) (n l : ℕ) : Type 0 where
  pub at : ℕ
  pub place : l ≡ n + at
  pub location : Location
  pub there : slice_get space at ≡ Some location
  pub key_is : location.key ≡ key

kinds_one : (a b : ObjectKey) → kind_of a ≡ kind_of b → number_of a ≡ number_of b → a ≡ b
kinds_one (EntityKey e) (EntityKey f) k n = ap EntityKey n
kinds_one (TextKey e) (TextKey f) k n = ap TextKey n
kinds_one (CallKey e) (CallKey f) k n = ap CallKey n
kinds_one (LibraryKey e) (LibraryKey f) k n = ap LibraryKey n
kinds_one (StarKey e) (StarKey f) k n = ap StarKey n
kinds_one (VarargsKey e) (VarargsKey f) k n = ap VarargsKey n
kinds_one (FunctionKey e) (FunctionKey f) k n = ap FunctionKey n
kinds_one OutsideKey OutsideKey k n = refl
kinds_one a b k n = absurd (omega (arith, k))

both_true : (a b : Bool) → (a && b) ≡ true → (a ≡ true) × (b ≡ true)
both_true true b h = (refl, h)
both_true false b h = absurd (false≢true h)

same_is : (a b : ObjectKey) → same_object a b ≡ true → a ≡ b
same_is a b h =
    let parts = both_true (nat_eq (kind_of a) (kind_of b)) (nat_eq (number_of a) (number_of b)) h in
    kinds_one a b (eqb-true (kind_of a) (kind_of b) parts.0) (eqb-true (number_of a) (number_of b) parts.1)

same_self : (a b : ObjectKey) → a ≡ b → same_object a b ≡ true
same_self a b e = ap (λ (c : ObjectKey). same_object a c) (sym e) ∙ (ap (λ x. x && nat_eq (number_of a) (number_of a)) (eq-eqb (kind_of a) (kind_of a) refl) ∙ eq-eqb (number_of a) (number_of a) refl)

pub begins : (space : List Location) (key : ObjectKey) (n l : ℕ) → first_from n space key ≡ Some l → Begins space key n l
begins [] key n l h = absurd (none_some h)
begins (x ∷ rest) key n l h = elim (cases_Bool (same_object x.key key)) [
  | inl its ↦
      let same = some_one (sym (ap (λ b. cond b (Some n) (first_from (n + 1) rest key)) its) ∙ h) in
      record { at = 0; place = omega (arith, same); location = x; there = refl; key_is = same_is x.key key its }
  | inr isnt ↦
      let later = begins rest key (n + 1) l (sym (ap (λ b. cond b (Some n) (first_from (n + 1) rest key)) isnt) ∙ h) in
      let place = later.place in
      record { at = suc later.at; place = omega (arith, place); location = later.location; there = later.there; key_is = later.key_is }
]

pub first_some : (space : List Location) (y : Location) (key : ObjectKey) (n : ℕ) → Member space y → y.key ≡ key → (l : ℕ) × (first_from n space key ≡ Some l)
first_some [] y key n h own = absurd h
first_some (x ∷ rest) y key n (inl same) own = (n, ap (λ b. cond b (Some n) (first_from (n + 1) rest key)) (same_self x.key key (ap (λ (z : Location). z.key) same ∙ own)))
first_some (x ∷ rest) y key n (inr h) own = by (same_object x.key key) (first_some rest y key (n + 1) h own)
  where
    by : (b : Bool) → (l : ℕ) × (first_from (n + 1) rest key ≡ Some l) → (l : ℕ) × (cond b (Some n) (first_from (n + 1) rest key) ≡ Some l)
    by true r = (n, refl)
    by false r = r

pub one_object : (space : List Location) (l : ℕ) (a b : ObjectKey) → first_from 0 space a ≡ Some l → first_from 0 space b ≡ Some l → a ≡ b
one_object space l a b h k =
    let f = begins space a 0 l h in
    let g = begins space b 0 l k in
    let fp = f.place in
    let gp = g.place in
    let same : f.at ≡ g.at = omega (arith, fp, gp) in
    sym f.key_is ∙ (ap (λ (z : Location). z.key) (some_one (sym f.there ∙ (ap (slice_get space) same ∙ g.there))) ∙ g.key_is)

pub first_below : (space : List Location) (l : ℕ) (key : ObjectKey) → first_from 0 space key ≡ Some l → l < length space
first_below space l key h =
    let f = begins space key 0 l h in
    let place = f.place in
    let lt = slice_get_within space f.at f.location f.there in
    omega (arith, place, lt)

-- ---- what tokens make is no function of the library
abbrev pub IsOwn : ObjectKey → Type 0
IsOwn (FunctionKey k) = ⊥
IsOwn key = ⊤

abbrev pub AllOwn : Made → Type 0
AllOwn [] = ⊤
AllOwn (m ∷ rest) = IsOwn m.1.key × AllOwn rest

put_own : (spot : Spot) (o : Object) (done : Made) → IsOwn o.key → AllOwn done → AllOwn (insert_entry by_place done spot o)
put_own spot o [] own h = (own, tt)
put_own spot o (m ∷ rest) own h = by (by_place spot m.0) (put_own spot o rest own h.1)
  where
    by : (q : Ordering) → AllOwn (insert_entry by_place rest spot o) → AllOwn (match_ordering q ((spot, o) ∷ m ∷ rest) ((m.0, o) ∷ rest) (m ∷ insert_entry by_place rest spot o))
    by Less later = (own, h)
    by Equal later = (own, h.1)
    by Greater later = (h.0, later)

in_order_own : (done more : Made) → AllOwn done → AllOwn more → AllOwn (in_order done more)
in_order_own done [] h k = h
in_order_own done (m ∷ rest) h k = in_order_own (insert_entry by_place done m.0 m.1) rest (put_own m.0 m.1 done k.0 h) k.1

own_append : (a b : Made) → AllOwn a → AllOwn b → AllOwn (a ++ b)
own_append [] b h k = k
own_append (m ∷ a) b h k = (h.0, own_append a b h.1 k)

abbrev OwnIf : Option Object → Type 0
OwnIf None = ⊤
OwnIf (Some o) = IsOwn o.key

made_own : (spot : Spot) (o : Option Object) → OwnIf o → AllOwn (made_at spot o)
made_own spot None h = tt
made_own spot (Some o) h = (h, tt)

unless_own : (storage : Storage) (o : Object) → IsOwn o.key → OwnIf (object_unless_declared storage o)
unless_own Declared o h = tt
unless_own Static o h = h
unless_own Automatic o h = h
unless_own FunctionBody o h = h
unless_own Parameter o h = h

own_if : (b : Bool) (o : Object) → IsOwn o.key → OwnIf (if b then Some o else None)
own_if true o h = h
own_if false o h = tt

module _ (p : Program) where
  entities_own : (k : ℕ) (xs : List Entity) → AllOwn (entities_made p k xs)
  entities_own k [] = tt
  entities_own k (x ∷ rest) = own_append _ (entities_made p (k + 1) rest) (made_own _ (entity_object p k x) (unless_own x.storage _ tt)) (entities_own (k + 1) rest)

  call_own : (n : ℕ) (x : Node) (e : Entity) (o : Option ℕ) → OwnIf (called_object p n x e o)
  call_own n x e None = tt
  call_own n x e (Some k) = own_if (is_allocator k) _ tt

  of_call_own : (n : ℕ) (x : Node) (o : Option Entity) → OwnIf (object_of_call p n x o)
  of_call_own n x None = tt
  of_call_own n x (Some e) = call_own n x e (entity_number e)

  kind_own : (n : ℕ) (x : Node) (kind : NodeKind) → OwnIf (object_of_kind p n x kind)
  kind_own n x (Text bytes) = tt
  kind_own n x CallNode = of_call_own n x (called_entity p.nodes.items p.entities.items x)
  kind_own n x kind = tt

  nodes_own : (n : ℕ) (xs : List Node) → AllOwn (nodes_made p n xs)
  nodes_own n [] = tt
  nodes_own n (x ∷ rest) = own_append _ (nodes_made p (n + 1) rest) (made_own _ (node_object p n x) (kind_own n x x.kind)) (nodes_own (n + 1) rest)

  further_own : (k : ℕ) (xs : List Entity) → AllOwn (varargs_made p k xs)
  further_own k [] = tt
  further_own k (x ∷ rest) =
      own_append (made_at (varargs_spot p k x) (varargs_object p k x)) (varargs_made p (k + 1) rest)
      (made_own (varargs_spot p k x) (varargs_object p k x) (own_if (has_varargs p.types x) (record { key = VarargsKey k; name = varargs_name p.names.items x; content = Blob }) tt)) (further_own (k + 1) rest)

  pub all_own : AllOwn (made_in_order p)
  all_own =
      in_order_own (made_of_names p) (varargs_made p 0 p.entities.items)
      (in_order_own (in_order [] (entities_made p 0 p.entities.items)) (nodes_made p 0 p.nodes.items) (in_order_own [] (entities_made p 0 p.entities.items) tt (entities_own 0 p.entities.items)) (nodes_own 0 p.nodes.items))
      (further_own 0 p.entities.items)

  pub member_own : (made : Made) (o : Object) → AllOwn made → Member (objects_in made) o → IsOwn o.key
  member_own [] o h m = absurd m
  member_own (a ∷ rest) o h (inl same) = subst (λ (z : Object). IsOwn z.key) same h.0
  member_own (a ∷ rest) o h (inr m) = member_own rest o h.1 m

-- ---- locations of functions of the library
pub location_key : (table : Table) (o : Object) (content : Content) (y : Location) → Member (locations_by table o content) y → y.key ≡ o.key
location_key table o Function y (inl same) = ap (λ (z : Location). z.key) (sym same)
location_key table o Function y (inr h) = absurd h
location_key table o Blob y (inl same) = ap (λ (z : Location). z.key) (sym same)
location_key table o Blob y (inr h) = absurd h
location_key table o (Scalar number) y (inl same) = ap (λ (z : Location). z.key) (sym same)
location_key table o (Scalar number) y (inr h) = absurd h
location_key table o (Scalars number) y (inl same) = ap (λ (z : Location). z.key) (sym same)
location_key table o (Scalars number) y (inr h) = absurd h
location_key table o (Typed id) y h = (let (part, there, same) = member_map (located o.key o.content o.name) (parts_of table (type_of table id.0)) y h in ap (λ (z : Location). z.key) (sym same))
location_key table o (Elements id) y h = (let (part, there, same) = member_map (located o.key o.content o.name) (parts_of table (type_of table id.0)) y h in ap (λ (z : Location). z.key) (sym same))

known_location : (table : Table) (o : Object) (content : Content) → IsKnown content → (y : Location) × Member (locations_by table o content) y × (y.key ≡ o.key)
known_location table o Function h = (_, inl refl, refl)
known_location table o Blob h = (_, inl refl, refl)
known_location table o (Scalar number) h = (_, inl refl, refl)
known_location table o (Scalars number) h = (_, inl refl, refl)
known_location table o (Typed id) h = absurd h
known_location table o (Elements id) h = absurd h

member_known : (os : List Object) (o : Object) → AllKnown os → Member os o → IsKnown o.content
member_known [] o h m = absurd m
member_known (a ∷ rest) o h (inl same) = subst (λ (z : Object). IsKnown z.content) same h.0
member_known (a ∷ rest) o h (inr m) = member_known rest o h.1 m

module _ (p q : Program) (to back : Numbers) (l : LeadsTo p q to back) (r : LeadsTo q p back to) where
  pub library_begins : (k i : ℕ) → first_from 0 (locations_in p) (FunctionKey k) ≡ Some i → (j : ℕ) × (first_from 0 (locations_in q) (FunctionKey k) ≡ Some j)
  unfolding locations_in
  library_begins k i h =
      let f = begins (locations_in p) (FunctionKey k) 0 i h in
      let (o, there, at) = member_flat (locations_of p.types) (objects_of p) f.location (member_at (locations_in p) f.at f.location f.there) in
      let key : o.key ≡ FunctionKey k = sym (location_key p.types o o.content f.location at) ∙ f.key_is in
      let own : Member (library_part p) o = elim (member_split (objects_in (made_in_order p)) (library_part p) o there) [
        | inl made ↦ absurd (subst IsOwn key (member_own p (made_in_order p) o (all_own p) made))
        | inr library ↦ library
      ] in
      let other : Member (library_part q) o = subst (λ (os : List Object). Member os o) (sym (library_same p q to back l r)) own in
      let (y, y_at, y_key) = known_location q.types o o.content (member_known (library_part p) o (library_part_known p) own) in
      first_some (locations_in q) y (FunctionKey k) 0 (flat_member (locations_of q.types) (objects_of q) o y (member_right (objects_in (made_in_order q)) (library_part q) o other) y_at) (y_key ∙ key)

-- ---- names of the library by their numbers
found_name : (n : ℕ) (table : List Row) (name : List ℕ) (found : Numbered) → find_from n table name ≡ Some found → (k : ℕ) × (found.number ≡ n + k) × (name_among table k ≡ Some name)
found_name n [] name found h = absurd (none_some h)
found_name n (x ∷ rest) name found h = elim (cases_Bool (bytes_eq x.name name)) [
  | inl its ↦
      let same = some_one (sym (ap (λ b. cond b (Some (record { number = n; row = x })) (find_from (n + 1) rest name)) its) ∙ h) in
      let number : n ≡ found.number = ap (λ (z : Numbered). z.number) same in
      (0, omega (arith, number), ap (λ (z : List ℕ). Some z) ((bytes_decides x.name name).0 its))
  | inr isnt ↦
      let (k, number, at) = found_name (n + 1) rest name found (sym (ap (λ b. cond b (Some (record { number = n; row = x })) (find_from (n + 1) rest name)) isnt) ∙ h) in
      (suc k, omega (arith, number), at)
]

pub one_name : (a b : List ℕ) (x y : Numbered) → summary_of a ≡ Some x → summary_of b ≡ Some y → x.number ≡ y.number → a ≡ b
unfolding summary_of
one_name a b x y h k same =
    let (i, i_is, i_at) = found_name 0 rows a x h in
    let (j, j_is, j_at) = found_name 0 rows b y k in
    let one : i ≡ j = omega (arith, i_is, j_is, same) in
    some_one (sym i_at ∙ (ap (name_among rows) one ∙ j_at))

-- an entity is the library name of a number
pub record IsLibraryName (k : ℕ) (x : Entity) : Type 0 where
  pub linkage : x.linkage ≡ External
  pub storage : x.storage ≡ Declared
  pub found : Numbered
  pub summary : summary_of x.name ≡ Some found
  pub number : found.number ≡ k

open_view : (linkage : Linkage) (storage : Storage) → is_open linkage storage ≡ true → (linkage ≡ External) × (storage ≡ Declared)
open_view External Declared h = (refl, refl)
open_view linkage storage h = absurd (false≢true h)

equal_number : (k : ℕ) (o : Option ℕ) → option_map_or (λ found. found == k) o false ≡ true → o ≡ Some k
equal_number k None h = absurd (false≢true h)
equal_number k (Some n) h = ap Some (eqb-true n k h)

mapped_number : (o : Option Numbered) (k : ℕ) → option_map (λ found. found.number) o ≡ Some k → (found : Numbered) × (o ≡ Some found) × (found.number ≡ k)
mapped_number None k h = absurd (none_some h)
mapped_number (Some found) k h = (found, refl, some_one h)

pub library_view : (k : ℕ) (x : Entity) → is_library k x ≡ true → IsLibraryName k x
library_view k x h = by (is_open x.linkage x.storage) refl (equal_number k (library_number x) h)
  where
    by : (b : Bool) → is_open x.linkage x.storage ≡ b → (if b then option_map (λ found. found.number) (summary_of x.name) else None) ≡ Some k → IsLibraryName k x
    by true e f =
        let (linkage, storage) = open_view x.linkage x.storage e in
        let (found, summary, number) = mapped_number (summary_of x.name) k f in
        record { linkage = linkage; storage = storage; found = found; summary = summary; number = number }
    by false e f = absurd (none_some f)

pub library_external : (k : ℕ) (x : Entity) → IsLibraryName k x → IsExternal x
library_external k x h = record { linkage = h.linkage; lasting = λ s. declared_lasts x.storage h.storage s }
  where
    declared_lasts : (storage : Storage) → storage ≡ Declared → IsLocal storage → ⊥
    declared_lasts Automatic e s = absurd (cc)
    declared_lasts Parameter e s = absurd (cc)
    declared_lasts storage e s = s

module _ (p q : Program) (to back : Numbers) (l : LeadsTo p q to back) (r : LeadsTo q p back to) (k : ℕ) where
  library_kept : (x y : Entity) → SameEntity p.types q.types to x y → is_library k y ≡ is_library k x
  library_kept x y s =
      ap (λ (g : Linkage). option_map_or (λ found. found == k) (if is_open g y.storage then option_map (λ found. found.number) (summary_of y.name) else None) false) s.linkage
      ∙ (ap (λ (g : Storage). option_map_or (λ found. found == k) (if is_open x.linkage g then option_map (λ found. found.number) (summary_of y.name) else None) false) s.storage
      ∙ ap (λ (g : List ℕ). option_map_or (λ found. found == k) (if is_open x.linkage x.storage then option_map (λ found. found.number) (summary_of g) else None) false) s.name)

  find_there : (x : Entity) → find (is_library k) p.entities.items ≡ Some x → (z : Entity) × (find (is_library k) q.entities.items ≡ Some z) × (type_of q.types z.ty.0 ≡ renamed to.tag (type_of p.types x.ty.0))
  find_there x h =
      let (m, is) = find_member (is_library k) p.entities.items x h in
      let (e, at) = at_member p.entities.items x m in
      let (y, there, same) = l.entities e x at in
      let other : is_library k y ≡ true = library_kept x y same ∙ is in
      let (z, found) = find_some (is_library k) q.entities.items y (member_at q.entities.items (to.entity e) y there) other in
      let (z_member, z_is) = find_member (is_library k) q.entities.items z found in
      let (f, z_at) = at_member q.entities.items z z_member in
      let a = library_view k y other in
      let b = library_view k z z_is in
      let names : z.name ≡ y.name = one_name z.name y.name b.found a.found b.summary a.summary (b.number ∙ sym a.number) in
      let number : f ≡ to.entity e = r.external f (to.entity e) z y z_at there (library_external k z b) (library_external k y a) names in
      let one : z ≡ y = some_one (sym z_at ∙ (ap (slice_get q.entities.items) number ∙ there)) in
      (z, found, ap (λ (w : Entity). type_of q.types w.ty.0) one ∙ same.type)

-- a library name's declared type
abbrev typed : Table → Option Entity → Ctype
typed table o = type_or_void table (option_map (λ (x : Entity). x.ty) o)

module _ (p q : Program) (to back : Numbers) (l : LeadsTo p q to back) (r : LeadsTo q p back to) (k : ℕ) where
  pub library_type : type_or_void q.types (library_id k q.entities.items) ≡ renamed to.tag (type_or_void p.types (library_id k p.entities.items))
  library_type = by (find (is_library k) p.entities.items) refl
    where
      nothing : (o : Option Entity) → find (is_library k) q.entities.items ≡ o → find (is_library k) p.entities.items ≡ None → find (is_library k) q.entities.items ≡ None
      nothing None e f = e
      nothing (Some z) e f = (let (x, found, type) = find_there q p back to r l k z e in absurd (none_some (sym f ∙ found)))

      by : (o : Option Entity) → find (is_library k) p.entities.items ≡ o → typed q.types (find (is_library k) q.entities.items) ≡ renamed to.tag (typed p.types (find (is_library k) p.entities.items))
      by (Some x) e = (let (z, found, type) = find_there p q to back l r k x e in ap (typed q.types) found ∙ (type ∙ ap (λ (o : Option Entity). renamed to.tag (typed p.types o)) (sym e)))
      by None e =
          let other = nothing (find (is_library k) q.entities.items) refl e in
          ap (typed q.types) other ∙ ap (λ (o : Option Entity). renamed to.tag (typed p.types o)) (sym e)
