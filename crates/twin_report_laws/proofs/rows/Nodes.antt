-- What nodes demand, in two programs that are one, but for numbers.
use Rattle.std.proofs.Common.{arith, ◌≡◌, ◌∙◌, ◌+◌, ◌<◌, ◌≤◌, ◌&&◌, ℕ, zero, suc, Bool, true, false, List, [], ◌∷◌, map, take, drop, length, ◌^◌, Option, Some, None, unwrap_or, refl, sym, ap, subst, inl, inr}
use Rattle.std.specs.Prelude.{if◌then◌else◌, nat_lt, ◌-◌}
use Rattle.std.specs.List.{slice_get, flat_map}
use Rattle.std.specs.Option.{option_map, option_map_or, IfSome}
use Rattle.std.proofs.lemmas.Bool.{cases_lt}
use Rattle.std.proofs.lemmas.List.{get_or_past}
use Rattle.std.proofs.lemmas.Option.{slice_get_within}
use Rattle.c_types.specs.declared.key.ObjectKey.{ObjectKey}
use Rattle.c_types.specs.declared.key.ObjectKey.TheVariants.{Entity as EntityKey, Text as TextKey, Library, Function, Varargs as VarargsKey}
use Rattle.c_types.specs.declared.term.Form.TheVariants.{Fixed, Variadic, Unspecified}
use Rattle.c_types.specs.Trees.{Ctype, Ctypes, NoTypes, MoreTypes, VoidType, BoolType, IntegerType, FloatingType, VaListType, PointerTo, ArrayOf, FunctionFrom, StructureOf, UnionOf}
use Rattle.c_types.specs.declared.term.MemberTerm.{MemberTerm}
use Rattle.c_types.specs.declared.term.Term.TheVariants.{Structure, Union}
use Rattle.c_types.specs.Layout.{Extent, of_members, union_of}
use Rattle.c_types.specs.Table.{Table, types_of, type_of, members_in, extents_in}
use Rattle.c_types.proofs.Grow.{grown_length}
use Rattle.c_types.proofs.Nodes.{union_nodes}
use Rattle.lib_summaries.specs.Table.{summary_of}
use Rattle.type_rules.specs.Kinds.{IsPointer, IsArray, IsList}
use Rattle.type_rules.specs.Members.{in_list, IsMemberOf}
use Rattle.type_rules.specs.Sizes.{PointsToObject}
use Rattle.type_rules.specs.Conversions.{decayed, IsFirstOf}
use Rattle.core_tree.specs.declared.node.Node.{Node}
use Rattle.core_tree.specs.declared.node.NodeKind.{NodeKind}
use Rattle.core_tree.specs.declared.node.NodeKind.TheVariants.{Named, Text, Literal, FunctionName, Deref, Member, Fetch, AddressOf, Decay, PointerAdd, Convert, Upcast, Assign, Update, Choose, Sequence, MemberOfValue, CallNode, VarArgs, NextArg}
use Rattle.core_tree.specs.declared.node.Entity.{Entity}
use Rattle.core_tree.specs.declared.node.Linkage.{Linkage}
use Rattle.core_tree.specs.declared.node.Storage.{Storage}
use Rattle.core_tree.specs.declared.node.Program.{Program}
use Rattle.core_tree.specs.Typed.{Sort, NoNode, PlaceNode, ValueNode, sort_of, sort_in, sort_at, type_in, type_at, trees_in, IsValue}
use Rattle.core_tree.specs.Range.{named_by}
use Rattle.core_tree.specs.Rows.{RowOf}
use Rattle.link_model.specs.Renamed.{renamed, all_renamed}
use Rattle.link_model.specs.Partition.{HasTags}
use Rattle.unit_link.specs.Places.{kind_renamed}
use Rattle.obj_space.specs.Space.{locations_in}
use Rattle.obj_space.specs.View.{first_from}
use Rattle.row_numbers.specs.Kept.{nodes_in, nodes_of, member_node, kept, kept_count, kept_row}
use Rattle.row_numbers.specs.Numbers.{type_number}
use Rattle.row_numbers.specs.Objects.{is_open, library_number, library_key, entity_key, location_of}
use Rattle.row_numbers.specs.Setting.{row, list_row, rest_row, trail, trail_at, calls_further, Setting}
use Rattle.call_sites.specs.Calls.{count_of, variadic_count}
use Rattle.normal_form.specs.declared.normal.Assignment.{Assignment}
use Rattle.normal_form.specs.declared.normal.Assignment.TheVariants.{Address, Copy, Load}
use Rattle.normal_form.specs.Assignments.{copies, spreads, loads, stores, is_pointer, pointed, place_of_kind, value_of_kind, is_union_type, part_first, part_of_value, varargs_row, next_arg_row, gathered_row, gathered_past, call_row}
use Rattle.normal_form.specs.SystemOf.{setting_of}
use Rattle.linked_laws.proofs.merged_laws.Terms.{structure_term}
use Rattle.twin_report_laws.proofs.rows.Parts.{part_rows}
use Rattle.twin_report_laws.specs.outcome_laws.twin_programs.One.{Numbers, SameEntity}
use Rattle.twin_report_laws.specs.outcome_laws.twin_locations.Same.{key_moved, number_moved}
use Rattle.twin_report_laws.proofs.outcome_laws.twin_words.Sums.{some_one, none_some}
use Rattle.twin_report_laws.proofs.outcome_laws.twin_words.Library.{first_below}
use Rattle.twin_report_laws.proofs.outcome_laws.twin_words.Members.{Member as Among, at_member}
use Rattle.twin_report_laws.specs.rows.Paired.{ArePaired}
use Rattle.twin_report_laws.specs.rows.Ready.{IsReady}
use Rattle.twin_report_laws.proofs.rows.Views.{here, over, entity_round, first_same}
use Rattle.twin_report_laws.proofs.rows.Types.{nodes_moved, own_tags, member_moved, kept_take, type_number_moved, type_moved, tags_at}
use Rattle.twin_report_laws.proofs.rows.Rows.{Leads, row_moved, row_location, value_leads, place_moved, first_moved, list_moved, rest_moved}
use Rattle.twin_report_laws.proofs.rows.Copies.{assignment_moved, Moved, moved_append, address_moved, copy_moved, load_moved, field_moved, copies_moved, spreads_moved, gathers_moved, loads_moved, stores_moved}

-- the type of a number that a table lacks
pub void_past : (table : Table) (j : ℕ) → length table.terms ≤ j → type_of table j ≡ VoidType
void_past table j le = get_or_past (types_of table) j VoidType (let long = grown_length [] table.terms in omega (arith, le, long))

-- a structure that is a type of a table stands in a term
pub structure_known : (table : Table) (j tag : ℕ) → type_of table j ≡ StructureOf tag → (i : ℕ) × (slice_get table.terms i ≡ Some (Structure tag))
structure_known table j tag is = elim (cases_lt j (length table.terms)) [
  | inr past ↦ absurd (let never : VoidType ≡ StructureOf tag = sym (void_past table j past) ∙ is in cc)
  | inl lt ↦ (j, structure_term table j tag lt is)
]

pub some_at : {X : Type 0} (xs : List X) (i : ℕ) → i < length xs → (x : X) × (slice_get xs i ≡ Some x)
some_at [] i lt = absurd (omega (arith, lt))
some_at (x ∷ xs) zero lt = (x, refl)
some_at (x ∷ xs) (suc i) lt = some_at xs i (omega (arith, lt))

-- a node of a sort is there
pub node_of : (nodes : List Node) (n : ℕ) (sort : Sort) → sort_in (slice_get nodes n) ≡ sort → (sort ≡ NoNode → ⊥) → (x : Node) × (slice_get nodes n ≡ Some x) × (sort_of x.kind ≡ sort)
node_of nodes n sort h some = by (slice_get nodes n) refl
  where
    by : (o : Option Node) → slice_get nodes n ≡ o → (x : Node) × (slice_get nodes n ≡ Some x) × (sort_of x.kind ≡ sort)
    by None e = absurd (some (sym h ∙ ap sort_in e))
    by (Some x) e = (x, e, sym (ap sort_in e) ∙ h)

pub is_place : PlaceNode ≡ NoNode → ⊥
is_place h = cc

pub is_value : ValueNode ≡ NoNode → ⊥
is_value h = cc

-- a pointer has one row
pointer_kept : (table : Table) (t : Ctype) → IsPointer t → kept_count (nodes_of table t) ≡ 1
pointer_kept table (PointerTo to) h = refl
pointer_kept table VoidType h = absurd h
pointer_kept table BoolType h = absurd h
pointer_kept table (IntegerType size rank signed) h = absurd h
pointer_kept table FloatingType h = absurd h
pointer_kept table VaListType h = absurd h
pointer_kept table (ArrayOf of length) h = absurd h
pointer_kept table (FunctionFrom result parameters form) h = absurd h
pointer_kept table (StructureOf tag) h = absurd h
pointer_kept table (UnionOf tag) h = absurd h

list_kept : (table : Table) (t : Ctype) → IsList t → kept_count (nodes_of table t) ≡ 1
list_kept table VaListType h = refl
list_kept table t h = absurd h

drop_map : {X Y : Type 0} (f : X → Y) (n : ℕ) (xs : List X) → drop n (map f xs) ≡ map f (drop n xs)
drop_map f zero xs = refl
drop_map f (suc n) [] = refl
drop_map f (suc n) (x ∷ xs) = drop_map f n xs

-- what stands among the last items stands among all, and so for the first ones
pub drop_member : {X : Type 0} (n : ℕ) (xs : List X) (a : X) → Among (drop n xs) a → Among xs a
drop_member zero xs a m = m
drop_member (suc n) [] a m = absurd m
drop_member (suc n) (x ∷ xs) a m = inr (drop_member n xs a m)

pub take_member : {X : Type 0} (n : ℕ) (xs : List X) (a : X) → Among (take n xs) a → Among xs a
take_member zero xs a m = absurd m
take_member (suc n) [] a m = absurd m
take_member (suc n) (x ∷ xs) a (inl same) = inl same
take_member (suc n) (x ∷ xs) a (inr more) = inr (take_member n xs a more)

-- how many parameters a variadic function has
count_same : (f : ℕ → ℕ) (ts : Ctypes) → count_of (all_renamed f ts) ≡ count_of ts
count_same f NoTypes = refl
count_same f (MoreTypes t rest) = ap suc (count_same f rest)

pub variadic_same : (f : ℕ → ℕ) (t : Ctype) → variadic_count (renamed f t) ≡ variadic_count t
variadic_same f (PointerTo (FunctionFrom result parameters Variadic)) = ap Some (count_same f parameters)
variadic_same f (PointerTo (FunctionFrom result parameters Fixed)) = refl
variadic_same f (PointerTo (FunctionFrom result parameters Unspecified)) = refl
variadic_same f (PointerTo t) = refl
variadic_same f t = refl

further_called : (t : Ctype) (count : ℕ) → variadic_count t ≡ Some count → calls_further t ≡ true
further_called (PointerTo (FunctionFrom result parameters Variadic)) count e = refl
further_called t count e = absurd (none_some e)

pub pointer_same : (f : ℕ → ℕ) (t : Ctype) → is_pointer (renamed f t) ≡ is_pointer t
pointer_same f (PointerTo to) = refl
pointer_same f t = refl

pub is_a_pointer : (t : Ctype) → is_pointer t ≡ true → IsPointer t
is_a_pointer (PointerTo to) h = tt
is_a_pointer t h = absurd (cc)

decay_pointer : (t a : Ctype) → decayed t ≡ Some a → IsPointer a
decay_pointer (ArrayOf of length) a h = subst IsPointer (some_one h) tt
decay_pointer (FunctionFrom result parameters form) a h = subst IsPointer (some_one h) tt
decay_pointer t a h = absurd (none_some h)

first_pointers : (table : Table) (a t : Ctype) → IsFirstOf table a t → IsPointer a × IsPointer t
first_pointers table (PointerTo (StructureOf tag)) (PointerTo first) h = (tt, tt)
first_pointers table a t h = absurd h

moves_pointer : (table : Table) (t : Ctype) → PointsToObject table t → IsPointer t
moves_pointer table (PointerTo to) h = tt
moves_pointer table t h = absurd h

pointed_same : (f : ℕ → ℕ) (t : Ctype) → pointed (renamed f t) ≡ renamed f (pointed t)
pointed_same f (PointerTo to) = refl
pointed_same f t = refl

pub union_same : (f : ℕ → ℕ) (t : Ctype) → is_union_type (renamed f t) ≡ is_union_type t
union_same f (UnionOf tag) = refl
union_same f t = refl

pub library_fixed : (to : Numbers) (k : ℕ) → key_moved to (library_key k) ≡ library_key k
library_fixed to k = by (nat_lt k 55)
  where
    by : (b : Bool) → key_moved to (if b then Function k else Library (k - 52)) ≡ (if b then Function k else Library (k - 52))
    by true = refl
    by false = refl

module _ (p q : Program) (to back : Numbers) (h : ArePaired p q to back) (ready : IsReady p) (owners other_owners : List (Option ℕ)) where
  abbrev pub w : Setting
  w = setting_of p (here p q to back h) owners

  abbrev pub x : Setting
  x = setting_of q (over p q to back h) other_owners

  abbrev pub m : ℕ → ℕ
  m = row_moved p q to back h

  abbrev pub own_row : ℕ → ℕ
  own_row n = row (trees_in p) (here p q to back h) n

  abbrev pub row_over : ℕ → ℕ
  row_over n = row (trees_in q) (over p q to back h) n

  abbrev pub Twins : List Assignment → List Assignment → Type 0
  Twins other one = Moved m to.tag other one

  -- ---- rows of children
  pub place_row : (n : ℕ) → sort_at (trees_in p) n ≡ PlaceNode → row_over (to.node n) ≡ m (own_row n)
  place_row n sort = (let (y, at, own) = node_of p.nodes.items n PlaceNode sort is_place in sym (place_moved p q to back h n y at own))

  pub value_row : (n : ℕ) (t : Ctype) → IsValue (trees_in p) n t → Leads m (nodes_of p.types t) (own_row n) (row_over (to.node n))
  value_row n t value =
      let (y, at, own) = node_of p.nodes.items n ValueNode value.0 is_value in
      let type : type_of p.types y.ty.0 ≡ t = sym (ap (type_in p.types) at) ∙ value.1 in
      subst (λ (a : Ctype). Leads m (nodes_of p.types a) (own_row n) (row_over (to.node n))) type (value_leads p q to back h n y at own)

  pub pointer_row : (n : ℕ) (t : Ctype) → IsValue (trees_in p) n t → IsPointer t → row_over (to.node n) ≡ m (own_row n)
  pointer_row n t value pointer =
      let one = pointer_kept p.types t pointer in
      sym (first_moved p q to back h (nodes_of p.types t) (own_row n) (row_over (to.node n)) (value_row n t value) (omega (arith, one)))

  pub tags_of : (n : ℕ) (sort : Sort) → sort_at (trees_in p) n ≡ sort → (sort ≡ NoNode → ⊥) → HasTags p.types.tags (type_at (trees_in p) n) × (type_at (trees_in q) (to.node n) ≡ renamed to.tag (type_at (trees_in p) n))
  tags_of n sort is some = (let (y, at, own) = node_of p.nodes.items n sort is some in (tags_at p q to back h n y at, type_moved p q to back h n y at))

  pub number_of_type : (n : ℕ) (sort : Sort) → sort_at (trees_in p) n ≡ sort → (sort ≡ NoNode → ⊥) → type_number (type_at (trees_in q) (to.node n)) ≡ number_moved to.tag (type_number (type_at (trees_in p) n))
  number_of_type n sort is some = ap type_number (tags_of n sort is some).1 ∙ type_number_moved to.tag (type_at (trees_in p) n)

  -- ---- objects
  pub library_same : (a b : Entity) → SameEntity p.types q.types to a b → library_number b ≡ library_number a
  library_same a b same =
      ap (λ (k : Linkage). if is_open k b.storage then option_map (λ found. found.number) (summary_of b.name) else None) same.linkage
      ∙ (ap (λ (k : Storage). if is_open a.linkage k then option_map (λ found. found.number) (summary_of b.name) else None) same.storage
      ∙ ap (λ (n : List ℕ). if is_open a.linkage a.storage then option_map (λ found. found.number) (summary_of n) else None) same.name)

  pub location_same : (e : ℕ) (a : Entity) → slice_get p.entities.items e ≡ Some a → location_of (trees_in q) (over p q to back h) (to.entity e) ≡ location_of (trees_in p) (here p q to back h) e
  location_same e a at =
      let (b, there, same) = h.lead.entities e a at in
      ap (λ (o : Option Entity). unwrap_or (first_from 0 (locations_in q) (entity_key (to.entity e) o)) 0) there
      ∙ (ap (λ (o : Option ℕ). unwrap_or (first_from 0 (locations_in q) (option_map_or library_key o (EntityKey (to.entity e)))) 0) (library_same a b same)
      ∙ (by (library_number a) ∙ sym (ap (λ (o : Option Entity). unwrap_or (first_from 0 (locations_in p) (entity_key e o)) 0) at)))
    where
      by : (o : Option ℕ) → unwrap_or (first_from 0 (locations_in q) (option_map_or library_key o (EntityKey (to.entity e)))) 0 ≡ unwrap_or (first_from 0 (locations_in p) (option_map_or library_key o (EntityKey e))) 0
      by None = ap (λ (o : Option ℕ). unwrap_or o 0) (first_same p q to back h (EntityKey e) (entity_round p q to back h e a at))
      by (Some k) =
          ap (λ (key : ObjectKey). unwrap_or (first_from 0 (locations_in q) key) 0) (sym (library_fixed to k))
          ∙ ap (λ (o : Option ℕ). unwrap_or o 0) (first_same p q to back h (library_key k) (ap (key_moved back) (library_fixed to k) ∙ library_fixed back k))

  first_stays : (o : Option ℕ) → ((l : ℕ) → o ≡ Some l → l < length (locations_in p)) → m (unwrap_or o 0) ≡ unwrap_or o 0
  first_stays None below = row_location p q to back h 0 ready.some
  first_stays (Some l) below = row_location p q to back h l (below l refl)

  pub key_stays : (key : ObjectKey) → m (unwrap_or (first_from 0 (locations_in p) key) 0) ≡ unwrap_or (first_from 0 (locations_in p) key) 0
  key_stays key = first_stays (first_from 0 (locations_in p) key) (λ l e. first_below (locations_in p) l key e)

  pub named_moved : (n e : ℕ) (y : Node) (a : Entity) → slice_get p.nodes.items n ≡ Some y → sort_of y.kind ≡ PlaceNode → slice_get p.entities.items e ≡ Some a
      → Twins (Address (row_over (to.node n)) (location_of (trees_in q) (over p q to back h) (to.entity e)) ∷ []) (Address (own_row n) (location_of (trees_in p) (here p q to back h) e) ∷ [])
  named_moved n e y a at place e_at =
      address_moved m to.tag (own_row n) (location_of (trees_in p) (here p q to back h) e) (row_over (to.node n)) (location_of (trees_in q) (over p q to back h) (to.entity e))
      (sym (place_moved p q to back h n y at place)) (location_same e a e_at ∙ sym (key_stays (entity_key e (slice_get p.entities.items e))))

  -- ---- places
  pub place_kind : (n : ℕ) (y : Node) (kind : NodeKind) → slice_get p.nodes.items n ≡ Some y → y.kind ≡ kind → (children : List ℕ) → RowOf (trees_in p) kind (type_of p.types y.ty.0) children
      → ((e : ℕ) → named_by kind ≡ Some e → e < length p.entities.items) → Twins (place_of_kind x (to.node n) (kind_renamed to.entity kind) (map to.node children)) (place_of_kind w n kind children)
  place_kind n y (Named e) at is children rows named = (let (a, e_at) = some_at p.entities.items e (named e refl) in named_moved n e y a at (ap sort_of is) e_at)
  place_kind n y (Text bytes) at is children rows named =
      address_moved m to.tag (own_row n) (unwrap_or (first_from 0 (locations_in p) (TextKey n)) 0) (row_over (to.node n)) (unwrap_or (first_from 0 (locations_in q) (TextKey (to.node n))) 0)
      (sym (place_moved p q to back h n y at (ap sort_of is)))
      (ap (λ (o : Option ℕ). unwrap_or o 0) (first_same p q to back h (TextKey n) (ap TextKey (h.lead.node_back n (slice_get_within p.nodes.items n y at)))) ∙ sym (key_stays (TextKey n)))
  place_kind n y (Literal e) at is children rows named = (let (a, e_at) = some_at p.entities.items e (named e refl) in named_moved n e y a at (ap sort_of is) e_at)
  place_kind n y (FunctionName e) at is children rows named = (let (a, e_at) = some_at p.entities.items e (named e refl) in named_moved n e y a at (ap sort_of is) e_at)
  place_kind n y Deref at is [] rows named = refl
  place_kind n y Deref at is (c ∷ []) rows named =
      copy_moved m to.tag (own_row n) (own_row c) (row_over (to.node n)) (row_over (to.node c)) (sym (place_moved p q to back h n y at (ap sort_of is)))
      (pointer_row c (PointerTo (type_of p.types y.ty.0)) rows.0 tt)
  place_kind n y Deref at is (c ∷ d ∷ rest) rows named = refl
  place_kind n y (Member k) at is [] rows named = refl
  place_kind n y (Member k) at is (c ∷ []) rows named =
      field_moved m to.tag (own_row n) (own_row c) (type_number (type_at (trees_in p) c)) k (row_over (to.node n)) (row_over (to.node c)) (type_number (type_at (trees_in q) (to.node c)))
      (sym (place_moved p q to back h n y at (ap sort_of is))) (place_row c rows.0) (number_of_type c PlaceNode rows.0 is_place)
  place_kind n y (Member k) at is (c ∷ d ∷ rest) rows named = refl
  place_kind n y kind at is children rows named = refl

  -- ---- values
  -- what a value node has, by the rows of its own type
  pub own_leads : (n : ℕ) (y : Node) → slice_get p.nodes.items n ≡ Some y → sort_of y.kind ≡ ValueNode → Leads m (nodes_of p.types (type_of p.types y.ty.0)) (own_row n) (row_over (to.node n))
  own_leads n y at value = value_leads p q to back h n y at value

  own_pointer : (n : ℕ) (y : Node) → slice_get p.nodes.items n ≡ Some y → sort_of y.kind ≡ ValueNode → IsPointer (type_of p.types y.ty.0) → row_over (to.node n) ≡ m (own_row n)
  own_pointer n y at value pointer =
      let one = pointer_kept p.types (type_of p.types y.ty.0) pointer in
      sym (first_moved p q to back h (nodes_of p.types (type_of p.types y.ty.0)) (own_row n) (row_over (to.node n)) (own_leads n y at value) (omega (arith, one)))

  -- a structure's tag stands in no union
  proper : (c tag : ℕ) → type_at (trees_in p) c ≡ StructureOf tag → (i : ℕ) → slice_get p.types.terms i ≡ Some (Union tag) → ⊥
  proper c tag e i there = by (slice_get p.nodes.items c) refl e
    where
      by : (o : Option Node) → slice_get p.nodes.items c ≡ o → type_in p.types o ≡ StructureOf tag → ⊥
      by None f bad = absurd (cc)
      by (Some y) f same = (let (j, at) = structure_known p.types y.ty.0 tag same in h.sound.made.apart.each j i tag at there)

  -- a union that has members has one row
  union_kept : (whole : Ctype) (k : ℕ) (t : Ctype) → is_union_type whole ≡ true → IsMemberOf p.types whole k t → kept_count (nodes_of p.types whole) ≡ 1
  union_kept (UnionOf tag) k t e member = by (members_in p.types tag) refl member.stands
    where
      by : (o : Option (List MemberTerm)) → members_in p.types tag ≡ o → in_list o k ≡ Some member.member → kept_count (nodes_of p.types (UnionOf tag)) ≡ 1
      by None f none = absurd (none_some none)
      by (Some ms) f some =
          ap (λ (o : Option (List Extent)). kept_count (nodes_in (of_members (union_of (UnionOf tag)) o))) (h.sound.made.laid tag ∙ ap (option_map (extents_in p.types)) f)
          ∙ ap (λ (ns : List Ctype). kept_count (if nat_lt (length ns) (2 ^ 24 + 1) then ns else [])) (union_nodes (UnionOf tag) (extents_in p.types ms))
  union_kept whole k t e member = absurd (cc)

  union_row : (c k : ℕ) (t : Ctype) → sort_at (trees_in p) c ≡ ValueNode → is_union_type (type_at (trees_in p) c) ≡ true → IsMemberOf p.types (type_at (trees_in p) c) k t → row_over (to.node c) ≡ m (own_row c)
  union_row c k t value e member =
      let one = union_kept (type_at (trees_in p) c) k t e member in
      sym (first_moved p q to back h (nodes_of p.types (type_at (trees_in p) c)) (own_row c) (row_over (to.node c)) (value_row c (type_at (trees_in p) c) (value, refl)) (omega (arith, one)))

  part_leads : (n c k : ℕ) (t : Ctype) → sort_at (trees_in p) c ≡ ValueNode → IsMemberOf p.types (type_at (trees_in p) c) k t → (IsArray t → ⊥) → is_union_type (type_at (trees_in p) c) ≡ false
      → Leads m (nodes_of p.types t) (part_first p.types (type_at (trees_in p) c) (own_row c) k) (part_first q.types (type_at (trees_in q) (to.node c)) (row_over (to.node c)) k)
  part_leads n c k t value member plain apart j lt =
      let whole : Ctype = type_at (trees_in p) c in
      let (has, type) = tags_of c ValueNode value is_value in
      let fits = part_rows p.types h.sound.made ready.fit whole k t (own_row c) apart (λ tag e. proper c tag e) member plain in
      let far : ℕ = kept_count (take (member_node p.types whole k) (nodes_of p.types whole)) in
      let nodes : nodes_of q.types (type_at (trees_in q) (to.node c)) ≡ map (renamed to.tag) (nodes_of p.types whole) = ap (nodes_of q.types) type ∙ nodes_moved p q to back h whole has in
      let place : member_node q.types (type_at (trees_in q) (to.node c)) k ≡ member_node p.types whole k = ap (λ (t : Ctype). member_node q.types t k) type ∙ member_moved p q to back h whole has k in
      let over_far : part_first q.types (type_at (trees_in q) (to.node c)) (row_over (to.node c)) k ≡ row_over (to.node c) + far =
      ap (λ (i : ℕ). kept_row (row_over (to.node c)) (nodes_of q.types (type_at (trees_in q) (to.node c))) i) place
      ∙ (ap (λ (ns : List Ctype). kept_row (row_over (to.node c)) ns (member_node p.types whole k)) nodes ∙ ap (λ (i : ℕ). row_over (to.node c) + i) (kept_take to.tag (member_node p.types whole k) (nodes_of p.types whole))) in
      let leads = value_row c whole (value, refl) (far + j) (omega (arith, fits, lt)) in
      let here_is : (own_row c + far) + j ≡ own_row c + (far + j) = omega arith in
      let there_is : row_over (to.node c) + (far + j) ≡ (row_over (to.node c) + far) + j = omega arith in
      ap m here_is ∙ (leads ∙ (there_is ∙ ap (λ (i : ℕ). i + j) (sym over_far)))

  part_kind : (n : ℕ) (y : Node) (c k : ℕ) → slice_get p.nodes.items n ≡ Some y → sort_of y.kind ≡ ValueNode → sort_at (trees_in p) c ≡ ValueNode → IsMemberOf p.types (type_at (trees_in p) c) k (type_of p.types y.ty.0)
      → (IsArray (type_of p.types y.ty.0) → ⊥)
      → Twins (part_of_value x (to.node n) k (renamed to.tag (type_of p.types y.ty.0)) (type_at (trees_in q) (to.node c)) (to.node c)) (part_of_value w n k (type_of p.types y.ty.0) (type_at (trees_in p) c) c)
  part_kind n y c k at own value member plain =
      let t : Ctype = type_of p.types y.ty.0 in
      let (has, type) = tags_of c ValueNode value is_value in
      ap (λ (b : Bool). if b then spreads (nodes_of q.types (renamed to.tag t)) (row_over (to.node n)) (row_over (to.node c)) else copies (nodes_of q.types (renamed to.tag t)) (row_over (to.node n)) (part_first q.types (type_at (trees_in q) (to.node c)) (row_over (to.node c)) k))
      (ap is_union_type type ∙ union_same to.tag (type_at (trees_in p) c))
      ∙ by (is_union_type (type_at (trees_in p) c)) refl
    where
      by : (b : Bool) → is_union_type (type_at (trees_in p) c) ≡ b
          → (if b then spreads (nodes_of q.types (renamed to.tag (type_of p.types y.ty.0))) (row_over (to.node n)) (row_over (to.node c)) else copies (nodes_of q.types (renamed to.tag (type_of p.types y.ty.0))) (row_over (to.node n)) (part_first q.types (type_at (trees_in q) (to.node c)) (row_over (to.node c)) k))
          ≡ map (assignment_moved m to.tag)
          (if is_union_type (type_at (trees_in p) c) then spreads (nodes_of p.types (type_of p.types y.ty.0)) (own_row n) (own_row c) else copies (nodes_of p.types (type_of p.types y.ty.0)) (own_row n) (part_first p.types (type_at (trees_in p) c) (own_row c) k))
      by true e =
          let (has, type) = tags_of c ValueNode value is_value in
          let one : row_over (to.node c) ≡ m (own_row c) = union_row c k (type_of p.types y.ty.0) value e member in
          ap (λ (ns : List Ctype). spreads ns (row_over (to.node n)) (row_over (to.node c))) (nodes_moved p q to back h (type_of p.types y.ty.0) (own_tags p q to back h y.ty.0))
          ∙ (spreads_moved m to.tag (nodes_of p.types (type_of p.types y.ty.0)) (own_row n) (own_row c) (row_over (to.node n)) (row_over (to.node c)) (own_leads n y at own) one
          ∙ ap (λ (b : Bool). map (assignment_moved m to.tag) (if b then spreads (nodes_of p.types (type_of p.types y.ty.0)) (own_row n) (own_row c) else copies (nodes_of p.types (type_of p.types y.ty.0)) (own_row n) (part_first p.types (type_at (trees_in p) c) (own_row c) k))) (sym e))
      by false e =
          ap (λ (ns : List Ctype). copies ns (row_over (to.node n)) (part_first q.types (type_at (trees_in q) (to.node c)) (row_over (to.node c)) k)) (nodes_moved p q to back h (type_of p.types y.ty.0) (own_tags p q to back h y.ty.0))
          ∙ (copies_moved m to.tag (nodes_of p.types (type_of p.types y.ty.0)) (own_row n) (part_first p.types (type_at (trees_in p) c) (own_row c) k) (row_over (to.node n)) (part_first q.types (type_at (trees_in q) (to.node c)) (row_over (to.node c)) k)
          (own_leads n y at own) (part_leads n c k (type_of p.types y.ty.0) value member plain e)
          ∙ ap (λ (b : Bool). map (assignment_moved m to.tag) (if b then spreads (nodes_of p.types (type_of p.types y.ty.0)) (own_row n) (own_row c) else copies (nodes_of p.types (type_of p.types y.ty.0)) (own_row n) (part_first p.types (type_at (trees_in p) c) (own_row c) k))) (sym e))

  -- a list of copies over the nodes of a node's own type, in the other table
  pub own_nodes : (n : ℕ) (y : Node) → nodes_of q.types (renamed to.tag (type_of p.types y.ty.0)) ≡ map (renamed to.tag) (nodes_of p.types (type_of p.types y.ty.0))
  own_nodes n y = nodes_moved p q to back h (type_of p.types y.ty.0) (own_tags p q to back h y.ty.0)

  pub copies_kind : (n : ℕ) (y : Node) (c : ℕ) → slice_get p.nodes.items n ≡ Some y → sort_of y.kind ≡ ValueNode → IsValue (trees_in p) c (type_of p.types y.ty.0)
      → Twins (copies (nodes_of q.types (renamed to.tag (type_of p.types y.ty.0))) (row_over (to.node n)) (row_over (to.node c))) (copies (nodes_of p.types (type_of p.types y.ty.0)) (own_row n) (own_row c))
  copies_kind n y c at own value =
      ap (λ (ns : List Ctype). copies ns (row_over (to.node n)) (row_over (to.node c))) (own_nodes n y)
      ∙ copies_moved m to.tag (nodes_of p.types (type_of p.types y.ty.0)) (own_row n) (own_row c) (row_over (to.node n)) (row_over (to.node c)) (own_leads n y at own) (value_row c (type_of p.types y.ty.0) value)

  loads_kind : (n : ℕ) (y : Node) (c : ℕ) → slice_get p.nodes.items n ≡ Some y → sort_of y.kind ≡ ValueNode → sort_at (trees_in p) c ≡ PlaceNode
      → Twins (loads (nodes_of q.types (renamed to.tag (type_of p.types y.ty.0))) (row_over (to.node n)) (row_over (to.node c)) (type_number (renamed to.tag (type_of p.types y.ty.0))))
      (loads (nodes_of p.types (type_of p.types y.ty.0)) (own_row n) (own_row c) (type_number (type_of p.types y.ty.0)))
  loads_kind n y c at own place =
      ap (λ (ns : List Ctype). loads ns (row_over (to.node n)) (row_over (to.node c)) (type_number (renamed to.tag (type_of p.types y.ty.0)))) (own_nodes n y)
      ∙ loads_moved m to.tag (nodes_of p.types (type_of p.types y.ty.0)) (own_row n) (own_row c) (type_number (type_of p.types y.ty.0)) (row_over (to.node n)) (row_over (to.node c)) (type_number (renamed to.tag (type_of p.types y.ty.0)))
      (own_leads n y at own) (place_row c place) (type_number_moved to.tag (type_of p.types y.ty.0))

  stores_kind : (n : ℕ) (y : Node) (c d : ℕ) → sort_at (trees_in p) c ≡ PlaceNode → IsValue (trees_in p) d (type_of p.types y.ty.0)
      → Twins (stores (nodes_of q.types (renamed to.tag (type_of p.types y.ty.0))) (row_over (to.node c)) (row_over (to.node d)) (type_number (renamed to.tag (type_of p.types y.ty.0))))
      (stores (nodes_of p.types (type_of p.types y.ty.0)) (own_row c) (own_row d) (type_number (type_of p.types y.ty.0)))
  stores_kind n y c d place value =
      ap (λ (ns : List Ctype). stores ns (row_over (to.node c)) (row_over (to.node d)) (type_number (renamed to.tag (type_of p.types y.ty.0)))) (own_nodes n y)
      ∙ stores_moved m to.tag (nodes_of p.types (type_of p.types y.ty.0)) (own_row c) (own_row d) (type_number (type_of p.types y.ty.0)) (row_over (to.node c)) (row_over (to.node d)) (type_number (renamed to.tag (type_of p.types y.ty.0)))
      (place_row c place) (value_row d (type_of p.types y.ty.0) value) (type_number_moved to.tag (type_of p.types y.ty.0))

  passed_kind : (n : ℕ) (y : Node) (c : ℕ) → slice_get p.nodes.items n ≡ Some y → sort_of y.kind ≡ ValueNode → IsPointer (type_of p.types y.ty.0) → row_over (to.node c) ≡ m (own_row c)
      → Twins (Copy (row_over (to.node n)) (row_over (to.node c)) ∷ []) (Copy (own_row n) (own_row c) ∷ [])
  passed_kind n y c at own pointer row_c = copy_moved m to.tag (own_row n) (own_row c) (row_over (to.node n)) (row_over (to.node c)) (own_pointer n y at own pointer) row_c

  convert_kind : (n : ℕ) (y : Node) (c : ℕ) → slice_get p.nodes.items n ≡ Some y → sort_of y.kind ≡ ValueNode → sort_at (trees_in p) c ≡ ValueNode
      → Twins (if is_pointer (renamed to.tag (type_of p.types y.ty.0)) && is_pointer (type_at (trees_in q) (to.node c)) then Copy (row_over (to.node n)) (row_over (to.node c)) ∷ [] else [])
      (if is_pointer (type_of p.types y.ty.0) && is_pointer (type_at (trees_in p) c) then Copy (own_row n) (own_row c) ∷ [] else [])
  convert_kind n y c at own value =
      ap (λ (b : Bool). if b && is_pointer (type_at (trees_in q) (to.node c)) then Copy (row_over (to.node n)) (row_over (to.node c)) ∷ [] else []) (pointer_same to.tag (type_of p.types y.ty.0))
      ∙ (ap (λ (b : Bool). if is_pointer (type_of p.types y.ty.0) && b then Copy (row_over (to.node n)) (row_over (to.node c)) ∷ [] else []) (ap is_pointer (tags_of c ValueNode value is_value).1 ∙ pointer_same to.tag (type_at (trees_in p) c))
      ∙ by (is_pointer (type_of p.types y.ty.0)) refl (is_pointer (type_at (trees_in p) c)) refl)
    where
      by : (a : Bool) → is_pointer (type_of p.types y.ty.0) ≡ a → (b : Bool) → is_pointer (type_at (trees_in p) c) ≡ b
          → (if a && b then Copy (row_over (to.node n)) (row_over (to.node c)) ∷ [] else []) ≡ map (assignment_moved m to.tag) (if a && b then Copy (own_row n) (own_row c) ∷ [] else [])
      by true e true f =
          passed_kind n y c at own (is_a_pointer (type_of p.types y.ty.0) e) (pointer_row c (type_at (trees_in p) c) (value, refl) (is_a_pointer (type_at (trees_in p) c) f))
      by true e false f = refl
      by false e b f = refl

  -- ---- lists of arguments past the parameters
  own_list : (n : ℕ) (y : Node) → slice_get p.nodes.items n ≡ Some y → sort_of y.kind ≡ ValueNode → IsList (type_of p.types y.ty.0) → row_over (to.node n) ≡ m (own_row n)
  own_list n y at value list =
      let one = list_kept p.types (type_of p.types y.ty.0) list in
      sym (first_moved p q to back h (nodes_of p.types (type_of p.types y.ty.0)) (own_row n) (row_over (to.node n)) (own_leads n y at value) (omega (arith, one)))

  varargs_kind : (n : ℕ) (y : Node) (e : ℕ) → slice_get p.nodes.items n ≡ Some y → y.kind ≡ VarArgs e → IsList (type_of p.types y.ty.0)
      → Twins (varargs_row x (to.node n) (to.entity e)) (varargs_row w n e)
  varargs_kind n y e at is list =
      let lt : e < length p.entities.items = subst (λ (k : NodeKind). IfSome (named_by k) (λ i. i < length p.entities.items)) is (ready.named n y at) in
      address_moved m to.tag (own_row n) (unwrap_or (first_from 0 (locations_in p) (VarargsKey e)) 0) (row_over (to.node n)) (unwrap_or (first_from 0 (locations_in q) (VarargsKey (to.entity e))) 0)
      (own_list n y at (ap sort_of is) list)
      (ap (λ (o : Option ℕ). unwrap_or o 0) (first_same p q to back h (VarargsKey e) (ap VarargsKey (h.lead.entity_back e lt))) ∙ sym (key_stays (VarargsKey e)))

  next_kind : (n : ℕ) (y : Node) (c : ℕ) → slice_get p.nodes.items n ≡ Some y → y.kind ≡ NextArg → sort_at (trees_in p) c ≡ PlaceNode
      → Twins (next_arg_row x (to.node n) (renamed to.tag (type_of p.types y.ty.0)) (to.node c ∷ [])) (next_arg_row w n (type_of p.types y.ty.0) (c ∷ []))
  next_kind n y c at is place =
      let own : ℕ = list_row (trees_in p) (here p q to back h) n in
      let its : ℕ = list_row (trees_in q) (over p q to back h) (to.node n) in
      let list : its ≡ m own = sym (list_moved p q to back h n y at is) in
      moved_append m to.tag
      (Load its (row_over (to.node c)) 7 0 ∷ []) (loads (nodes_of q.types (renamed to.tag (type_of p.types y.ty.0))) (row_over (to.node n)) its (type_number (renamed to.tag (type_of p.types y.ty.0))))
      (Load own (own_row c) 7 0 ∷ []) (loads (nodes_of p.types (type_of p.types y.ty.0)) (own_row n) own (type_number (type_of p.types y.ty.0)))
      (load_moved m to.tag own (own_row c) 0 its (row_over (to.node c)) 7 list (place_row c place) refl)
      (ap (λ (ns : List Ctype). loads ns (row_over (to.node n)) its (type_number (renamed to.tag (type_of p.types y.ty.0)))) (own_nodes n y)
      ∙ loads_moved m to.tag (nodes_of p.types (type_of p.types y.ty.0)) (own_row n) own (type_number (type_of p.types y.ty.0)) (row_over (to.node n)) its (type_number (renamed to.tag (type_of p.types y.ty.0)))
      (own_leads n y at (ap sort_of is)) list (type_number_moved to.tag (type_of p.types y.ty.0)))

  -- ---- what a call passes past the parameters
  abbrev pub rest_own : ℕ → ℕ
  rest_own n = rest_row (trees_in p) (here p q to back h) n

  abbrev pub rest_over : ℕ → ℕ
  rest_over n = rest_row (trees_in q) (over p q to back h) (to.node n)

  pub trail_some : (y : Node) (c : ℕ) (arguments : List ℕ) (count : ℕ) → y.kind ≡ CallNode → y.children ≡ c ∷ arguments → variadic_count (type_at (trees_in p) c) ≡ Some count → trail (trees_in p) y.kind y.children ≡ 1
  trail_some y c arguments count is children e =
      ap (λ (k : NodeKind). trail (trees_in p) k y.children) is ∙ (ap (trail (trees_in p) CallNode) children ∙ ap trail_at (further_called (type_at (trees_in p) c) count e))

  pub rest_there : (n : ℕ) (y : Node) (c : ℕ) (arguments : List ℕ) (count : ℕ) → slice_get p.nodes.items n ≡ Some y → y.kind ≡ CallNode → y.children ≡ c ∷ arguments → variadic_count (type_at (trees_in p) c) ≡ Some count → rest_over n ≡ m (rest_own n)
  rest_there n y c arguments count at is children e = (let one = trail_some y c arguments count is children e in sym (rest_moved p q to back h n y at (ap sort_of is) (omega (arith, one))))

  gathered_kind : (n a : ℕ) → sort_at (trees_in p) a ≡ ValueNode → rest_over n ≡ m (rest_own n) → Twins (gathered_row x (to.node n) (to.node a)) (gathered_row w n a)
  gathered_kind n a value rest =
      let (has, type) = tags_of a ValueNode value is_value in
      ap (λ (ts : List Ctype). map (λ i. Copy (rest_over n) (kept_row (row_over (to.node a)) ts i)) (kept ts)) (ap (nodes_of q.types) type ∙ nodes_moved p q to back h (type_at (trees_in p) a) has)
      ∙ gathers_moved m to.tag (nodes_of p.types (type_at (trees_in p) a)) (rest_own n) (own_row a) (rest_over n) (row_over (to.node a)) rest (value_row a (type_at (trees_in p) a) (value, refl))

  gathered_list : (n : ℕ) (arguments : List ℕ) → ((a : ℕ) → Among arguments a → sort_at (trees_in p) a ≡ ValueNode) → rest_over n ≡ m (rest_own n)
      → Twins (flat_map (gathered_row x (to.node n)) (map to.node arguments)) (flat_map (gathered_row w n) arguments)
  gathered_list n [] each rest = refl
  gathered_list n (a ∷ arguments) each rest =
      moved_append m to.tag (gathered_row x (to.node n) (to.node a)) (flat_map (gathered_row x (to.node n)) (map to.node arguments)) (gathered_row w n a) (flat_map (gathered_row w n) arguments)
      (gathered_kind n a (each a (inl refl)) rest) (gathered_list n arguments (λ b k. each b (inr k)) rest)

  past_kind : (n : ℕ) (arguments : List ℕ) (o : Option ℕ) → ((a : ℕ) → Among arguments a → sort_at (trees_in p) a ≡ ValueNode) → ((count : ℕ) → o ≡ Some count → rest_over n ≡ m (rest_own n))
      → Twins (gathered_past x (to.node n) o (map to.node arguments)) (gathered_past w n o arguments)
  past_kind n arguments None each rest = refl
  past_kind n arguments (Some count) each rest =
      ap (flat_map (gathered_row x (to.node n))) (drop_map to.node count arguments)
      ∙ gathered_list n (drop count arguments) (λ a k. each a (drop_member count arguments a k)) (rest count refl)

  call_kind : (n : ℕ) (y : Node) (c : ℕ) (arguments : List ℕ) → slice_get p.nodes.items n ≡ Some y → y.kind ≡ CallNode → y.children ≡ c ∷ arguments → sort_at (trees_in p) c ≡ ValueNode
      → Twins (call_row x (to.node n) (to.node c ∷ map to.node arguments)) (call_row w n (c ∷ arguments))
  call_kind n y c arguments at is children value =
      ap (λ (t : Ctype). gathered_past x (to.node n) (variadic_count t) (map to.node arguments)) (tags_of c ValueNode value is_value).1
      ∙ (ap (λ (o : Option ℕ). gathered_past x (to.node n) o (map to.node arguments)) (variadic_same to.tag (type_at (trees_in p) c))
      ∙ past_kind n arguments (variadic_count (type_at (trees_in p) c))
      (λ a k. let (i, i_at) = at_member arguments a k in ready.values.each n y at is (suc i) a (ap (λ (cs : List ℕ). slice_get cs (suc i)) children ∙ i_at))
      (λ count e. rest_there n y c arguments count at is children e))

  pub value_kind : (n : ℕ) (y : Node) (kind : NodeKind) → slice_get p.nodes.items n ≡ Some y → y.kind ≡ kind → (children : List ℕ) → RowOf (trees_in p) kind (type_of p.types y.ty.0) children → y.children ≡ children
      → Twins (value_of_kind x (to.node n) (kind_renamed to.entity kind) (renamed to.tag (type_of p.types y.ty.0)) (map to.node children)) (value_of_kind w n kind (type_of p.types y.ty.0) children)
  value_kind n y Fetch at is [] rows mine = refl
  value_kind n y Fetch at is (c ∷ []) rows mine = loads_kind n y c at (ap sort_of is) rows.0.0
  value_kind n y Fetch at is (c ∷ d ∷ rest) rows mine = refl
  value_kind n y AddressOf at is [] rows mine = refl
  value_kind n y AddressOf at is (c ∷ []) rows mine = passed_kind n y c at (ap sort_of is) (subst IsPointer (sym rows.1) tt) (place_row c rows.0)
  value_kind n y AddressOf at is (c ∷ d ∷ rest) rows mine = refl
  value_kind n y Decay at is [] rows mine = refl
  value_kind n y Decay at is (c ∷ []) rows mine = passed_kind n y c at (ap sort_of is) (decay_pointer (type_at (trees_in p) c) (type_of p.types y.ty.0) rows.1) (place_row c rows.0)
  value_kind n y Decay at is (c ∷ d ∷ rest) rows mine = refl
  value_kind n y (PointerAdd minus) at is [] rows mine = refl
  value_kind n y (PointerAdd minus) at is (c ∷ []) rows mine = refl
  value_kind n y (PointerAdd minus) at is (c ∷ d ∷ []) rows mine =
      let pointer = moves_pointer p.types (type_of p.types y.ty.0) rows.1 in
      passed_kind n y c at (ap sort_of is) pointer (pointer_row c (type_of p.types y.ty.0) rows.0 pointer)
  value_kind n y (PointerAdd minus) at is (c ∷ d ∷ e ∷ rest) rows mine = refl
  value_kind n y Convert at is [] rows mine = refl
  value_kind n y Convert at is (c ∷ []) rows mine = convert_kind n y c at (ap sort_of is) rows.0
  value_kind n y Convert at is (c ∷ d ∷ rest) rows mine = refl
  value_kind n y Upcast at is [] rows mine = refl
  value_kind n y Upcast at is (c ∷ []) rows mine =
      let (from, own) = first_pointers p.types (type_at (trees_in p) c) (type_of p.types y.ty.0) rows.1 in
      field_moved m to.tag (own_row n) (own_row c) (type_number (pointed (type_at (trees_in p) c))) 0 (row_over (to.node n)) (row_over (to.node c)) (type_number (pointed (type_at (trees_in q) (to.node c))))
      (own_pointer n y at (ap sort_of is) own) (pointer_row c (type_at (trees_in p) c) (rows.0, refl) from)
      (ap (λ (t : Ctype). type_number (pointed t)) (tags_of c ValueNode rows.0 is_value).1 ∙ (ap type_number (pointed_same to.tag (type_at (trees_in p) c)) ∙ type_number_moved to.tag (pointed (type_at (trees_in p) c))))
  value_kind n y Upcast at is (c ∷ d ∷ rest) rows mine = refl
  value_kind n y Assign at is [] rows mine = refl
  value_kind n y Assign at is (c ∷ []) rows mine = refl
  value_kind n y Assign at is (c ∷ d ∷ []) rows mine =
      moved_append m to.tag
      (stores (nodes_of q.types (renamed to.tag (type_of p.types y.ty.0))) (row_over (to.node c)) (row_over (to.node d)) (type_number (renamed to.tag (type_of p.types y.ty.0))))
      (copies (nodes_of q.types (renamed to.tag (type_of p.types y.ty.0))) (row_over (to.node n)) (row_over (to.node d)))
      (stores (nodes_of p.types (type_of p.types y.ty.0)) (own_row c) (own_row d) (type_number (type_of p.types y.ty.0)))
      (copies (nodes_of p.types (type_of p.types y.ty.0)) (own_row n) (own_row d))
      (stores_kind n y c d rows.0.0 rows.1) (copies_kind n y d at (ap sort_of is) rows.1)
  value_kind n y Assign at is (c ∷ d ∷ e ∷ rest) rows mine = refl
  value_kind n y (Update op post) at is [] rows mine = refl
  value_kind n y (Update op post) at is (c ∷ []) rows mine = refl
  value_kind n y (Update op post) at is (c ∷ d ∷ []) rows mine = loads_kind n y c at (ap sort_of is) rows.0.0
  value_kind n y (Update op post) at is (c ∷ d ∷ e ∷ rest) rows mine = refl
  value_kind n y Choose at is [] rows mine = refl
  value_kind n y Choose at is (c ∷ []) rows mine = refl
  value_kind n y Choose at is (c ∷ a ∷ []) rows mine = refl
  value_kind n y Choose at is (c ∷ a ∷ b ∷ []) rows mine =
      moved_append m to.tag
      (copies (nodes_of q.types (renamed to.tag (type_of p.types y.ty.0))) (row_over (to.node n)) (row_over (to.node a)))
      (copies (nodes_of q.types (renamed to.tag (type_of p.types y.ty.0))) (row_over (to.node n)) (row_over (to.node b)))
      (copies (nodes_of p.types (type_of p.types y.ty.0)) (own_row n) (own_row a)) (copies (nodes_of p.types (type_of p.types y.ty.0)) (own_row n) (own_row b))
      (copies_kind n y a at (ap sort_of is) rows.1) (copies_kind n y b at (ap sort_of is) rows.2)
  value_kind n y Choose at is (c ∷ a ∷ b ∷ e ∷ rest) rows mine = refl
  value_kind n y Sequence at is [] rows mine = refl
  value_kind n y Sequence at is (a ∷ []) rows mine = refl
  value_kind n y Sequence at is (a ∷ b ∷ []) rows mine = copies_kind n y b at (ap sort_of is) rows.1
  value_kind n y Sequence at is (a ∷ b ∷ e ∷ rest) rows mine = refl
  value_kind n y (MemberOfValue k) at is [] rows mine = refl
  value_kind n y (MemberOfValue k) at is (c ∷ []) rows mine = part_kind n y c k at (ap sort_of is) rows.0 rows.1 rows.2
  value_kind n y (MemberOfValue k) at is (c ∷ d ∷ rest) rows mine = refl
  value_kind n y CallNode at is [] rows mine = refl
  value_kind n y CallNode at is (c ∷ arguments) rows mine = call_kind n y c arguments at is mine rows.0
  value_kind n y (VarArgs e) at is [] rows mine = varargs_kind n y e at is rows.0
  value_kind n y (VarArgs e) at is (c ∷ rest) rows mine = absurd rows
  value_kind n y NextArg at is [] rows mine = refl
  value_kind n y NextArg at is (c ∷ []) rows mine = next_kind n y c at is rows.0.0
  value_kind n y NextArg at is (c ∷ d ∷ rest) rows mine = refl
  value_kind n y kind at is children rows mine = refl
