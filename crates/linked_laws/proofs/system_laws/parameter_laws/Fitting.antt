-- Each node of a parameter is a location.
use Rattle.std.proofs.Common.{arith, ◌≡◌, ◌∙◌, ◌⊎◌, ℕ, zero, suc, ◌+◌, ◌<◌, ◌≤◌, ◌==◌, Bool, true, false, cond, List, [], ◌∷◌, length, map, get_or, Option, Some, None, slice_get, unwrap_or, refl, sym, ap, subst, inl, inr}
use Rattle.std.specs.List.{All, range_with_len, filter, find, enumerate_from}
use Rattle.std.specs.Option.{option_map, option_map_or}
use Rattle.std.proofs.lemmas.Bool.{false≢true}
use Rattle.std.proofs.lemmas.Bool.Decides.{eqb_tells}
use Rattle.std.proofs.lemmas.List.Elements.{All-map}
use Rattle.std.proofs.lemmas.Option.{slice_get_within, slice_get-get_or}
use Rattle.c_types.specs.declared.key.ObjectKey.{ObjectKey}
use Rattle.c_types.specs.declared.key.ObjectKey.TheVariants.{Entity as EntityKey}
use Rattle.c_types.specs.Layout.{Extent}
use Rattle.c_types.specs.Trees.{Ctype}
use Rattle.c_types.specs.Table.{extent_in, type_of}
use Rattle.core_tree.specs.declared.node.Program.{Program}
use Rattle.core_tree.specs.declared.node.Entity.{Entity}
use Rattle.core_tree.specs.declared.node.Storage.{Storage}
use Rattle.core_tree.specs.declared.node.Storage.TheVariants.{Parameter}
use Rattle.core_tree.specs.Typed.{CoreTrees, trees_in}
use Rattle.obj_made.specs.declared.object.Content.TheVariants.{Typed}
use Rattle.obj_made.specs.Made.{entity_content}
use Rattle.obj_space.specs.declared.location.Location.{Location}
use Rattle.obj_space.specs.Found.{same_object, HasKey, IsFirst}
use Rattle.obj_space.specs.Parts.{nodes_of as tree_nodes}
use Rattle.obj_space.specs.Space.{locations_in}
use Rattle.obj_space.specs.Spots.{HasWholes, type_made}
use Rattle.obj_space.specs.View.{first_from, view_of}
use Rattle.obj_space.proofs.Indexed.{same_is, same_self}
use Rattle.row_numbers.specs.declared.functions.Role.TheVariants.{Parameter as ParameterRole}
use Rattle.row_numbers.specs.Kept.{nodes_in, nodes_of, is_kept, kept_at, row_or}
use Rattle.row_numbers.specs.Functions.{is_parameter, key_if, keys_in, begins_at, object_at, all_parameters, parameters_of, is_owned_by, entity_in, key_type, type_or_void}
use Rattle.row_numbers.specs.Setting.{none_row}
use Rattle.row_numbers.proofs.FrameLemmas.{locations_within}
use Rattle.normal_form.specs.Facts.{cell_list, parameter_rows}
use Rattle.linked_laws.proofs.system_laws.Compact.{found_at, numbered_at}
use Rattle.linked_laws.proofs.system_laws.Calls.{comes_from}
use Rattle.linked_laws.proofs.system_laws.parameter_laws.Contents.{content_of}

some_one : {X : Type 0} → {x y : X} → ◌≡◌ {A = Option X} (Some x) (Some y) → x ≡ y
some_one h = cc

none_some : {X : Type 0} → {x : X} → ◌≡◌ {A = Option X} None (Some x) → ⊥
none_some h = cc

-- the first location of an object
record Begins (space : List Location) (key : ObjectKey) (n l : ℕ) : Type 0 where
  at : ℕ
  place : l ≡ n + at
  here : HasKey space at key
  before : (k : ℕ) → k < at → HasKey space k key → ⊥

begins_by : (n l : ℕ) (x : Location) (rest : List Location) (key : ObjectKey) (b : Bool) → same_object x.key key ≡ b → cond b (Some n) (first_from (n + 1) rest key) ≡ Some l
    → (first_from (n + 1) rest key ≡ Some l → Begins rest key (n + 1) l) → Begins (x ∷ rest) key n l
begins_by n l x rest key true is e f =
    record { at = 0; place = (let q = some_one e in omega arith); here = (x, refl, same_is x.key key is); before = λ k lt h. omega arith }
begins_by n l x rest key false is e f =
    let b = f e in
    let place = b.place in
    record {
      at = suc b.at;
      place = omega arith;
      here = b.here;
      before = λ k lt h. none k lt h b.before;
    }
  where
    none : (k : ℕ) → {at : ℕ} → k < suc at → HasKey (x ∷ rest) k key → ((j : ℕ) → j < at → HasKey rest j key → ⊥) → ⊥
    none zero lt h g = false≢true (sym is ∙ same_self x.key key (ap (λ (z : Location). z.key) (some_one h.1) ∙ h.2))
    none (suc k) lt h g = g k (omega arith) h

begins : (n l : ℕ) (space : List Location) (key : ObjectKey) → first_from n space key ≡ Some l → Begins space key n l
begins n l [] key e = absurd (none_some e)
begins n l (x ∷ rest) key e = begins_by n l x rest key (same_object x.key key) refl e (begins (n + 1) l rest key)

pub is_first : (space : List Location) (key : ObjectKey) (l : ℕ) → first_from 0 space key ≡ Some l → IsFirst space key l
is_first space key l e =
    let b = begins 0 l space key e in
    let same : l ≡ b.at = (let q = b.place in omega arith) in
    record { here = subst (λ (k : ℕ). HasKey space k key) (sym same) b.here; before = λ k lt h. b.before k (omega arith) h }

-- nodes within 2^24 are all nodes
some_nodes : (b : Bool) (ns : List Ctype) (i : ℕ) (t : Ctype) → slice_get (cond b ns []) i ≡ Some t → slice_get ns i ≡ Some t
some_nodes true ns i t e = e
some_nodes false ns i t e = absurd (none_some e)

pub all_nodes : (o : Option Extent) (i : ℕ) (t : Ctype) → slice_get (nodes_in o) i ≡ Some t → slice_get (tree_nodes o) i ≡ Some t
all_nodes None i t e = absurd (none_some e)
all_nodes (Some x) i t e = some_nodes _ x.nodes i t e

-- what is found is one of those
found_by : (test : ObjectKey → Bool) (x : ObjectKey) (rest : Option ObjectKey) (key : ObjectKey) (b : Bool) → test x ≡ b → cond b (Some x) rest ≡ Some key → ((test key ≡ true) × (x ≡ key)) ⊎ (rest ≡ Some key)
found_by test x rest key true is e = inl (ap test (sym (some_one e)) ∙ is, some_one e)
found_by test x rest key false is e = inr e

found_in : (test : ObjectKey → Bool) (xs : List ObjectKey) (key : ObjectKey) → find test xs ≡ Some key → (k : ℕ) × (slice_get xs k ≡ Some key) × (test key ≡ true)
found_in test [] key e = absurd (none_some e)
found_in test (x ∷ xs) key e = elim (found_by test x (find test xs) key (test x) refl e) [
  | inl here ↦ (0, ap Some here.1, here.0)
  | inr later ↦ let r = found_in test xs key later in (suc r.0, r.1, r.2)
]

filter_by : (test : ObjectKey → Bool) (x : ObjectKey) (xs ys : List ObjectKey) (k : ℕ) (y : ObjectKey) (b : Bool) → slice_get (cond b (x ∷ ys) ys) k ≡ Some y
    → ((j : ℕ) → slice_get ys j ≡ Some y → (i : ℕ) × (slice_get xs i ≡ Some y)) → (i : ℕ) × (slice_get (x ∷ xs) i ≡ Some y)
filter_by test x xs ys zero y true e f = (0, e)
filter_by test x xs ys (suc k) y true e f = let r = f k e in (suc r.0, r.1)
filter_by test x xs ys k y false e f = let r = f k e in (suc r.0, r.1)

filter_from : (test : ObjectKey → Bool) (xs : List ObjectKey) (k : ℕ) (y : ObjectKey) → slice_get (filter test xs) k ≡ Some y → (i : ℕ) × (slice_get xs i ≡ Some y)
filter_from test [] k y e = absurd (none_some e)
filter_from test (x ∷ xs) k y e = filter_by test x xs (filter test xs) k y (test x) e (λ j h. filter_from test xs j y h)

location_is : (o : Option ℕ) (l : ℕ) → option_map_or (λ first. first == l) o false ≡ true → o ≡ Some l
location_is None l e = absurd (false≢true e)
location_is (Some first) l e = elim (eqb_tells first l) [ inl same ↦ ap Some same.1 | inr other ↦ absurd (false≢true (sym other.0 ∙ e)) ]

parameter_storage : (storage : Storage) → is_parameter storage ≡ true → storage ≡ Parameter
parameter_storage Parameter e = refl
parameter_storage storage e = absurd (false≢true e)

key_by : (e : ℕ) (b : Bool) (key : ObjectKey) → cond b (Some (EntityKey e)) None ≡ Some key → (EntityKey e ≡ key) × (b ≡ true)
key_by e true key h = (some_one h, refl)
key_by e false key h = absurd (none_some h)

module _ (p : Program) (space : List Location) (is_space : space ≡ locations_in p) (wholes : HasWholes p.types space) where
  abbrev u : CoreTrees
  u = trees_in p

  -- a parameter, with its first location
  record IsPlaced (key : ObjectKey) : Type 0 where
    entity : ℕ
    own : Entity
    key_is : key ≡ EntityKey entity
    own_is : slice_get p.entities.items entity ≡ Some own
    storage : own.storage ≡ Parameter
    at : ℕ
    first : first_from 0 space key ≡ Some at

  placed : (f k : ℕ) (key : ObjectKey) → slice_get (parameters_of u (view_of space) f) k ≡ Some key → IsPlaced key
  placed f k key e =
      let (i, there) = filter_from (λ key. is_owned_by f (entity_in u key)) (all_parameters u (view_of space)) k key e in
      let found = found_at (object_at (view_of space) (keys_in ParameterRole p.entities.items)) (length space) i key there in
      let (j, key_at, begins_here) = found_in (begins_at (view_of space) found.at) (keys_in ParameterRole p.entities.items) key found.found in
      let from = comes_from (λ (entry : ℕ × Entity). key_if ParameterRole entry.0 entry.1) (enumerate_from 0 p.entities.items) j key key_at in
      let number = numbered_at 0 p.entities.items from.at from.from from.there in
      let (same, plays) = key_by from.from.0 (is_parameter from.from.1.storage) key from.gives in
      let place : from.from.0 ≡ from.at = (let q = number.0 in omega arith) in
      record {
        entity = from.from.0;
        own = from.from.1;
        key_is = sym same;
        own_is = ap (slice_get p.entities.items) place ∙ number.1;
        storage = parameter_storage from.from.1.storage plays;
        at = found.at;
        first = location_is (first_from 0 space key) found.at begins_here;
      }

  -- each node of its type is a location
  node_located : (key : ObjectKey) (h : IsPlaced key) (i : ℕ) (t : Ctype) → slice_get (nodes_of p.types (type_of p.types h.own.ty.0)) i ≡ Some t → h.at + i < length space
  node_located key h i t node =
      let first = is_first space key h.at h.first in
      let (x, x_at, x_key) = first.here in
      let fits = content_of p h.at x (ap (λ (list : List Location). slice_get list h.at) (sym is_space) ∙ x_at) h.entity (x_key ∙ h.key_is) in
      let same : fits.0 ≡ h.own = some_one (sym fits.1 ∙ h.own_is) in
      let content : x.content ≡ Typed h.own.ty = fits.2 ∙ (ap (λ (y : Entity). entity_content y.storage y.ty) same ∙ ap (λ (st : Storage). entity_content st h.own.ty) h.storage) in
      let there = wholes key h.at x h.own.ty i t first x_at (ap type_made content) (all_nodes (extent_in p.types (type_of p.types h.own.ty.0)) i t node) in
      slice_get_within space (h.at + i) there.0 there.1

  cell_within : (key : ObjectKey) (h : IsPlaced key) (i : ℕ) (o : Option Ctype) → slice_get (nodes_of p.types (type_of p.types h.own.ty.0)) i ≡ o → row_or (none_row u (view_of space)) (h.at + i) (kept_at o) ≤ none_row u (view_of space)
  cell_within key h i None is = omega arith
  cell_within key h i (Some t) is =
      let less = node_located key h i t is in
      let count = locations_within u (view_of space) in
      by (is_kept t) (omega arith)
    where
      by : (b : Bool) → h.at + i ≤ none_row u (view_of space) → row_or (none_row u (view_of space)) (h.at + i) b ≤ none_row u (view_of space)
      by true le = le
      by false le = omega arith

  rows_fit : (key : ObjectKey) → IsPlaced key → All (λ row. row ≤ none_row u (view_of space)) (parameter_rows u (view_of space) key)
  rows_fit key h =
      let none = none_row u (view_of space) in
      let type : key_type u key ≡ type_of p.types h.own.ty.0 =
      ap (key_type u) h.key_is ∙ ap (λ (o : Option Entity). type_or_void p.types (option_map (λ (entity : Entity). entity.ty) o)) h.own_is in
      let nodes = nodes_of p.types (type_of p.types h.own.ty.0) in
      let is : parameter_rows u (view_of space) key ≡ cell_list none h.at nodes =
      ap (λ (o : Option ℕ). cell_list none (unwrap_or o 0) (nodes_of p.types (key_type u key))) h.first ∙ ap (λ (t : Ctype). cell_list none h.at (nodes_of p.types t)) type in
      subst (λ (rows : List ℕ). All (λ row. row ≤ none) rows) (sym is)
      (All-map (λ row. row ≤ none) (λ i. row_or none (h.at + i) (kept_at (slice_get nodes i))) (range_with_len 0 (length nodes)) (λ k d lt. let i = get_or (range_with_len 0 (length nodes)) k d in cell_within key h i (slice_get nodes i) refl))

  pub parameters_fit : (f : ℕ) → All (λ rows. All (λ row. row ≤ none_row u (view_of space)) rows) (map (parameter_rows u (view_of space)) (parameters_of u (view_of space) f))
  parameters_fit f =
      let keys = parameters_of u (view_of space) f in
      All-map (λ rows. All (λ row. row ≤ none_row u (view_of space)) rows) (parameter_rows u (view_of space)) keys
      (λ k d lt. rows_fit (get_or keys k d) (placed f k (get_or keys k d) (slice_get-get_or keys k d lt)))
