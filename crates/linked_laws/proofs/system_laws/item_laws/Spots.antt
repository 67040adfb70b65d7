-- The locations that the items of initialisers are put at.
use Rattle.std.proofs.Common.{arith, ◌≡◌, ◌∙◌, ◌⊎◌, ℕ, zero, suc, ◌+◌, ◌^◌, ◌<◌, Bool, true, false, cond, List, [], ◌∷◌, length, Option, Some, None, IsSome, unwrap_or, slice_get, refl, sym, ap, subst, inl, inr}
use Rattle.std.specs.Option.{option_map, option_map_or}
use Rattle.std.proofs.lemmas.Bool.{false≢true}
use Rattle.std.proofs.lemmas.Option.{slice_get_within}
use Rattle.c_types.specs.declared.key.ObjectKey.{ObjectKey}
use Rattle.c_types.specs.declared.key.ObjectKey.TheVariants.{Entity as EntityKey}
use Rattle.c_types.specs.declared.term.PathStep.{PathStep}
use Rattle.c_types.specs.declared.term.TypeId.{TypeId}
use Rattle.c_types.specs.Trees.{Ctype, ArrayOf, FunctionFrom, UnionOf}
use Rattle.c_types.specs.Layout.{Extent}
use Rattle.c_types.specs.Table.{Table, type_of, extent_in}
use Rattle.c_types.specs.Made.{IsMade}
use Rattle.core_tree.specs.declared.node.Program.{Program}
use Rattle.core_tree.specs.declared.node.Node.{Node}
use Rattle.core_tree.specs.declared.node.NodeKind.{NodeKind}
use Rattle.core_tree.specs.declared.node.NodeKind.TheVariants.{Initialise}
use Rattle.core_tree.specs.declared.node.Entity.{Entity}
use Rattle.core_tree.specs.declared.node.Linkage.{Linkage}
use Rattle.core_tree.specs.declared.node.Linkage.TheVariants.{External, Internal, Local}
use Rattle.core_tree.specs.declared.node.Storage.{Storage}
use Rattle.core_tree.specs.declared.node.Storage.TheVariants.{Static, Automatic, Parameter, FunctionBody, Declared}
use Rattle.core_tree.specs.Typed.{CoreTrees, type_at, trees_in}
use Rattle.lib_summaries.specs.Table.{summary_of}
use Rattle.obj_made.specs.declared.object.Content.TheVariants.{Typed}
use Rattle.obj_made.specs.Made.{entity_content}
use Rattle.obj_space.specs.declared.location.Location.{Location}
use Rattle.obj_space.specs.Parts.{Part, nodes_of as tree_nodes, parts_of, is_collapsed}
use Rattle.obj_space.specs.Space.{locations_in}
use Rattle.obj_space.specs.Spots.{HasWholes, Reached, type_made}
use Rattle.obj_space.specs.View.{SpaceView, collapsed_of, first_from, view_of}
use Rattle.obj_space.proofs.Placed.{get_mapped}
use Rattle.obj_space.proofs.Preorder.{same_nodes}
use Rattle.row_numbers.specs.Kept.{nodes_in, nodes_of}
use Rattle.row_numbers.specs.Objects.{is_open, library_key, entity_key, location_of}
use Rattle.normal_form.specs.Assignments.{path_node, target_node, spot}
use Rattle.normal_form.specs.Spots.{AreSpotted, KindSpotted}
use Rattle.linked_laws.proofs.system_laws.parameter_laws.Contents.{content_of}
use Rattle.linked_laws.proofs.system_laws.parameter_laws.Fitting.{is_first, all_nodes}
use Rattle.linked_laws.specs.alike_laws.Alike.{IsClosed}
use Rattle.linked_laws.specs.initial_laws.Initials.{Fills, AllFill}
use Rattle.linked_laws.specs.system_laws.item_laws.Items.{HasPlace, IsPlacedIn, KindPlaced, SpotsFit}
use Rattle.linked_laws.proofs.system_laws.item_laws.Objects.{entity_begins}
use Rattle.linked_laws.proofs.system_laws.item_laws.Along.{path_complete, union_node_of, Holds, InUnion, along}

some_one : {X : Type 0} → {x y : X} → ◌≡◌ {A = Option X} (Some x) (Some y) → x ≡ y
some_one h = cc

none_some : {X : Type 0} → {x : X} → ◌≡◌ {A = Option X} None (Some x) → ⊥
none_some h = cc

present : (xs : List Ctype) (k : ℕ) → k < length xs → (x : Ctype) × (slice_get xs k ≡ Some x)
present [] k lt = absurd (omega arith)
present (x ∷ xs) zero lt = (x, refl)
present (x ∷ xs) (suc k) lt = present xs k (omega arith)

-- an object that has its place is its entity's own
own_storage : (linkage : Linkage) (storage : Storage) → HasPlace storage → is_open linkage storage ≡ false
own_storage External Static h = refl
own_storage External Automatic h = refl
own_storage External Parameter h = refl
own_storage External FunctionBody h = refl
own_storage External Declared h = absurd h
own_storage Internal storage h = refl
own_storage Local storage h = refl

placed_content : (storage : Storage) (id : TypeId) → HasPlace storage → entity_content storage id ≡ Typed id
placed_content Static id h = refl
placed_content Automatic id h = refl
placed_content Parameter id h = refl
placed_content FunctionBody id h = absurd h
placed_content Declared id h = absurd h

-- a type that isn't closed has no nodes
open_nodes : (table : Table) (t : Ctype) → (IsClosed t → ⊥) → nodes_of table t ≡ []
open_nodes table (FunctionFrom r ps f) loose = refl
open_nodes table (ArrayOf of None) loose = refl
open_nodes table (ArrayOf of (Some n)) loose = absurd (loose tt)
open_nodes table t loose = absurd (loose tt)

no_extent : (o : Option Extent) → (IsSome o → ⊥) → nodes_in o ≡ []
no_extent None h = refl
no_extent (Some e) h = absurd (h refl)

some_or : (o : Option Extent) → IsSome o ⊎ (IsSome o → ⊥)
some_or None = inr (λ h. false≢true h)
some_or (Some e) = inl refl

-- what a value with these nodes is put at is a location, and unless it is collapsed so are the nodes behind it
pub record IsPut (space : List Location) (location : ℕ) (nodes : List Ctype) : Type 0 where
  pub here : 0 < length nodes → location < length space
  pub each : collapsed_of (slice_get space location) ≡ false → (i : ℕ) → i < length nodes → location + i < length space

module _ (p : Program) (space : List Location) (is_space : space ≡ locations_in p) (made : IsMade p.types) (wholes : HasWholes p.types space) (few : length space < 2 ^ 32) where
  abbrev tree : CoreTrees
  tree = trees_in p

  abbrev view : SpaceView
  view = view_of space

  module _ (e : ℕ) (x : Entity) (at : slice_get p.entities.items e ≡ Some x) (has_place : HasPlace x.storage) where
    abbrev t : Ctype
    t = type_of p.types x.ty.0

    abbrev whole : List Ctype
    whole = tree_nodes (extent_in p.types t)

    location_is : location_of tree view e ≡ unwrap_or (first_from 0 space (EntityKey e)) 0
    location_is =
        let key : entity_key e (slice_get p.entities.items e) ≡ EntityKey e =
        ap (entity_key e) at
        ∙ ap (λ (b : Bool). option_map_or library_key (cond b (option_map (λ found. found.number) (summary_of x.name)) None) (EntityKey e)) (own_storage x.linkage x.storage has_place) in
        ap (λ (k : ObjectKey). unwrap_or (first_from 0 space k) 0) key

    target_is : (path : List PathStep) → target_node tree e path ≡ path_node p.types (Some t) path
    target_is path = ap (λ (o : Option Entity). path_node p.types (option_map (λ id. type_of p.types id.0) (option_map (λ (y : Entity). y.ty) o)) path) at

    -- its nodes are locations
    node_there : (l : ℕ) → first_from 0 space (EntityKey e) ≡ Some l → (i : ℕ) (b : Ctype) → slice_get whole i ≡ Some b → (y : Location) × (slice_get space (l + i) ≡ Some y) × (y.collapsed ≡ is_collapsed b)
    node_there l first i b node =
        let begins = is_first space (EntityKey e) l first in
        let (y, y_at, y_key) = begins.here in
        let fits = content_of p l y (ap (λ (list : List Location). slice_get list l) (sym is_space) ∙ y_at) e y_key in
        let same : fits.0 ≡ x = some_one (sym fits.1 ∙ at) in
        let content : y.content ≡ Typed x.ty = fits.2 ∙ (ap (λ (z : Entity). entity_content z.storage z.ty) same ∙ placed_content x.storage x.ty has_place) in
        let there = wholes (EntityKey e) l y x.ty i b begins y_at (ap type_made content) node in
        (there.0, there.1, there.2.2)

    begins_at : (i : ℕ) (b : Ctype) → slice_get whole i ≡ Some b → (l : ℕ) × (first_from 0 space (EntityKey e) ≡ Some l)
    begins_at i b node =
        let part = get_mapped (λ (q : Part). q.ty) (parts_of p.types t) i b (ap (λ (ts : List Ctype). slice_get ts i) (same_nodes p.types made t) ∙ node) in
        let (l, first) = entity_begins p e x i part.0 at has_place part.1 in
        (l, ap (λ (list : List Location). first_from 0 list (EntityKey e)) is_space ∙ first)

    -- one item, by where its part stands
    module _ (path : List PathStep) (v : ℕ) where
      abbrev s : Ctype
      s = type_at tree v

      location_at : (n : ℕ) → path_node p.types (Some t) path ≡ n → (l : ℕ) → first_from 0 space (EntityKey e) ≡ Some l → spot tree view e path ≡ l + n
      location_at n is l first =
          ap (λ (k : ℕ). k + target_node tree e path) (location_is ∙ ap (λ (o : Option ℕ). unwrap_or o 0) first) ∙ ap (λ (k : ℕ). l + k) (target_is path ∙ is)

      node_within : (n : ℕ) → path_node p.types (Some t) path ≡ n → Holds p.types made whole s n → (i : ℕ) → i < length (nodes_of p.types s) → spot tree view e path + i < length space
      node_within n is h i lt =
          let (b, own) = present (nodes_of p.types s) i lt in
          let node = h.stands i b (all_nodes (extent_in p.types s) i b own) in
          let (l, first) = begins_at (n + i) b node in
          let there = node_there l first (n + i) b node in
          let less = slice_get_within space (l + (n + i)) there.0 there.1 in
          let at_l = location_at n is l first in
          omega arith

      held_put : (n : ℕ) → path_node p.types (Some t) path ≡ n → Holds p.types made whole s n → IsPut space (spot tree view e path) (nodes_of p.types s)
      held_put n is h = record {
        here = λ lt. (let less = node_within n is h 0 lt in omega arith);
        each = λ apart i lt. node_within n is h i lt;
      }

      union_put : (n : ℕ) → path_node p.types (Some t) path ≡ n → InUnion p.types made whole n → IsPut space (spot tree view e path) (nodes_of p.types s)
      union_put n is u =
          let node = u.holds.stands 0 (UnionOf u.tag) (union_node_of p.types made u.tag u.holds.complete) in
          let (l, first) = begins_at (n + 0) (UnionOf u.tag) node in
          let there = node_there l first (n + 0) (UnionOf u.tag) node in
          let less = slice_get_within space (l + (n + 0)) there.0 there.1 in
          let at_l = location_at n is l first in
          let here : l + (n + 0) ≡ spot tree view e path = omega arith in
          let collapsed : collapsed_of (slice_get space (spot tree view e path)) ≡ true = ap collapsed_of (ap (slice_get space) (sym here) ∙ there.1) ∙ there.2 in
          record {
            here = λ lt. omega arith;
            each = λ apart i lt. absurd (false≢true (sym apart ∙ collapsed));
          }

      nothing_put : nodes_of p.types s ≡ [] → IsPut space (spot tree view e path) (nodes_of p.types s)
      nothing_put none =
          let zero_is : length (nodes_of p.types s) ≡ 0 = ap (λ (l : List Ctype). length l) none in
          record { here = λ lt. absurd (omega arith); each = λ apart i lt. absurd (omega arith) }

      pub item_put : Fills tree t path v → IsPut space (spot tree view e path) (nodes_of p.types s)
      item_put (inr loose) = nothing_put (open_nodes p.types s loose)
      item_put (inl there) = elim (some_or (extent_in p.types s)) [
        | inr none ↦ nothing_put (no_extent (extent_in p.types s) none)
        | inl complete ↦
            let start : Holds p.types made whole t 0 = record {
              complete = path_complete p.types made path t s there complete;
              stands = λ j b node. (let here : 0 + j ≡ j = omega arith in ap (slice_get whole) here ∙ node);
            } in
            let led = along p.types made whole path t s 0 start there in
            let is : path_node p.types (Some t) path ≡ led.part.node = ap (λ (o : Option Reached). unwrap_or (option_map (λ (r : Reached). r.node) o) 0) led.part_is in
            elim (led.there) [ inl h ↦ held_put led.part.node is h | inr u ↦ union_put led.part.node is u ]
      ]

    all_spotted : (paths : List (List PathStep)) (values : List ℕ) → AllFill tree t paths values → AreSpotted tree view e paths values
    all_spotted [] values h = tt
    all_spotted (path ∷ paths) [] h = tt
    all_spotted (path ∷ paths) (v ∷ values) h = (let put = item_put path v h.1 in put.here, all_spotted paths values h.2)

pub entity_of : (o : Option Entity) → IsPlacedIn o → (x : Entity) × (o ≡ Some x) × HasPlace x.storage
entity_of None h = absurd h
entity_of (Some x) h = (x, refl, h)

pub spots_fit : SpotsFit
spots_fit p space is_space made wholes few initials placed = λ n node at. by n node at node.kind refl
  where
    by : (n : ℕ) (node : Node) → slice_get p.nodes.items n ≡ Some node → (kind : NodeKind) → node.kind ≡ kind → KindSpotted (trees_in p) (view_of space) kind node.children
    by n node at (Initialise e paths) is =
        let (x, x_at, has_place) = entity_of (slice_get p.entities.items e) (subst (KindPlaced p) is (placed n node at)) in
        all_spotted p space is_space made wholes few e x x_at has_place paths node.children (initials.each n node e paths x at is x_at)
    by n node at kind is = tt
