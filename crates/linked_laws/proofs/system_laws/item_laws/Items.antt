-- Items of initialisers are put at locations.
use Rattle.std.proofs.Common.{arith, ◌≡◌, ℕ, ◌+◌, ◌^◌, ◌<◌, ◌≤◌, Bool, true, false, List, [], ◌∷◌, length, get_or, take, Option, Some, slice_get, refl, subst}
use Rattle.std.specs.List.{All}
use Rattle.std.proofs.lemmas.List.Elements.{All-nil, All-map, All-append}
use Rattle.c_types.specs.declared.term.PathStep.{PathStep}
use Rattle.c_types.specs.Trees.{Ctype}
use Rattle.c_types.specs.Table.{type_of}
use Rattle.c_types.specs.Made.{IsMade}
use Rattle.core_tree.specs.declared.node.Program.{Program}
use Rattle.core_tree.specs.declared.node.Entity.{Entity}
use Rattle.core_tree.specs.Typed.{CoreTrees, ValueNode, sort_at, type_at, trees_in}
use Rattle.sol_model.specs.declared.system.System.{System}
use Rattle.obj_space.specs.declared.location.Location.{Location}
use Rattle.obj_space.specs.Space.{locations_in}
use Rattle.obj_space.specs.Spots.{HasWholes}
use Rattle.obj_space.specs.View.{SpaceView, collapsed_of, view_of}
use Rattle.row_numbers.specs.Kept.{nodes_of, kept, kept_count, kept_row}
use Rattle.row_numbers.specs.Setting.{Setting, row, none_row}
use Rattle.row_numbers.proofs.FrameLemmas.{locations_within}
use Rattle.row_numbers.proofs.KeptLemmas.{kept_below}
use Rattle.normal_form.specs.declared.normal.Assignment.{Assignment}
use Rattle.normal_form.specs.declared.normal.Assignment.TheVariants.{Copy}
use Rattle.normal_form.specs.Assignments.{spot, put_at, item_row, initialise_row}
use Rattle.normal_form.specs.SystemOf.{SystemOf, setting_of}
use Rattle.linked_laws.proofs.system_laws.Rows.{kept_fewer}
use Rattle.linked_laws.specs.initial_laws.Initials.{Fills, AllFill}
use Rattle.linked_laws.proofs.system_laws.demand_laws.Fitting.{Fits, row_in, value_fit}
use Rattle.linked_laws.specs.system_laws.item_laws.Items.{HasPlace, KindPlaced, ItemsFit}
use Rattle.linked_laws.proofs.system_laws.item_laws.Spots.{item_put, entity_of}

module _ (p : Program) (space : List Location) (is_space : space ≡ locations_in p) (system : System) (is : SystemOf p (view_of space) system) (made : IsMade p.types) (wholes : HasWholes p.types space) (few : length space < 2 ^ 32) (owners : List (Option ℕ)) where
  abbrev w : Setting
  w = setting_of p (view_of space) owners

  abbrev tree : CoreTrees
  tree = trees_in p

  abbrev view : SpaceView
  view = view_of space

  abbrev Right : Assignment → Type 0
  Right a = Fits p space system is a

  put_right : (ns : List Ctype) (b : Bool) (location from : ℕ) → (0 < length ns → location ≤ none_row tree view) → (b ≡ false → (i : ℕ) → i < length ns → location + i ≤ none_row tree view) → from + kept_count ns ≤ none_row tree view
      → All Right (put_at ns b location from)
  put_right ns true location from one each fit =
      All-map Right (λ i. Copy location (kept_row from ns i)) (kept ns)
      (λ k d lt.
      let i = get_or (kept ns) k d in
      let less = kept_below ns (length ns) (omega arith) k d lt in
      let fewer = kept_fewer ns i in
      (row_in p space system is (from + kept_count (take i ns)) (omega arith), row_in p space system is location (one (omega arith))))
  put_right ns false location from one each fit =
      All-map Right (λ i. Copy (location + i) (kept_row from ns i)) (kept ns)
      (λ k d lt.
      let i = get_or (kept ns) k d in
      let less = kept_below ns (length ns) (omega arith) k d lt in
      let fewer = kept_fewer ns i in
      (row_in p space system is (from + kept_count (take i ns)) (omega arith), row_in p space system is (location + i) (each refl i less)))

  module _ (e : ℕ) (x : Entity) (at : slice_get p.entities.items e ≡ Some x) (has_place : HasPlace x.storage) where
    abbrev t : Ctype
    t = type_of p.types x.ty.0

    item_right : (path : List PathStep) (v : ℕ) → sort_at tree v ≡ ValueNode → Fills tree t path v → All Right (item_row w e path v)
    item_right path v sort fills =
        let s = type_at tree v in
        let put = item_put p space is_space made wholes few e x at has_place path v fills in
        let bound = locations_within tree view in
        put_right (nodes_of p.types s) (collapsed_of (slice_get space (spot tree view e path))) (spot tree view e path) (row tree view v)
        (λ lt. let less = put.here lt in omega arith)
        (λ apart i lt. let less = put.each apart i lt in omega arith)
        (value_fit p space system is v s sort refl)

    all_right : (paths : List (List PathStep)) (values : List ℕ) → AllFill tree t paths values → All Right (initialise_row w e paths values)
    all_right [] values h = All-nil Right
    all_right (path ∷ paths) [] h = All-nil Right
    all_right (path ∷ paths) (v ∷ values) h = All-append Right (item_row w e path v) (initialise_row w e paths values) (item_right path v h.0 h.1) (all_right paths values h.2)

pub items_fit : ItemsFit
items_fit p space system is_space is made wholes few initials placed = record {
  each = λ n node e paths owners at kind.
      let (x, x_at, has_place) = entity_of (slice_get p.entities.items e) (subst (KindPlaced p) kind (placed n node at)) in
      all_right p space is_space system is made wholes few owners e x x_at has_place paths node.children (initials.each n node e paths x at kind x_at);
}
