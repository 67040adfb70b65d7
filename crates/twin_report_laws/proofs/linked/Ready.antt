-- What is known of a program that is linked from units which are right for texts.
use Rattle.std.proofs.Common.{arith, ◌≡◌, ◌∙◌, ◌+◌, ◌*◌, ◌/◌, ◌^◌, ◌<◌, ◌≤◌, ℕ, List, [], ◌∷◌, length, Option, Some, None, refl, sym, ap, subst, inl, inr}
use Rattle.std.specs.List.{slice_get, All, AllZip}
use Rattle.std.specs.Option.{option_map}
use Rattle.std.specs.Prelude.{IfSome}
use Rattle.std.proofs.lemmas.Bool.{cases_lt}
use Rattle.std.proofs.lemmas.Nat.{mul-le}
use Rattle.std.proofs.lemmas.List.Elements.{All-nil, All-cons, All-map}
use Rattle.std.proofs.lemmas.Option.{slice_get_within}
use Rattle.c_types.specs.Made.{IsMade, AreNamed}
use Rattle.core_tree.specs.declared.node.Unit.{Unit}
use Rattle.core_tree.specs.declared.node.Program.{Program}
use Rattle.core_tree.specs.declared.node.Node.{Node}
use Rattle.core_tree.specs.declared.node.Entity.{Entity}
use Rattle.core_tree.specs.declared.node.NodeKind.{NodeKind}
use Rattle.core_tree.specs.declared.node.NodeKind.TheVariants.{Named, FunctionName, Literal, Block, For, Initialise}
use Rattle.core_tree.specs.Typed.{trees_of}
use Rattle.core_tree.specs.Range.{InRange, named_by}
use Rattle.link_model.specs.Units.{item}
use Rattle.link_merge.specs.Tags.{AreMade}
use Rattle.link_model.specs.filled_units.Filled.{AreFilled}
use Rattle.unit_link.specs.Linked.{IsOfName, LinkedAt}
use Rattle.unit_link.specs.Needs.{AreLinkable}
use Rattle.unit_link.specs.Places.{node_place, kind_renamed}
use Rattle.linked_laws.proofs.Origins.{node_from, entity_from, number_within, entity_item}
use Rattle.linked_laws.specs.merged_laws.Merged.{AreTables}
use Rattle.linked_laws.proofs.embedded_laws.Whole.{linked_trees}
use Rattle.linked_laws.proofs.row_laws.Whole.{linked_in_rows}
use Rattle.obj_space.specs.Space.{locations_in}
use Rattle.obj_space.specs.Objects.{objects_of}
use Rattle.obj_space.specs.Spots.{HasWholes}
use Rattle.obj_space.proofs.Begins.{all_begin}
use Rattle.sol_model.specs.declared.system.System.{System}
use Rattle.sol_model.specs.Systems.{IsValid, location_count}
use Rattle.linked_laws.proofs.system_laws.filled_laws.Placed.{linked_placed}
use Rattle.unit_report.proofs.unit_system.Rightness.{right_of}
use Rattle.unit_report.proofs.unit_system.Validity.{some_located}
use Rattle.twin_report_laws.specs.rows.Ready.{IsReady}

named_renamed : (f : ℕ → ℕ) (kind : NodeKind) → named_by (kind_renamed f kind) ≡ option_map f (named_by kind)
named_renamed f (Named e) = refl
named_renamed f (FunctionName e) = refl
named_renamed f (Literal e) = refl
named_renamed f (Initialise e paths) = refl
named_renamed f (Block es) = refl
named_renamed f (For es c a) = refl
named_renamed f kind = refl

some_mapped : (f : ℕ → ℕ) (P Q : ℕ → Type 0) (o : Option ℕ) → ((x : ℕ) → P x → Q (f x)) → IfSome o P → IfSome (option_map f o) Q
some_mapped f P Q None g h = h
some_mapped f P Q (Some x) g h = g x h

module _ {entered : List (List ℕ)} (units : List Unit) (p : Program) (linkable : AreLinkable units) (h : LinkedAt entered units p) where
  range_of : (u : ℕ) (of : Unit) → slice_get units u ≡ Some of → InRange (trees_of of)
  range_of u of is = (linkable.valid u of is).trees.in_range

  named_below : (u e : ℕ) (of : Unit) → slice_get units u ≡ Some of → e < length of.entities.items → h.entity_numbers u e < length p.entities.items
  named_below u e of is lt = let (x, at) = entity_item units p h u e of is lt in number_within units p h (item u e) x at

  children_first : (n : ℕ) (node : Node) → slice_get p.nodes.items n ≡ Some node → All (λ c. c < n) node.children
  children_first n node at =
      let f = node_from units p h n node at in
      let place = f.place in
      let own = (range_of f.unit f.of f.of_is).children f.number f.own f.own_is in
      subst (λ (l : List ℕ). All (λ c. c < n) l) (sym f.moved.children)
      (All-map (λ c. c < n) (node_place units f.unit) f.own.children (λ k d lt. let less = own k d lt in omega arith))

  entities_named : (n : ℕ) (node : Node) → slice_get p.nodes.items n ≡ Some node → IfSome (named_by node.kind) (λ e. e < length p.entities.items)
  entities_named n node at =
      let f = node_from units p h n node at in
      subst (λ (o : Option ℕ). IfSome o (λ e. e < length p.entities.items)) (sym (ap named_by f.moved.kind ∙ named_renamed (h.entity_numbers f.unit) f.own.kind))
      (some_mapped (h.entity_numbers f.unit) (λ e. e < length f.of.entities.items) (λ e. e < length p.entities.items) (named_by f.own.kind) (λ e lt. named_below f.unit e f.of f.of_is lt)
      ((range_of f.unit f.of f.of_is).entities f.number f.own f.own_is))

  owners_within : (e : ℕ) (entity : Entity) → slice_get p.entities.items e ≡ Some entity → IfSome entity.owner (λ f. f < length p.entities.items)
  owners_within e entity at =
      let f = entity_from units p h e entity at in
      subst (λ (o : Option ℕ). IfSome o (λ e. e < length p.entities.items)) (sym f.moved.owner)
      (some_mapped (h.entity_numbers f.unit) (λ e. e < length f.of.entities.items) (λ e. e < length p.entities.items) f.own.owner (λ e lt. named_below f.unit e f.of f.of_is lt)
      ((range_of f.unit f.of f.of_is).owners f.number f.own f.own_is))

  entries_within : (names : List (List ℕ)) (es : List ℕ) → AllZip (IsOfName p) names es → All (λ e. e < length p.entities.items) es
  entries_within [] [] z = All-nil (λ e. e < length p.entities.items)
  entries_within [] (e ∷ es) z = absurd z
  entries_within (name ∷ names) [] z = absurd z
  entries_within (name ∷ names) (e ∷ es) z =
      All-cons (λ e. e < length p.entities.items) e es (slice_get_within p.entities.items e z.0.entity z.0.entity_is) (entries_within names es z.1)

  wholes_of : IsMade p.types → HasWholes p.types (locations_in p)
  unfolding locations_in
  wholes_of made = all_begin p.types made (objects_of p)

  pub ready_of : AreMade units → AreFilled units → IsMade p.types → AreNamed p.types → length (locations_in p) < 2 ^ 32 → IsReady p
  ready_of told filled made named few =
      let tables : AreTables units = record { made = told.made; named = told.named } in
      let right = right_of units p linkable told made named h in
      record {
        trees = linked_trees units p linkable h;
        rows = linked_in_rows units p linkable tables filled h made;
        children = children_first;
        named = entities_named;
        owners = owners_within;
        entries = entries_within entered p.entries.items h.entries;
        fit = right.tags;
        values = right.values;
        returns = right.returns;
        initials = right.initials;
        placed = linked_placed units p linkable filled h;
        wholes = wholes_of made;
        some = some_located p (locations_in p) refl right;
        few = few;
      }

-- a valid system has fewer locations than numbers of 32 bits
pub few_locations : (system : System) → IsValid system → location_count system < 2 ^ 32
few_locations system valid = elim (cases_lt (location_count system) (2 ^ 32)) [
  | inl lt ↦ lt
  | inr past ↦
      let rows = valid.rows in
      let size = valid.size in
      let one : 1 ≤ (location_count system + 63) / 64 = omega (arith, past) in
      let more : system.rows * 1 ≤ system.rows * ((location_count system + 63) / 64) = mul-le system.rows 1 system.rows ((location_count system + 63) / 64) (omega arith) one in
      omega (arith, past, rows, size, more)
]
