-- What nodes and entities of a linked program name is in range.
use Rattle.std.proofs.Common.{arith, ◌≡◌, ◌∙◌, ℕ, ◌<◌, List, length, map, Option, Some, None, refl, sym, ap, subst}
use Rattle.std.specs.List.{slice_get, All}
use Rattle.std.specs.Option.{option_map}
use Rattle.std.specs.Prelude.{IfSome}
use Rattle.std.proofs.lemmas.List.Elements.{All-map}
use Rattle.core_tree.specs.declared.node.Unit.{Unit}
use Rattle.core_tree.specs.declared.node.Program.{Program}
use Rattle.core_tree.specs.declared.node.Node.{Node}
use Rattle.core_tree.specs.declared.node.NodeKind.{NodeKind}
use Rattle.core_tree.specs.declared.node.NodeKind.TheVariants.{Named, FunctionName, Literal, Block, For, Initialise}
use Rattle.core_tree.specs.Typed.{trees_in, trees_of}
use Rattle.core_tree.specs.Range.{InRange, named_by, listed_by}
use Rattle.link_model.specs.Units.{item}
use Rattle.unit_link.specs.Linked.{LinkedAt}
use Rattle.unit_link.specs.Needs.{AreLinkable}
use Rattle.unit_link.specs.Places.{node_place, kind_renamed}
use Rattle.linked_laws.specs.Ranges.{HasTypes}
use Rattle.linked_laws.proofs.Origins.{node_from, entity_from, number_within, place_within, entity_item}

named_renamed : (f : ℕ → ℕ) (kind : NodeKind) → named_by (kind_renamed f kind) ≡ option_map f (named_by kind)
named_renamed f (Named e) = refl
named_renamed f (FunctionName e) = refl
named_renamed f (Literal e) = refl
named_renamed f (Initialise e paths) = refl
named_renamed f (Block es) = refl
named_renamed f (For es c a) = refl
named_renamed f kind = refl

listed_renamed : (f : ℕ → ℕ) (kind : NodeKind) → listed_by (kind_renamed f kind) ≡ map f (listed_by kind)
listed_renamed f (Block es) = refl
listed_renamed f (For es c a) = refl
listed_renamed f kind = refl

some_mapped : (f : ℕ → ℕ) (P Q : ℕ → Type 0) (o : Option ℕ) → ((x : ℕ) → P x → Q (f x)) → IfSome o P → IfSome (option_map f o) Q
some_mapped f P Q None g h = h
some_mapped f P Q (Some x) g h = g x h

module _ {names : List (List ℕ)} (units : List Unit) (p : Program) (linkable : AreLinkable units) (h : LinkedAt names units p) where
  range_of : (u : ℕ) (of : Unit) → slice_get units u ≡ Some of → InRange (trees_of of)
  range_of u of is = (linkable.valid u of is).trees.in_range

  named_below : (u e : ℕ) (of : Unit) → slice_get units u ≡ Some of → e < length of.entities.items → h.entity_numbers u e < length p.entities.items
  named_below u e of is lt = let (x, at) = entity_item units p h u e of is lt in number_within units p h (item u e) x at

  children_first : (n : ℕ) (node : Node) → slice_get p.nodes.items n ≡ Some node → All (λ c. c < n) node.children
  children_first n node at =
      let f = node_from units p h n node at in
      let place = f.place in
      let own = (range_of f.unit f.of f.of_is).children f.number f.own f.own_is in
      subst (λ (l : List ℕ). All (λ c. c < n) l) (sym f.moved.children)
      (All-map (λ c. c < n) (node_place units f.unit) f.own.children (λ k d lt. let less = own k d lt in omega arith))

  entities_named : (n : ℕ) (node : Node) → slice_get p.nodes.items n ≡ Some node → IfSome (named_by node.kind) (λ e. e < length p.entities.items)
  entities_named n node at =
      let f = node_from units p h n node at in
      subst (λ (o : Option ℕ). IfSome o (λ e. e < length p.entities.items)) (sym (ap named_by f.moved.kind ∙ named_renamed (h.entity_numbers f.unit) f.own.kind))
      (some_mapped (h.entity_numbers f.unit) (λ e. e < length f.of.entities.items) (λ e. e < length p.entities.items) (named_by f.own.kind) (λ e lt. named_below f.unit e f.of f.of_is lt)
      ((range_of f.unit f.of f.of_is).entities f.number f.own f.own_is))

  entities_listed : (n : ℕ) (node : Node) → slice_get p.nodes.items n ≡ Some node → All (λ e. e < length p.entities.items) (listed_by node.kind)
  entities_listed n node at =
      let f = node_from units p h n node at in
      let own = (range_of f.unit f.of f.of_is).lists f.number f.own f.own_is in
      subst (λ (l : List ℕ). All (λ e. e < length p.entities.items) l) (sym (ap listed_by f.moved.kind ∙ listed_renamed (h.entity_numbers f.unit) f.own.kind))
      (All-map (λ e. e < length p.entities.items) (h.entity_numbers f.unit) (listed_by f.own.kind) (λ k d lt. named_below f.unit _ f.of f.of_is (own k d lt)))

  pub in_range : HasTypes p → InRange (trees_in p)
  in_range types = record {
    types = types.nodes;
    children = children_first;
    entities = entities_named;
    lists = entities_listed;
    entity_types = types.entities;
    owners = λ e entity at.
        let f = entity_from units p h e entity at in
        subst (λ (o : Option ℕ). IfSome o (λ e. e < length p.entities.items)) (sym f.moved.owner)
        (some_mapped (h.entity_numbers f.unit) (λ e. e < length f.of.entities.items) (λ e. e < length p.entities.items) f.own.owner (λ e lt. named_below f.unit e f.of f.of_is lt)
        ((range_of f.unit f.of f.of_is).owners f.number f.own f.own_is));
    bodies = λ e entity at.
        let f = entity_from units p h e entity at in
        subst (λ (o : Option ℕ). IfSome o (λ b. b < length p.nodes.items)) (sym f.moved.body)
        (some_mapped (node_place units f.unit) (λ b. b < length f.of.nodes.items) (λ b. b < length p.nodes.items) f.own.body (λ b lt. place_within units p h f.unit b f.of f.of_is lt)
        ((range_of f.unit f.of f.of_is).bodies f.number f.own f.own_is));
  }
