-- Which nodes of the program list which entities.
use Rattle.std.proofs.Common.{◌≡◌, ◌∙◌, ℕ, ◌<◌, List, length, map, Option, Some, None, All, refl, sym, ap, subst}
use Rattle.std.specs.Prelude.{IfSome}
use Rattle.std.specs.List.{slice_get}
use Rattle.std.specs.Option.{option_map}
use Rattle.core_tree.specs.declared.node.Unit.{Unit}
use Rattle.core_tree.specs.declared.node.Program.{Program}
use Rattle.core_tree.specs.declared.node.Node.{Node}
use Rattle.core_tree.specs.declared.node.Entity.{Entity}
use Rattle.core_tree.specs.declared.node.Storage.TheVariants.{Automatic}
use Rattle.core_tree.specs.declared.node.NodeKind.{NodeKind}
use Rattle.core_tree.specs.declared.node.NodeKind.TheVariants.{Named, Literal, Initialise}
use Rattle.core_tree.specs.Typed.{trees_in, trees_of}
use Rattle.core_tree.specs.Range.{Under, named_by, listed_by, listed_in, HoldsOnce, OnceHeld}
use Rattle.core_tree.specs.Rows.{Has}
use Rattle.core_tree.specs.Valid.{Valid, IsLocal, InOwnersBody, IsLiteralOf, NoLiteral, IsNamedOrMade, NamesUnder, IsLister, HasLister, Listed, IsListed, AllListed, IsListableIn, IsListable, ListsRight}
use Rattle.link_names.specs.Externals.{IsExternal}
use Rattle.unit_link.specs.Linked.{LinkedAt}
use Rattle.unit_link.specs.Needs.{AreLinkable}
use Rattle.unit_link.specs.Places.{node_place}
use Rattle.linked_laws.proofs.embedded_laws.Lists.{mapped_at, has_mapped, all_at, all_mapped}
use Rattle.linked_laws.proofs.embedded_laws.Renaming.{listed_renamed, literal_to, literal_back, made_back}
use Rattle.linked_laws.proofs.embedded_laws.Nodes.{Moves, each_node, under_to}
use Rattle.linked_laws.proofs.embedded_laws.Entities.{each_moved, stands_at, local_moves}
use Rattle.linked_laws.proofs.embedded_laws.Inside.{IsSame, same_entity, in_body_to, owners_to}

automatic_local : (x : Entity) → x.storage ≡ Automatic → IsExternal x → ⊥
automatic_local x e external = external.lasting (subst IsLocal (sym e) tt)

module _ {names : List (List ℕ)} (units : List Unit) (p : Program) (linkable : AreLinkable units) (h : LinkedAt names units p) where
  valid : (u : ℕ) (of : Unit) → slice_get units u ≡ Some of → Valid (trees_of of)
  valid u of is = (linkable.valid u of is).trees

  -- the entities that a node of a unit names or lists are the unit's
  literal_within : (v j : ℕ) (other : Unit) (z : Node) → slice_get units v ≡ Some other → slice_get other.nodes.items j ≡ Some z → (o : ℕ) → IsLiteralOf z.kind o → o < length other.entities.items
  literal_within v j other z there z_at o own = by z.kind ((valid v other there).in_range.entities j z z_at) own
    where
      by : (kind : NodeKind) → IfSome (named_by kind) (λ e. e < length other.entities.items) → IsLiteralOf kind o → o < length other.entities.items
      by (Literal d) within its = subst (λ (k : ℕ). k < length other.entities.items) its within
      by kind within its = absurd its

  made_within : (v j : ℕ) (other : Unit) (z : Node) → slice_get units v ≡ Some other → slice_get other.nodes.items j ≡ Some z → (o : ℕ) → IsNamedOrMade z.kind o → o < length other.entities.items
  made_within v j other z there z_at o own = by z.kind ((valid v other there).in_range.entities j z z_at) own
    where
      by : (kind : NodeKind) → IfSome (named_by kind) (λ e. e < length other.entities.items) → IsNamedOrMade kind o → o < length other.entities.items
      by (Named d) within its = subst (λ (k : ℕ). k < length other.entities.items) its within
      by (Initialise d paths) within its = subst (λ (k : ℕ). k < length other.entities.items) its within
      by kind within its = absurd its

  listed_within : (v j : ℕ) (other : Unit) (z : Node) → slice_get units v ≡ Some other → slice_get other.nodes.items j ≡ Some z → (o k : ℕ) → slice_get (listed_in z) k ≡ Some o → o < length other.entities.items
  listed_within v j other z there z_at o k at = all_at (λ e. e < length other.entities.items) (listed_in z) k o ((valid v other there).in_range.lists j z z_at) at

  -- a node's list in its unit
  record IsPlaceIn (v j : ℕ) (other : Unit) (z : Node) (k e : ℕ) : Type 0 where
    number : ℕ
    at : slice_get (listed_in z) k ≡ Some number
    number_is : h.entity_numbers v number ≡ e
    within : number < length other.entities.items

  place_in : (v j : ℕ) (other : Unit) (z m : Node) → slice_get units v ≡ Some other → slice_get other.nodes.items j ≡ Some z → Moves units p linkable h v z m → (k e : ℕ) → slice_get (listed_in m) k ≡ Some e → IsPlaceIn v j other z k e
  place_in v j other z m there z_at moves k e at =
      let list : listed_in m ≡ map (h.entity_numbers v) (listed_in z) = ap listed_by moves.kind ∙ listed_renamed (h.entity_numbers v) z.kind in
      let (c, own, c_is) = mapped_at (h.entity_numbers v) (listed_in z) k e (sym (ap (λ (l : List ℕ). slice_get l k) list) ∙ at) in
      record { number = c; at = own; number_is = c_is; within = listed_within v j other z there z_at c k own }

  module _ (u e : ℕ) (of : Unit) (x : Entity) (is : slice_get units u ≡ Some of) (at : slice_get of.entities.items e ≡ Some x) (local : IsExternal x → ⊥) where
    same : (v o : ℕ) (other : Unit) → slice_get units v ≡ Some other → o < length other.entities.items → h.entity_numbers v o ≡ h.entity_numbers u e → IsSame units p linkable h u e of v o other
    same v o other there within number = same_entity units p linkable h u e of x v o other is at local there within number

    no_literal_back : NoLiteral (trees_in p) (h.entity_numbers u e) → NoLiteral (trees_of of) e
    no_literal_back none = record {
      each = λ i z z_at makes.
          let m = h.nodes.each u i of z is z_at in
          none.each (node_place units u i) m.node m.node_is (subst (λ (k : NodeKind). IsLiteralOf k (h.entity_numbers u e)) (sym m.moved.kind) (literal_to (h.entity_numbers u) z.kind e makes));
    }

    no_literal_to : NoLiteral (trees_of of) e → NoLiteral (trees_in p) (h.entity_numbers u e)
    no_literal_to none = record {
      each = each_node units p linkable h (λ n node. IsLiteralOf node.kind (h.entity_numbers u e) → ⊥) (λ v j other z m there z_at m_at moves makes.
          let (o, own, o_is) = literal_back (h.entity_numbers v) z.kind (h.entity_numbers u e) (subst (λ (k : NodeKind). IsLiteralOf k (h.entity_numbers u e)) moves.kind makes) in
          let s = same v o other there (literal_within v j other z there z_at o own) o_is in
          none.each j z (subst (λ (w : Unit). slice_get w.nodes.items j ≡ Some z) s.of_is z_at) (subst (λ (k : ℕ). IsLiteralOf z.kind k) s.number own));
    }

    names_to : (a : ℕ) → NamesUnder (trees_of of) e a → NamesUnder (trees_in p) (h.entity_numbers u e) (node_place units u a)
    names_to a names = record {
      each = each_node units p linkable h (λ n node. IsNamedOrMade node.kind (h.entity_numbers u e) → Under (trees_in p) (node_place units u a) n) (λ v j other z m there z_at m_at moves makes.
          let (o, own, o_is) = made_back (h.entity_numbers v) z.kind (h.entity_numbers u e) (subst (λ (k : NodeKind). IsNamedOrMade k (h.entity_numbers u e)) moves.kind makes) in
          let s = same v o other there (made_within v j other z there z_at o own) o_is in
          let up = names.each j z (subst (λ (w : Unit). slice_get w.nodes.items j ≡ Some z) s.of_is z_at) (subst (λ (k : ℕ). IsNamedOrMade z.kind k) s.number own) in
          subst (λ (k : ℕ). Under (trees_in p) (node_place units u a) (node_place units k j)) (sym s.unit) (under_to units p linkable h u of is up));
    }

    lister_to : (f a : ℕ) (z m : Node) → slice_get of.nodes.items a ≡ Some z → Moves units p linkable h u z m → IsLister (trees_of of) e f a z → IsLister (trees_in p) (h.entity_numbers u e) (h.entity_numbers u f) (node_place units u a) m
    unfolding IsLister
    lister_to f a z m z_at moves own = (
      subst (λ (l : List ℕ). Has l (h.entity_numbers u e)) (sym (ap listed_by moves.kind ∙ listed_renamed (h.entity_numbers u) z.kind)) (has_mapped (h.entity_numbers u) (listed_in z) e own.0),
      in_body_to units p linkable h u of is f a own.1,
      names_to a own.2,
    )

    has_lister_to : (f : ℕ) → HasLister (trees_of of) e f → HasLister (trees_in p) (h.entity_numbers u e) (h.entity_numbers u f)
    has_lister_to f own =
        let (a, z, z_at, lists) = own.some in
        let m = h.nodes.each u a of z is z_at in
        record { some = (node_place units u a, m.node, m.node_is, lister_to f a z m.node z_at m.moved lists) }

    -- a list of the program that has the entity is one of the unit
    record HoldsHere (v a : ℕ) (other : Unit) (z : Node) (k : ℕ) : Type 0 where
      unit : v ≡ u
      own_at : slice_get of.nodes.items a ≡ Some z
      here : slice_get (listed_in z) k ≡ Some e

    holds_here : (v a : ℕ) (other : Unit) (z m : Node) → slice_get units v ≡ Some other → slice_get other.nodes.items a ≡ Some z → Moves units p linkable h v z m → (k : ℕ) → slice_get (listed_in m) k ≡ Some (h.entity_numbers u e) → HoldsHere v a other z k
    holds_here v a other z m there z_at moves k has =
        let i = place_in v a other z m there z_at moves k (h.entity_numbers u e) has in
        let s = same v i.number other there i.within i.number_is in
        record { unit = s.unit; own_at = subst (λ (w : Unit). slice_get w.nodes.items a ≡ Some z) s.of_is z_at; here = i.at ∙ ap (λ (n : ℕ). Some n) s.number }

    once_to : OnceHeld (trees_of of) listed_in e → OnceHeld (trees_in p) listed_in (h.entity_numbers u e)
    once_to once = record {
      each = each_node units p linkable h (λ a node. HoldsOnce (trees_in p) listed_in (h.entity_numbers u e) a node) (λ v a other z m there z_at m_at moves. record {
        places = λ has i k one two.
            let a_one = holds_here v a other z m there z_at moves i one in
            let a_two = holds_here v a other z m there z_at moves k two in
            (once.each a z a_one.own_at).places (i, a_one.here) i k a_one.here a_two.here;
        others = λ (i, one). each_node units p linkable h (λ b node. Has (listed_in node) (h.entity_numbers u e) → node_place units v a ≡ b) (λ w b third q n yonder q_at n_at goes (k, two).
            let a_one = holds_here v a other z m there z_at moves i one in
            let a_two = holds_here w b third q n yonder q_at goes k two in
            let same_node = (once.each a z a_one.own_at).others (i, a_one.here) b q a_two.own_at (k, a_two.here) in
            ap (λ (c : ℕ). node_place units c a) a_one.unit ∙ (ap (node_place units u) same_node ∙ sym (ap (λ (c : ℕ). node_place units c b) a_two.unit)));
      });
    }

    listed_to : (o : Option ℕ) → IfSome o (λ f. Listed (trees_of of) e f) → IfSome (option_map (h.entity_numbers u) o) (λ f. Listed (trees_in p) (h.entity_numbers u e) f)
    listed_to None own = tt
    listed_to (Some f) own = record { lister = has_lister_to f own.lister; once = once_to own.once }

  pub listed : AllListed (trees_in p)
  listed = each_moved units p linkable h (λ e y. IsListed (trees_in p) e y) (λ u e of x y m automatic none.
      let own : x.storage ≡ Automatic = sym m.moves.storage ∙ automatic in
      let local = automatic_local x own in
      subst (λ (o : Option ℕ). IfSome o (λ f. Listed (trees_in p) (h.entity_numbers u e) f)) (sym m.moves.owner)
      (listed_to u e of x m.of_is m.at local x.owner ((valid u of m.of_is).listed e x m.at own (no_literal_back u e of x m.of_is m.at local none))))

  -- what a list holds
  listable_in : (u i e : ℕ) (of : Unit) (is : slice_get units u ≡ Some of) (o : Option Entity) → slice_get of.entities.items e ≡ o → IsListableIn (trees_of of) i e o → IsListable (trees_in p) (node_place units u i) (h.entity_numbers u e)
  listable_in u i e of is None at own = absurd own
  listable_in u i e of is (Some x) at own =
      let local = automatic_local x own.0 in
      let s = stands_at units p linkable h u e of x is at in
      let moves = local_moves units p linkable h u e of x s.entity is at s.there local in
      subst (λ (o : Option Entity). IsListableIn (trees_in p) (node_place units u i) (h.entity_numbers u e) o) (sym s.there) (
        moves.storage ∙ own.0,
        no_literal_to u e of x is at local own.1,
        subst (λ (o : Option ℕ). InOwnersBody (trees_in p) o (node_place units u i)) (sym moves.owner) (owners_to units p linkable h u of is x.owner i own.2),
      )

  pub lists : ListsRight (trees_in p)
  lists = each_node units p linkable h (λ n node. All (λ e. IsListable (trees_in p) n e) (listed_by node.kind)) (λ u i of x m is x_at m_at moves.
      subst (λ (l : List ℕ). All (λ e. IsListable (trees_in p) (node_place units u i) e) l) (sym (ap listed_by moves.kind ∙ listed_renamed (h.entity_numbers u) x.kind))
      (all_mapped (λ e. IsListable (trees_of of) i e) (λ e. IsListable (trees_in p) (node_place units u i) e) (h.entity_numbers u) (listed_by x.kind) (λ e has own. listable_in u i e of is (slice_get of.entities.items e) refl own)
      ((valid u of is).lists i x x_at)))
