-- What stands in which function's body in the program, and which entities its nodes make and list.
use Rattle.std.proofs.Common.{◌≡◌, ◌∙◌, ℕ, ◌<◌, Bool, true, false, List, length, Option, Some, None, is_some, refl, sym, ap, subst, inl, inr}
use Rattle.std.specs.Prelude.{IfSome}
use Rattle.std.specs.List.{slice_get}
use Rattle.std.specs.Option.{option_map}
use Rattle.core_tree.specs.declared.node.Unit.{Unit}
use Rattle.core_tree.specs.declared.node.Program.{Program}
use Rattle.core_tree.specs.declared.node.Node.{Node}
use Rattle.core_tree.specs.declared.node.Entity.{Entity}
use Rattle.core_tree.specs.declared.node.Linkage.TheVariants.{External, Local}
use Rattle.core_tree.specs.declared.node.Storage.TheVariants.{FunctionBody}
use Rattle.core_tree.specs.declared.node.NodeKind.{NodeKind}
use Rattle.core_tree.specs.declared.node.NodeKind.TheVariants.{Named, Literal, FunctionName, VarArgs, Block, CallNode, For, Case, Default, Label, Goto, Break, Continue, Return, Initialise}
use Rattle.core_tree.specs.Typed.{trees_in, trees_of}
use Rattle.core_tree.specs.Range.{named_by}
use Rattle.core_tree.specs.Linkages.{HasNoLinkage, MakesUnlinked}
use Rattle.core_tree.specs.Valid.{Valid, IsLocal, UnderBody, InBodyOf, InBody, InSomeBody, InOwnersBody, InOwnerIn, IsInOwner, InOwner, IsLiteralOf, IsLasting, OnlyLiteral, IsLiteral, Literals, Encloses, Within, MayStand, Standing}
use Rattle.link_names.specs.Externals.{IsExternal}
use Rattle.unit_link.specs.Linked.{LinkedAt}
use Rattle.unit_link.specs.Needs.{AreLinkable}
use Rattle.unit_link.specs.Places.{node_place, kind_renamed}
use Rattle.linked_laws.proofs.embedded_laws.Lists.{present}
use Rattle.linked_laws.proofs.embedded_laws.Renaming.{literal_back, encloses_to}
use Rattle.linked_laws.proofs.embedded_laws.Nodes.{same_unit, each_node, under_to}
use Rattle.linked_laws.proofs.embedded_laws.Entities.{stands_at, bodied_moves, local_moves, local_back, one_of_two}
use Rattle.linked_laws.proofs.embedded_laws.Trees.{function_to}

pub local_linkage : (x : Entity) → x.linkage ≡ Local → IsExternal x → ⊥
local_linkage x e external = let bad : Local ≡ External = sym e ∙ external.linkage in cc

module _ {names : List (List ℕ)} (units : List Unit) (p : Program) (linkable : AreLinkable units) (h : LinkedAt names units p) where
  valid : (u : ℕ) (of : Unit) → slice_get units u ≡ Some of → Valid (trees_of of)
  valid u of is = (linkable.valid u of is).trees

  -- one entity of units that isn't external is no other one in the program
  pub record IsSame (u e : ℕ) (of : Unit) (v o : ℕ) (other : Unit) : Type 0 where
    pub unit : v ≡ u
    pub number : o ≡ e
    pub of_is : other ≡ of

  pub same_entity : (u e : ℕ) (of : Unit) (x : Entity) (v o : ℕ) (other : Unit) → slice_get units u ≡ Some of → slice_get of.entities.items e ≡ Some x → (IsExternal x → ⊥)
      → slice_get units v ≡ Some other → o < length other.entities.items → h.entity_numbers v o ≡ h.entity_numbers u e → IsSame u e of v o other
  same_entity u e of x v o other is at local there within number =
      let (z, z_at) = present other.entities.items o within in
      elim (one_of_two units p linkable h u e v o of other x z is at there z_at (sym number)) [
        | inl same ↦ record { unit = sym same.0; number = sym same.1; of_is = same_unit units v u other of there is (sym same.0) }
        | inr external ↦ absurd (local external.0)
      ]

  -- the entity that a node names is in range
  named_within : (v j : ℕ) (other : Unit) (z : Node) → slice_get units v ≡ Some other → slice_get other.nodes.items j ≡ Some z → IfSome (named_by z.kind) (λ o. o < length other.entities.items)
  named_within v j other z there at = (valid v other there).in_range.entities j z at

  module _ (u : ℕ) (of : Unit) (is : slice_get units u ≡ Some of) where
    abbrev number : ℕ → ℕ
    number e = h.entity_numbers u e

    abbrev place : ℕ → ℕ
    place i = node_place units u i

    -- the node stands in the body of the function in the program
    under_body : (f : ℕ) (x y : Entity) (i : ℕ) → slice_get of.entities.items f ≡ Some x → slice_get p.entities.items (number f) ≡ Some y → (o : Option ℕ) → x.body ≡ o → UnderBody (trees_of of) o i → UnderBody (trees_in p) y.body (place i)
    under_body f x y i at there None body up = absurd up
    under_body f x y i at there (Some b) body up =
        let moves = bodied_moves units p linkable h u f of x y is at there (ap (λ (o : Option ℕ). is_some o) body) in
        subst (λ (o : Option ℕ). UnderBody (trees_in p) o (place i)) (sym (moves.body ∙ ap (option_map place) body)) (under_to units p linkable h u of is up)

    in_body_of : (f i : ℕ) (o : Option Entity) → slice_get of.entities.items f ≡ o → InBodyOf (trees_of of) o i → InBody (trees_in p) (number f) (place i)
    in_body_of f i None at inside = absurd inside
    in_body_of f i (Some x) at inside =
        let s = stands_at units p linkable h u f of x is at in
        subst (λ (o : Option Entity). InBodyOf (trees_in p) o (place i)) (sym s.there)
        (function_to units p linkable h u f of x s.entity is at s.there inside.0, under_body f x s.entity i at s.there x.body refl inside.1)

    pub in_body_to : (f i : ℕ) → InBody (trees_of of) f i → InBody (trees_in p) (number f) (place i)
    in_body_to f i inside = in_body_of f i (slice_get of.entities.items f) refl inside

    pub owners_to : (o : Option ℕ) (i : ℕ) → InOwnersBody (trees_of of) o i → InOwnersBody (trees_in p) (option_map number o) (place i)
    owners_to None i inside = absurd inside
    owners_to (Some f) i inside = in_body_to f i inside

    -- names and literals of locals
    in_owner_at : (e i : ℕ) (x : Entity) → slice_get of.entities.items e ≡ Some x → InOwnerIn (trees_of of) (Some x) i → InOwnerIn (trees_in p) (slice_get p.entities.items (number e)) (place i)
    in_owner_at e i x at own =
        let s = stands_at units p linkable h u e of x is at in
        let there : IsLocal s.entity.storage → InOwnersBody (trees_in p) s.entity.owner (place i) = λ local.
        let moves = local_moves units p linkable h u e of x s.entity is at s.there (local_back units p linkable h u e of x s.entity is at s.there local) in
        subst (λ (o : Option ℕ). InOwnersBody (trees_in p) o (place i)) (sym moves.owner) (owners_to x.owner i (own (subst IsLocal moves.storage local))) in
        subst (λ (o : Option Entity). InOwnerIn (trees_in p) o (place i)) (sym s.there) there

    in_owner_of : (e i : ℕ) → e < length of.entities.items → InOwnerIn (trees_of of) (slice_get of.entities.items e) i → InOwnerIn (trees_in p) (slice_get p.entities.items (number e)) (place i)
    in_owner_of e i within own =
        let (x, at) = present of.entities.items e within in
        in_owner_at e i x at (subst (λ (o : Option Entity). InOwnerIn (trees_of of) o i) at own)

    pub in_owner_to : (i : ℕ) (kind : NodeKind) → IfSome (named_by kind) (λ e. e < length of.entities.items) → IsInOwner (trees_of of) i kind → IsInOwner (trees_in p) (place i) (kind_renamed (h.entity_numbers u) kind)
    in_owner_to i (Named e) within own = in_owner_of e i within own
    in_owner_to i (Literal e) within own = in_owner_of e i within own
    in_owner_to i (VarArgs e) within own = in_body_to e i own
    in_owner_to i (FunctionName e) within own = tt
    in_owner_to i (Block es) within own = tt
    in_owner_to i (For es c a) within own = tt
    in_owner_to i (Initialise e paths) within own = tt
    in_owner_to i kind within own = tt

    -- a literal's entity
    literal_of : (i e : ℕ) (x : Entity) → slice_get of.entities.items e ≡ Some x → (IsExternal x → ⊥) → OnlyLiteral (trees_of of) i e → OnlyLiteral (trees_in p) (place i) (number e)
    literal_of i e x at local only = each_node units p linkable h (λ m other. IsLiteralOf other.kind (number e) → m ≡ place i) (λ v j other z m there z_at m_at moves makes.
        let (o, own, o_is) = literal_back (h.entity_numbers v) z.kind (number e) (subst (λ (k : NodeKind). IsLiteralOf k (number e)) moves.kind makes) in
        let s = same_entity u e of x v o other is at local there (literal_within v j other z there z_at o own) o_is in
        let one = only j z (subst (λ (w : Unit). slice_get w.nodes.items j ≡ Some z) s.of_is z_at) (subst (λ (k : ℕ). IsLiteralOf z.kind k) s.number own) in
        ap (λ (k : ℕ). node_place units k j) s.unit ∙ ap place one)
      where
        by_kind : (other : Unit) (kind : NodeKind) (o : ℕ) → IfSome (named_by kind) (λ e. e < length other.entities.items) → IsLiteralOf kind o → o < length other.entities.items
        by_kind other (Literal d) o within own = subst (λ (k : ℕ). k < length other.entities.items) own within
        by_kind other kind o within own = absurd own

        literal_within : (v j : ℕ) (other : Unit) (z : Node) → slice_get units v ≡ Some other → slice_get other.nodes.items j ≡ Some z → (o : ℕ) → IsLiteralOf z.kind o → o < length other.entities.items
        literal_within v j other z there z_at o own = by_kind other z.kind o (named_within v j other z there z_at) own

    lasting_to : (e : ℕ) (x y : Entity) → slice_get of.entities.items e ≡ Some x → slice_get p.entities.items (number e) ≡ Some y → (IsExternal x → ⊥) → IsLasting (Some x) → IsLasting (Some y)
    lasting_to e x y at there local lasts =
        let moves = local_moves units p linkable h u e of x y is at there local in
        elim lasts [
          | inl static ↦ inl (moves.storage ∙ static)
          | inr automatic ↦ inr (moves.storage ∙ automatic)
        ]

    literal_at : (i e : ℕ) → e < length of.entities.items → HasNoLinkage (slice_get of.entities.items e) → IsLiteral (trees_of of) i (Literal e) → IsLiteral (trees_in p) (place i) (Literal (number e))
    literal_at i e within unlinked own =
        let (x, at) = present of.entities.items e within in
        let local = local_linkage x (subst HasNoLinkage at unlinked) in
        let s = stands_at units p linkable h u e of x is at in (
          subst IsLasting (sym s.there) (lasting_to e x s.entity at s.there local (subst IsLasting at own.0)),
          literal_of i e x at local own.1,
        )

    pub literal_there : (i : ℕ) (kind : NodeKind) → IfSome (named_by kind) (λ e. e < length of.entities.items) → MakesUnlinked (trees_of of) kind → IsLiteral (trees_of of) i kind
        → IsLiteral (trees_in p) (place i) (kind_renamed (h.entity_numbers u) kind)
    literal_there i (Literal e) within unlinked own = literal_at i e within unlinked own
    literal_there i (Named e) within unlinked own = tt
    literal_there i (FunctionName e) within unlinked own = tt
    literal_there i (Block es) within unlinked own = tt
    literal_there i (For es c a) within unlinked own = tt
    literal_there i (Initialise e paths) within unlinked own = tt
    literal_there i kind within unlinked own = tt

  pub in_owner : InOwner (trees_in p)
  in_owner = each_node units p linkable h (λ n node. IsInOwner (trees_in p) n node.kind) (λ u i of x m is x_at m_at moves.
      subst (λ (k : NodeKind). IsInOwner (trees_in p) (node_place units u i) k) (sym moves.kind)
      (in_owner_to u of is i x.kind (named_within u i of x is x_at) ((valid u of is).in_owner i x x_at)))

  pub literals : Literals (trees_in p)
  literals = each_node units p linkable h (λ n node. IsLiteral (trees_in p) n node.kind) (λ u i of x m is x_at m_at moves.
      subst (λ (k : NodeKind). IsLiteral (trees_in p) (node_place units u i) k) (sym moves.kind)
      (literal_there u of is i x.kind (named_within u i of x is x_at) ((linkable.valid u of is).linkages.nodes i x x_at).literal ((valid u of is).literals i x x_at)))

  -- where nodes may stand
  module _ (u : ℕ) (of : Unit) (is : slice_get units u ≡ Some of) where
    some_body_to : (i : ℕ) → InSomeBody (trees_of of) i → InSomeBody (trees_in p) (node_place units u i)
    some_body_to i inside =
        let (f, x, at, around) = inside.some in
        let s = stands_at units p linkable h u f of x is at in
        record { some = (h.entity_numbers u f, s.entity, s.there, (storage f x s.entity at s.there around.0 x.body refl around.1, under_body u of is f x s.entity i at s.there x.body refl around.1)) }
      where
        storage : (f : ℕ) (x y : Entity) → slice_get of.entities.items f ≡ Some x → slice_get p.entities.items (h.entity_numbers u f) ≡ Some y → x.storage ≡ FunctionBody → (o : Option ℕ) → x.body ≡ o → UnderBody (trees_of of) o i
            → y.storage ≡ FunctionBody
        storage f x y at there e None body up = absurd up
        storage f x y at there e (Some b) body up =
            (bodied_moves units p linkable h u f of x y is at there (ap (λ (o : Option ℕ). is_some o) body)).storage ∙ e

    within_to : (switch : Bool) (i : ℕ) → Within (trees_of of) switch i → Within (trees_in p) switch (node_place units u i)
    within_to switch i inside =
        let (t, node, at, around) = inside.some in
        let m = h.nodes.each u t of node is at in
        record {
          some = (
            node_place units u t,
            m.node,
            m.node_is,
            (
              subst (Encloses switch) (sym m.moved.kind) (encloses_to (h.entity_numbers u) switch node.kind around.0),
              under_to units p linkable h u of is around.1,
            ),
          );
        }

    stand_to : (i : ℕ) (kind : NodeKind) → MayStand (trees_of of) i kind → MayStand (trees_in p) (node_place units u i) (kind_renamed (h.entity_numbers u) kind)
    stand_to i CallNode s = some_body_to i s
    stand_to i Return s = some_body_to i s
    stand_to i Break s = (some_body_to i s.0, elim s.1 [ inl a ↦ inl (within_to false i a) | inr b ↦ inr (within_to true i b) ])
    stand_to i Continue s = (some_body_to i s.0, within_to false i s.1)
    stand_to i (Case k) s = (some_body_to i s.0, within_to true i s.1)
    stand_to i Default s = (some_body_to i s.0, within_to true i s.1)
    stand_to i (Goto name) s = some_body_to i s
    stand_to i (Label name) s = some_body_to i s
    stand_to i (Named e) s = tt
    stand_to i (FunctionName e) s = tt
    stand_to i (Literal e) s = tt
    stand_to i (Block es) s = tt
    stand_to i (For es c a) s = tt
    stand_to i (Initialise e paths) s = tt
    stand_to i kind s = tt

  pub standing : Standing (trees_in p)
  standing = each_node units p linkable h (λ n node. MayStand (trees_in p) n node.kind) (λ u i of x m is x_at m_at moves.
      subst (λ (k : NodeKind). MayStand (trees_in p) (node_place units u i) k) (sym moves.kind) (stand_to u of is i x.kind ((valid u of is).standing i x x_at)))
