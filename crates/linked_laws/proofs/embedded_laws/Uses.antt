-- Where the program's entities are used first.
use Rattle.std.proofs.Common.{arith, ◌≡◌, ◌∙◌, ◌⊎◌, ℕ, ◌<◌, ◌≤◌, List, length, Option, Some, None, refl, sym, ap, subst, inl, inr}
use Rattle.std.specs.Prelude.{IfSome}
use Rattle.std.specs.List.{slice_get}
use Rattle.pta_base.specs.declared.place.Place.{Place}
use Rattle.core_tree.specs.declared.node.Unit.{Unit}
use Rattle.core_tree.specs.declared.node.Program.{Program}
use Rattle.core_tree.specs.declared.node.Node.{Node}
use Rattle.core_tree.specs.declared.node.Entity.{Entity}
use Rattle.core_tree.specs.declared.node.NodeKind.{NodeKind}
use Rattle.core_tree.specs.declared.node.NodeKind.TheVariants.{Named, FunctionName}
use Rattle.core_tree.specs.Typed.{trees_in, trees_of}
use Rattle.core_tree.specs.Range.{named_by}
use Rattle.core_tree.specs.Valid.{Valid, PlaceAtMost, IsUseOf, UsedAt, IsUsed, UsesRight}
use Rattle.link_model.specs.Units.{item}
use Rattle.link_names.specs.declared.declared.Declared.{Declared}
use Rattle.link_names.specs.Externals.{IsExternal, item_of}
use Rattle.unit_link.specs.Linked.{UsesName, NameUsed, LinkedAt}
use Rattle.unit_link.specs.Needs.{AreLinkable}
use Rattle.unit_link.specs.Places.{node_place}
use Rattle.linked_laws.proofs.embedded_laws.Lists.{some_one, present}
use Rattle.linked_laws.proofs.embedded_laws.Renaming.{use_to, use_back}
use Rattle.linked_laws.proofs.embedded_laws.Nodes.{same_unit, each_node}
use Rattle.linked_laws.proofs.embedded_laws.Entities.{IsNameOf, at_item, in_one, each_entity, one_of_two}
use Rattle.linked_laws.proofs.embedded_laws.Inside.{same_entity}

line_after : (a b c : Place) → (a.line < b.line) ⊎ ((a.line ≡ b.line) × (a.column ≤ b.column)) → (b.line < c.line) ⊎ ((b.line ≡ c.line) × (b.column ≤ c.column))
    → (a.line < c.line) ⊎ ((a.line ≡ c.line) × (a.column ≤ c.column))
line_after a b c (inl x) (inl y) = inl (omega arith)
line_after a b c (inl x) (inr y) = (let e = y.0 in inl (omega arith))
line_after a b c (inr x) (inl y) = (let e = x.0 in inl (omega arith))
line_after a b c (inr x) (inr y) = (let l = x.1 in let m = y.1 in inr (x.0 ∙ y.0, omega arith))

pub place_after : (a b c : Place) → PlaceAtMost a b → PlaceAtMost b c → PlaceAtMost a c
place_after a b c (inl x) (inl y) = inl (omega arith)
place_after a b c (inl x) (inr y) = (let e = y.0 in inl (omega arith))
place_after a b c (inr x) (inl y) = (let e = x.0 in inl (omega arith))
place_after a b c (inr x) (inr y) = inr (x.0 ∙ y.0, line_after a b c x.1 y.1)

module _ {names : List (List ℕ)} (units : List Unit) (p : Program) (linkable : AreLinkable units) (h : LinkedAt names units p) where
  valid : (u : ℕ) (of : Unit) → slice_get units u ≡ Some of → Valid (trees_of of)
  valid u of is = (linkable.valid u of is).trees

  use_within : (v j : ℕ) (other : Unit) (z : Node) → slice_get units v ≡ Some other → slice_get other.nodes.items j ≡ Some z → (o : ℕ) → IsUseOf z.kind o → o < length other.entities.items
  use_within v j other z there z_at o own = by z.kind ((valid v other there).in_range.entities j z z_at) own
    where
      by : (kind : NodeKind) → IfSome (named_by kind) (λ e. e < length other.entities.items) → IsUseOf kind o → o < length other.entities.items
      by (Named d) within its = subst (λ (k : ℕ). k < length other.entities.items) its within
      by (FunctionName d) within its = subst (λ (k : ℕ). k < length other.entities.items) its within
      by kind within its = absurd its

  -- a first use
  at_to : (u e : ℕ) (of : Unit) (is : slice_get units u ≡ Some of) (q : Place) → UsedAt (trees_of of) e q → UsedAt (trees_in p) (h.entity_numbers u e) q
  at_to u e of is q used =
      let (n, z, z_at, its) = used.some in
      let m = h.nodes.each u n of z is z_at in
      record { some = (node_place units u n, m.node, m.node_is, (subst (λ (k : NodeKind). IsUseOf k (h.entity_numbers u e)) (sym m.moved.kind) (use_to (h.entity_numbers u) z.kind e its.0), m.moved.place ∙ its.1)) }

  -- what isn't external
  other_used : (u e : ℕ) (of : Unit) (x : Entity) → slice_get units u ≡ Some of → slice_get of.entities.items e ≡ Some x → (IsExternal x → ⊥) → (o : Option Place) → IsUsed (trees_of of) e o → IsUsed (trees_in p) (h.entity_numbers u e) o
  other_used u e of x is at local None used = each_node units p linkable h (λ n node. IsUseOf node.kind (h.entity_numbers u e) → ⊥) (λ v j other z m there z_at m_at moves uses.
      let (o, own, o_is) = use_back (h.entity_numbers v) z.kind (h.entity_numbers u e) (subst (λ (k : NodeKind). IsUseOf k (h.entity_numbers u e)) moves.kind uses) in
      let s = same_entity units p linkable h u e of x v o other is at local there (use_within v j other z there z_at o own) o_is in
      used j z (subst (λ (w : Unit). slice_get w.nodes.items j ≡ Some z) s.of_is z_at) (subst (λ (k : ℕ). IsUseOf z.kind k) s.number own))
  other_used u e of x is at local (Some q) used = (
    at_to u e of is q used.0,
    record {
      each = each_node units p linkable h (λ n node. IsUseOf node.kind (h.entity_numbers u e) → PlaceAtMost q node.place) (λ v j other z m there z_at m_at moves uses.
          let (o, own, o_is) = use_back (h.entity_numbers v) z.kind (h.entity_numbers u e) (subst (λ (k : NodeKind). IsUseOf k (h.entity_numbers u e)) moves.kind uses) in
          let s = same_entity units p linkable h u e of x v o other is at local there (use_within v j other z there z_at o own) o_is in
          subst (PlaceAtMost q) (sym moves.place) (used.1.each j z (subst (λ (w : Unit). slice_get w.nodes.items j ≡ Some z) s.of_is z_at) (subst (λ (k : ℕ). IsUseOf z.kind k) s.number own)));
    },
  )

  -- a name is used at places of its declarations
  record IsNameUse (name : List ℕ) (z : Node) : Type 0 where
    place : Place
    used : UsesName units name place
    before : PlaceAtMost place z.place

  from_used : (v j o : ℕ) (other : Unit) (z : Node) (c : Entity) (name : List ℕ) → slice_get units v ≡ Some other → slice_get other.nodes.items j ≡ Some z → slice_get other.entities.items o ≡ Some c → IsExternal c → c.name ≡ name
      → IsUseOf z.kind o → (q : Option Place) → c.used ≡ q → IsUsed (trees_of other) o q → IsNameUse name z
  from_used v j o other z c name there z_at c_at external named own None is used = absurd (used j z z_at own)
  from_used v j o other z c name there z_at c_at external named own (Some q) is used = record {
    place = q;
    used = record { item = item v o; entity = c; entity_is = at_item units p linkable h v o other c there c_at; external = external; named = named; used = is };
    before = used.1.each j z z_at own;
  }

  name_use : (d : Declared) (of : Unit) (x y : Entity) → IsNameOf units p linkable h d of x y → (v j o : ℕ) (other : Unit) (z : Node) → slice_get units v ≡ Some other → slice_get other.nodes.items j ≡ Some z → IsUseOf z.kind o
      → h.entity_numbers v o ≡ h.entity_numbers d.unit d.number → IsNameUse x.name z
  name_use d of x y n v j o other z there z_at own o_is =
      let (c, c_at) = present other.entities.items o (use_within v j other z there z_at o own) in
      let used = (valid v other there).uses o c c_at in
      elim (one_of_two units p linkable h d.unit d.number v o of other x c n.of_is n.at there c_at (sym o_is)) [
        | inl same ↦
            let one_of = same_unit units d.unit v of other n.of_is there same.0 in
            let one : c ≡ x = some_one (sym c_at ∙ (ap (slice_get other.entities.items) (sym same.1) ∙ subst (λ (w : Unit). slice_get w.entities.items d.number ≡ Some x) one_of n.at)) in
            from_used v j o other z c x.name there z_at c_at (subst IsExternal (sym one) n.external) (ap (λ (w : Entity). w.name) one) own c.used refl used
        | inr share ↦ from_used v j o other z c x.name there z_at c_at share.1 share.2 own c.used refl used
      ]

  name_used : (d : Declared) (of : Unit) (x y : Entity) → IsNameOf units p linkable h d of x y → (q : Option Place) → NameUsed units x.name q → IsUsed (trees_in p) (h.entity_numbers d.unit d.number) q
  name_used d of x y n None used = each_node units p linkable h (λ k node. IsUseOf node.kind (h.entity_numbers d.unit d.number) → ⊥) (λ v j other z m there z_at m_at moves uses.
      let (o, own, o_is) = use_back (h.entity_numbers v) z.kind (h.entity_numbers d.unit d.number) (subst (λ (k : NodeKind). IsUseOf k (h.entity_numbers d.unit d.number)) moves.kind uses) in
      let s = name_use d of x y n v j o other z there z_at own o_is in
      used s.place s.used)
  name_used d of x y n (Some q) used =
      let first = used.used in
      let inside = in_one units p linkable h first.item first.entity first.entity_is in
      let own = subst (IsUsed (trees_of inside.of) first.item.number) first.used ((valid first.item.unit inside.of inside.of_is).uses first.item.number first.entity inside.at) in
      let number : h.entity_numbers first.item.unit first.item.number ≡ h.entity_numbers d.unit d.number =
      (h.entities.one first.item (item_of d) first.entity x first.entity_is (at_item units p linkable h d.unit d.number of x n.of_is n.at)).1 (inr (record {
        name = x.name;
        first = record { entity = first.entity; entity_is = first.entity_is; external = first.external; named = first.named };
        second = record { entity = x; entity_is = at_item units p linkable h d.unit d.number of x n.of_is n.at; external = n.external; named = refl };
      })) in (
        subst (λ (k : ℕ). UsedAt (trees_in p) k q) number (at_to first.item.unit first.item.number inside.of inside.of_is q own.0),
        record {
          each = each_node units p linkable h (λ k node. IsUseOf node.kind (h.entity_numbers d.unit d.number) → PlaceAtMost q node.place) (λ v j other z m there z_at m_at moves uses.
              let (o, its, o_is) = use_back (h.entity_numbers v) z.kind (h.entity_numbers d.unit d.number) (subst (λ (k : NodeKind). IsUseOf k (h.entity_numbers d.unit d.number)) moves.kind uses) in
              let s = name_use d of x y n v j o other z there z_at its o_is in
              subst (PlaceAtMost q) (sym moves.place) (place_after q s.place z.place (used.first s.place s.used) s.before));
        },
      )

  pub uses : UsesRight (trees_in p)
  uses = each_entity units p linkable h (λ e y. IsUsed (trees_in p) e y.used) (λ d of x y n. name_used d of x y n y.used n.used)
      (λ u e of x y m. subst (IsUsed (trees_in p) (h.entity_numbers u e)) (sym m.used) (other_used u e of x m.of_is m.at m.other x.used ((valid u of m.of_is).uses e x m.at)))
