-- What is first used at one place of right units is one entity.
use Rattle.std.proofs.Common.{arith, ◌≡◌, ◌∙◌, ◌+◌, ℕ, zero, suc, List, [], ◌∷◌, Option, Some, None, slice_get, refl, sym, ap, subst}
use Rattle.pta_base.specs.declared.place.Place.{Place}
use Rattle.core_tree.specs.declared.node.Entity.{Entity}
use Rattle.core_tree.specs.declared.node.Node.{Node}
use Rattle.core_tree.specs.declared.node.Unit.{Unit}
use Rattle.core_tree.specs.Typed.{trees_of}
use Rattle.core_tree.specs.Valid.{IsUsed, IsUseOf, UsedAt}
use Rattle.link_model.specs.declared.item.Item.{Item}
use Rattle.link_names.specs.Externals.{entities_if, entity_at}
use Rattle.twin_report_laws.specs.outcome_laws.used_names.Uses.{UsesOnce}
use Rattle.twin_report_laws.proofs.outcome_laws.used_names.Whole.{right_uses_once}
use Rattle.twin_report_laws.specs.outcome_laws.named_by_place.Named.{IsRightAs, AreRightFrom, RightNamedByPlace}

some_one : {X : Type 0} → {x y : X} → ◌≡◌ {A = Option X} (Some x) (Some y) → x ≡ y
some_one h = cc

none_some : {X : Type 0} → {x : X} → ◌≡◌ {A = Option X} None (Some x) → ⊥
none_some h = cc

right_at : (number : ℕ) (units : List Unit) (k : ℕ) (u : Unit) → AreRightFrom number units → slice_get units k ≡ Some u → IsRightAs (number + k) u
right_at number [] k u h e = absurd (none_some e)
right_at number (x ∷ units) zero u h e = subst (IsRightAs (number + 0)) (some_one e) (subst (λ (n : ℕ). IsRightAs n x) (let same : number ≡ number + 0 = omega arith in same) h.0)
right_at number (x ∷ units) (suc k) u h e = subst (λ (n : ℕ). IsRightAs n u) (let same : (number + 1) + k ≡ number + suc k = omega arith in same) (right_at (number + 1) units k u h.1 e)

used_at : (u : Unit) (e : ℕ) (o : Option Place) (place : Place) → o ≡ Some place → IsUsed (trees_of u) e o → UsedAt (trees_of u) e place
used_at u e None place same h = absurd (none_some same)
used_at u e (Some p) place same h = subst (UsedAt (trees_of u) e) (some_one same) h.0

-- an entity of a unit that is first used there
record IsFirst (units : List Unit) (number unit : ℕ) (place : Place) (x : Entity) : Type 0 where
  u : Unit
  in_units : slice_get units unit ≡ Some u
  there : slice_get u.entities.items number ≡ Some x
  once : UsesOnce unit u
  node : ℕ
  naming : Node
  at : slice_get u.nodes.items node ≡ Some naming
  names : IsUseOf naming.kind number
  place_is : naming.place ≡ place

first_of : (units : List Unit) → AreRightFrom 0 units → (a : Item) (x : Entity) (place : Place) → entity_at units a ≡ Some x → x.used ≡ Some place → IsFirst units a.number a.unit place x
first_of units are a x place at used = by (slice_get units a.unit) refl at
  where
    of_unit : (u : Unit) → slice_get units a.unit ≡ Some u → slice_get u.entities.items a.number ≡ Some x → IsRightAs a.unit u → IsFirst units a.number a.unit place x
    of_unit u is there h =
        let first = (used_at u a.number x.used place used (h.right.valid.trees.uses a.number x there)).some in
        record {
          u = u;
          in_units = is;
          there = there;
          once = right_uses_once h.tokens a.unit h.tree h.tag_number h.name u h.cut h.read h.right;
          node = first.0;
          naming = first.1;
          at = first.2;
          names = first.3.0;
          place_is = first.3.1;
        }

    by : (o : Option Unit) → slice_get units a.unit ≡ o → slice_get (entities_if o) a.number ≡ Some x → IsFirst units a.number a.unit place x
    by None is there = absurd (none_some there)
    by (Some u) is there = of_unit u is there (subst (λ (n : ℕ). IsRightAs n u) (let same : 0 + a.unit ≡ a.unit = omega arith in same) (right_at 0 units a.unit u are is))

pub named_by_place : RightNamedByPlace
named_by_place units are = record {
  one = λ a b x y place at there used other.
      let h = first_of units are a x place at used in
      let k = first_of units are b y place there other in
      let units_same : a.unit ≡ b.unit = sym (h.once.placed h.node a.number h.naming h.at h.names) ∙ (ap (λ (p : Place). p.unit) (h.place_is ∙ sym k.place_is) ∙ k.once.placed k.node b.number k.naming k.at k.names) in
      let unit_same : k.u ≡ h.u = some_one (sym k.in_units ∙ (ap (slice_get units) (sym units_same) ∙ h.in_units)) in
      let place_same : h.naming.place ≡ k.naming.place = h.place_is ∙ sym k.place_is in
      let numbers : a.number ≡ b.number =
      h.once.one h.node k.node a.number b.number h.naming k.naming h.at (subst (λ (u : Unit). slice_get u.nodes.items k.node ≡ Some k.naming) unit_same k.at) h.names k.names (ap (λ (p : Place). p.line) place_same) (ap (λ (p : Place). p.column) place_same) in
      let one : x ≡ y = some_one (sym h.there ∙ (ap (slice_get h.u.entities.items) numbers ∙ subst (λ (u : Unit). slice_get u.entities.items b.number ≡ Some y) unit_same k.there)) in
      ap (λ (e : Entity). e.name) one;
}
