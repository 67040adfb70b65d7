-- The program's entities by their numbers.
use Rattle.std.proofs.Common.{◌≡◌, ◌⊎◌, ℕ, ◌<◌, Option, Some, List, length, map, get_or, sym, ap, subst, ◌∙◌, arith, inl, inr}
use Rattle.std.proofs.lemmas.List.{length-map}
use Rattle.std.proofs.lemmas.Option.{slice_get_cases, slice_get_within}
use Rattle.std.specs.List.{slice_get}
use Rattle.core_tree.specs.declared.node.Unit.{Unit}
use Rattle.core_tree.specs.declared.node.Entity.{Entity}
use Rattle.core_tree.specs.declared.node.Program.{Program}
use Rattle.link_model.specs.declared.item.Item.{Item}
use Rattle.link_model.specs.Units.{item}
use Rattle.link_model.specs.link_types.Leaders.{leaders_below}
use Rattle.link_names.specs.declared.declared.Declared.{Declared}
use Rattle.link_names.specs.Externals.{Joined, IsExternal, entity_at, entities_if}
use Rattle.unit_link.specs.Linked.{IsLinkedName, IsLinkedOther, EntitiesLinked}
use Rattle.unit_link.specs.declared.link_program.numbers.EntityNumbers.{EntityNumbers}
use Rattle.unit_link.specs.link_program.Rows.{AreEntityNumbers, OneNumber, OnlyNumbers, all_entities, label_of}
use Rattle.unit_link.proofs.link_program.Numbering.{in_row, start_at, external_label}
use Rattle.unit_link.proofs.link_program.Rows as rows
use Rattle.link_units.specs.link_entities.Row.{AreLinked, numbers_of, place_of}
use Rattle.link_units.proofs.link_entities.Rowing.{entities_of, place_one}
use Rattle.link_units.proofs.link_entities.Linking.{place_at}

some_one : {X : Type 0} → {x y : X} → ◌≡◌ {A = Option X} (Some x) (Some y) → x ≡ y
some_one h = cc

same_item : (a b : Item) → a.unit ≡ b.unit → a.number ≡ b.number → a ≡ b
same_item a b e f = ap (λ u. item u a.number) e ∙ ap (item b.unit) f

-- the entity at a place
record IsAt (units : List Unit) (n : EntityNumbers) (g : ℕ) : Type 0 where
  at : Item
  entity : Entity
  entity_is : entity_at units at ≡ Some entity
  place : place_of n at ≡ g

entity_of_place : (units : List Unit) (n : EntityNumbers) (g : ℕ) → AreEntityNumbers units n → g < length n.leaders.items → IsAt units n g
entity_of_place units n g are lt = elim (slice_get_cases (all_entities units) g).1 [
  | inl p ↦
      let p1 = rows.place_of entities_of units g p.0 p.2 in
      let within = slice_get_within units p1.list p1.of p1.of_is in
      let start = start_at units n.starts.items p1.list are.starts_are (omega arith) in
      record {
        at = item p1.list p1.number;
        entity = p.0;
        entity_is = ap (λ (o : Option Unit). slice_get (entities_if o) p1.number) p1.of_is ∙ p1.is;
        place = (let q = p1.place in omega arith);
      }
  | inr past ↦
      let many : length (map label_of (all_entities units)) ≡ length (all_entities units) = length-map (all_entities units) label_of in
      let all = are.alike.all in
      let far = past.0 in
      absurd (omega arith)
]

-- the first entity that is one with another
record IsLedBy (units : List Unit) (n : EntityNumbers) (a b : Item) (x y : Entity) : Type 0 where
  number : get_or n.numbers.items (place_of n a) 0 ≡ leaders_below n.leaders.items (place_of n b)
  leads : get_or n.leaders.items (place_of n b) 0 ≡ place_of n b
  within : place_of n b < length n.leaders.items
  which : (a ≡ b) ⊎ (IsExternal x × IsExternal y × (y.name ≡ x.name))

led_by : (units : List Unit) (n : EntityNumbers) (a : Item) (x : Entity) → AreEntityNumbers units n → entity_at units a ≡ Some x
    → (b : Item) × (y : Entity) × (entity_at units b ≡ Some y) × IsLedBy units n a b x y
led_by units n a x are at =
    let leaders = n.leaders.items in
    let labels = map label_of (all_entities units) in
    let g = place_of n a in
    let p = place_at units n a x are at in
    let l = get_or leaders g 0 in
    let le = are.lead.below g p.within in
    let within : l < length leaders = (let w = p.within in omega arith) in
    let found = entity_of_place units n l are within in
    let b = found.at in
    let y = found.entity in
    let ra = in_row units n.starts.items a x are.starts_are at in
    let rb = in_row units n.starts.items b y are.starts_are found.entity_is in (
      b,
      y,
      found.entity_is,
      record {
        number = are.numbered.each g p.within ∙ ap (leaders_below leaders) (sym found.place);
        leads = ap (λ i. get_or leaders i 0) found.place ∙ (are.lead.itself g p.within ∙ sym found.place);
        within = (let q = found.place in omega arith);
        which = elim ((are.alike.each g ra.within).alike) [
          | inl e ↦
              let (u, m) = place_one units n a b x y are at found.entity_is (e ∙ sym found.place) in
              inl (same_item a b u m)
          | inr s ↦
              let (ex, nx) = external_label x s.label (some_one (sym ra.label ∙ s.first)) in
              let (ey, ny) = external_label y s.label (some_one (sym rb.label ∙ (ap (slice_get labels) found.place ∙ s.second))) in
              inr (ex, ey, ny ∙ sym nx)
        ];
      },
    )

pub entities_linked : (j : Joined) (ds : List Declared) (n : EntityNumbers) (p : Program) → AreEntityNumbers j.units n → OneNumber j.units (numbers_of n) → OnlyNumbers j.units (numbers_of n) n.count
    → AreLinked j ds n (length n.leaders.items) p.entities.items → EntitiesLinked j ds (numbers_of n) p
entities_linked j ds n p are one only h = record {
  one = one.one;
  only = λ e lt. only.only e (let c = h.count in let k = are.numbered.count_is in omega arith);
  names = λ a x at external.
      let (b, y, by, led) = led_by j.units n a x are at in
      let (there, is, what) = h.each b y by led.within led.leads in
      let named : IsExternal y × (y.name ≡ x.name) = elim led.which [
        | inl same ↦ (let yx : x ≡ y = some_one (sym at ∙ (ap (entity_at j.units) same ∙ by)) in (subst IsExternal yx external, ap (λ (z : Entity). z.name) (sym yx)))
        | inr both ↦ (both.1, both.2)
      ] in
      (there, ap (slice_get p.entities.items) led.number ∙ is, subst (λ m. IsLinkedName j ds (numbers_of n) m there) named.1 (what.name named.0));
  others = λ a x at internal.
      let (b, y, by, led) = led_by j.units n a x are at in
      let (there, is, what) = h.each b y by led.within led.leads in
      let same : a ≡ b = elim led.which [
        | inl same ↦ same
        | inr both ↦ absurd (internal both.0)
      ] in
      let yx : x ≡ y = some_one (sym at ∙ (ap (entity_at j.units) same ∙ by)) in (
        there,
        ap (slice_get p.entities.items) led.number ∙ is,
        subst (λ (c : Item). IsLinkedOther j (numbers_of n) c x there) (sym same) (subst (λ (z : Entity). IsLinkedOther j (numbers_of n) b z there) (sym yx) (what.other (λ ext. internal (subst IsExternal (sym yx) ext)))),
      );
}

-- the type of each entity stands in the table
pub types_within : (j : Joined) (ds : List Declared) (n : EntityNumbers) (p : Program) → AreEntityNumbers j.units n → OnlyNumbers j.units (numbers_of n) n.count
    → AreLinked j ds n (length n.leaders.items) p.entities.items → (e : ℕ) (x : Entity) → slice_get p.entities.items e ≡ Some x → x.ty.0 < length j.table.terms
types_within j ds n p are only h e x at =
    let lt = slice_get_within p.entities.items e x at in
    let (a, y, there_a, number) = only.only e (let c = h.count in let k = are.numbered.count_is in omega arith) in
    let (b, z, by, led) = led_by j.units n a y are there_a in
    let (there, is, what) = h.each b z by led.within led.leads in
    let same : there ≡ x = some_one (sym (ap (slice_get p.entities.items) (sym number ∙ led.number) ∙ is) ∙ at) in
    subst (λ (w : Entity). w.ty.0 < length j.table.terms) same what.within
