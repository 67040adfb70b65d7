-- The program's entities, one entity of the units after another.
use Rattle.std.proofs.Common.{◌≡◌, ◌≢◌, ◌⊎◌, ℕ, zero, suc, ◌+◌, ◌<◌, ◌≤◌, Bool, true, false, cond, Option, Some, None, List, [], ◌∷◌, ◌++◌, length, take, map, get_or, refl, sym, ap, subst, ◌∙◌, arith, inl, inr}
use Rattle.std.proofs.lemmas.Bool.{cases_lt}
use Rattle.std.proofs.lemmas.Bool.Decides.{eqb_tells}
use Rattle.std.proofs.lemmas.Option.{slice_get_within}
use Rattle.std.specs.List.{slice_get, sum_by}
use Rattle.std.proofs.lemmas.List.{take_more, take_all, length-map}
use Rattle.std.proofs.lemmas.List.Sums.{sum_by-append}
use Rattle.std.proofs.lemmas.List.Concat.{length-flat_map}
use Rattle.std.proofs.lemmas.Option.{get_or_from_slice_get, slice_get_cases}
use Rattle.core_tree.specs.declared.node.Unit.{Unit}
use Rattle.core_tree.specs.declared.node.Entity.{Entity}
use Rattle.link_model.specs.declared.item.Item.{Item}
use Rattle.link_model.specs.Units.{item}
use Rattle.link_model.specs.link_types.Leaders.{leaders_below}
use Rattle.link_names.specs.declared.declared.Declared.{Declared}
use Rattle.link_names.specs.Externals.{Joined, entity_at, entities_if}
use Rattle.unit_link.specs.declared.link_program.numbers.EntityNumbers.{EntityNumbers}
use Rattle.unit_link.specs.link_program.Rows.{AreEntityNumbers}
use Rattle.unit_link.specs.link_program.Rows.{all_entities, label_of}
use Rattle.unit_link.proofs.link_program.Numbering.{in_row, start_at}
use Rattle.unit_link.proofs.link_program.Places.{unit_of}
use Rattle.unit_link.proofs.link_program.Rows.{get_left, get_right, place_once, before}
use Rattle.link_units.specs.link_entities.Row.{AreLinked, IsLinkedAs, numbers_of, place_of}

abbrev pub entities_of : Unit → List Entity
entities_of x = x.entities.items

some_one : {X : Type 0} → {x y : X} → ◌≡◌ {A = Option X} (Some x) (Some y) → x ≡ y
some_one h = cc

-- entities at one place are one
pub place_one : (units : List Unit) (n : EntityNumbers) (a b : Item) (x y : Entity) → AreEntityNumbers units n → entity_at units a ≡ Some x → entity_at units b ≡ Some y → place_of n a ≡ place_of n b
    → (a.unit ≡ b.unit) × (a.number ≡ b.number)
place_one units n a b x y are ax by e =
    let ra = in_row units n.starts.items a x are.starts_are ax in
    let rb = in_row units n.starts.items b y are.starts_are by in
    let (ya, ua, ha) = unit_of units a x ax in
    let (yb, ub, hb) = unit_of units b y by in
    place_once entities_of units a.unit a.number b.unit b.number ya yb x y ua ha ub hb (sym ra.place ∙ (e ∙ rb.place))

same_item : (a b : Item) → a.unit ≡ b.unit → a.number ≡ b.number → a ≡ b
same_item a b e f = ap (λ u. item u a.number) e ∙ ap (item b.unit) f

below_next : (leaders : List ℕ) (n : ℕ) → get_or leaders n 0 ≡ n → leaders_below leaders (suc n) ≡ leaders_below leaders n + 1
below_next leaders n e = elim (eqb_tells (get_or leaders n 0) n) [
  | inl its ↦ ap (λ b. leaders_below leaders n + cond b 1 0) its.0
  | inr not_its ↦ absurd (not_its.1 e)
]

below_same : (leaders : List ℕ) (n : ℕ) → (get_or leaders n 0 ≡ n → ⊥) → leaders_below leaders (suc n) ≡ leaders_below leaders n
below_same leaders n other = elim (eqb_tells (get_or leaders n 0) n) [
  | inl its ↦ absurd (other its.1)
  | inr not_its ↦ ap (λ b. leaders_below leaders n + cond b 1 0) not_its.0 ∙ none (leaders_below leaders n)
]
  where
    none : (m : ℕ) → m + 0 ≡ m
    none m = omega arith

-- a leader more
pub with_leader : (j : Joined) (ds : List Declared) (n : EntityNumbers) (a : Item) (x e : Entity) (list : List Entity) → AreEntityNumbers j.units n → entity_at j.units a ≡ Some x
    → get_or n.leaders.items (place_of n a) 0 ≡ place_of n a → IsLinkedAs j ds (numbers_of n) a x e → AreLinked j ds n (place_of n a) list → AreLinked j ds n (place_of n a + 1) (list ++ e ∷ [])
with_leader j ds n a x e list are at leads linked h =
    let leaders = n.leaders.items in
    let g = place_of n a in
    let suc_is : g + 1 ≡ suc g = omega arith in
    let more : leaders_below leaders (g + 1) ≡ leaders_below leaders g + 1 = ap (leaders_below leaders) suc_is ∙ below_next leaders g leads in
    let counted = h.count in
    record {
      count = (let l = Rattle.std.proofs.Common.length-append list (e ∷ []) in omega arith);
      each = λ b y by lt lead. elim (cases_lt (place_of n b) g) [
        | inl less ↦
            let (there, is, what) = h.each b y by less lead in
            (there, get_left list (e ∷ []) (leaders_below leaders (place_of n b)) (slice_get_within list (leaders_below leaders (place_of n b)) there is) ∙ is, what)
        | inr ge ↦
            let same : place_of n b ≡ g = omega arith in
            let (u, m) = place_one j.units n b a y x are by at same in
            let one : a ≡ b = sym (same_item b a u m) in
            let yx : x ≡ y = some_one (sym at ∙ (ap (entity_at j.units) one ∙ by)) in
            let here : slice_get (list ++ e ∷ []) (leaders_below leaders g) ≡ Some e = get_right list (e ∷ []) 0 (leaders_below leaders g) (omega arith) in (
              e,
              ap (λ p. slice_get (list ++ e ∷ []) (leaders_below leaders p)) same ∙ here,
              subst (λ (c : Item). IsLinkedAs j ds (numbers_of n) c y e) one (subst (λ (z : Entity). IsLinkedAs j ds (numbers_of n) a z e) yx linked),
            )
      ];
    }

-- one that isn't a leader
pub without_leader : (j : Joined) (ds : List Declared) (n : EntityNumbers) (a : Item) (list : List Entity) → (get_or n.leaders.items (place_of n a) 0 ≡ place_of n a → ⊥)
    → AreLinked j ds n (place_of n a) list → AreLinked j ds n (place_of n a + 1) list
without_leader j ds n a list other h =
    let leaders = n.leaders.items in
    let g = place_of n a in
    let suc_is : g + 1 ≡ suc g = omega arith in
    let same_count : leaders_below leaders (g + 1) ≡ leaders_below leaders g = ap (leaders_below leaders) suc_is ∙ below_same leaders g other in
    record {
      count = h.count ∙ sym same_count;
      each = λ b y by lt lead. elim (cases_lt (place_of n b) g) [
        | inl less ↦ h.each b y by less lead
        | inr ge ↦
            let same : place_of n b ≡ g = omega arith in
            absurd (other (subst (λ p. get_or leaders p 0 ≡ p) same lead))
      ];
    }

-- no entities yet
pub none_linked : (j : Joined) (ds : List Declared) (n : EntityNumbers) (list : List Entity) → AreEntityNumbers j.units n → list ≡ [] → AreLinked j ds n (place_of n (item 0 0)) list
none_linked j ds n list are none =
    let zero_is : place_of n (item 0 0) ≡ 0 = (let e = start_at j.units n.starts.items 0 are.starts_are (omega arith) in omega arith) in
    record {
      count = ap length none ∙ sym (ap (leaders_below n.leaders.items) zero_is);
      each = λ a x at lt lead. absurd (omega arith);
    }

pub before_next : (units : List Unit) (u : ℕ) (x : Unit) → slice_get units u ≡ Some x → before entities_of units (u + 1) ≡ before entities_of units u + length x.entities.items
before_next units u x at =
    let lt = slice_get_within units u x at in
    let f : Unit → ℕ = λ (y : Unit). length y.entities.items in
    ap (sum_by f) (take_more units u x lt ∙ ap (λ y. take u units ++ y ∷ []) (get_or_from_slice_get units u x x at))
    ∙ (sum_by-append f (take u units) (x ∷ []) ∙ one (sum_by f (take u units)) (f x))
  where
    one : (a b : ℕ) → a + (0 + b) ≡ a + b
    one a b = omega arith

-- behind a unit's entities stand those of the next one
pub unit_end : (units : List Unit) (n : EntityNumbers) (u e : ℕ) → AreEntityNumbers units n → u < length units → e ≡ length (entities_if (slice_get units u)) → place_of n (item u e) ≡ place_of n (item (u + 1) 0)
unit_end units n u e are lt is = elim (slice_get_cases units u).1 [
  | inl p ↦
      let here = start_at units n.starts.items u are.starts_are (omega arith) in
      let next = start_at units n.starts.items (u + 1) are.starts_are (omega arith) in
      let more = before_next units u p.0 p.2 in
      let many : e ≡ length p.0.entities.items = is ∙ ap (λ (o : Option Unit). length (entities_if o)) p.2 in
      omega arith
  | inr past ↦ absurd (let far = past.0 in omega arith)
]

-- behind the last unit's entities there are no more
pub all_linked : (units : List Unit) (n : EntityNumbers) (u : ℕ) → AreEntityNumbers units n → u ≡ length units → place_of n (item u 0) ≡ length n.leaders.items
all_linked units n u are is =
    let start = start_at units n.starts.items u are.starts_are (omega arith) in
    let whole : before entities_of units u ≡ length (all_entities units) = ap (sum_by (λ (y : Unit). length y.entities.items)) (take_all u units (omega arith)) ∙ sym (length-flat_map entities_of units) in
    let labelled = are.alike.all in
    let mapped : length (map label_of (all_entities units)) ≡ length (all_entities units) = length-map (all_entities units) label_of in
    omega arith
