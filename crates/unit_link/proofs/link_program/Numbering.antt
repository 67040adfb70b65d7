-- The numbers of entities in the program.
use Rattle.std.proofs.Common.{◌≡◌, ◌≢◌, ℕ, zero, suc, ◌+◌, ◌<◌, ◌≤◌, ◌↔◌, Bool, true, false, cond, eqb, Option, Some, None, List, [], ◌∷◌, length, map, take, sum, get_or, ◌⊎◌, refl, sym, ap, subst, ◌∙◌, arith, inl, inr}
use Rattle.std.specs.List.{slice_get, flat_map, sum_by}
use Rattle.std.specs.Option.{option_map}
use Rattle.std.proofs.lemmas.Bool.{cases_lt, cases_Bool}
use Rattle.std.proofs.lemmas.Bool.Decides.{eqb_tells}
use Rattle.std.proofs.lemmas.List.{take-map, length-map}
use Rattle.std.proofs.lemmas.List.Sums.{sum-map}
use Rattle.std.proofs.lemmas.Option.{slice_get-map, slice_get_within, slice_get_cases}
use Rattle.core_tree.specs.declared.node.Unit.{Unit}
use Rattle.core_tree.specs.declared.node.Entity.{Entity}
use Rattle.link_model.specs.declared.item.Item.{Item}
use Rattle.link_model.specs.Units.{item}
use Rattle.link_names.specs.Externals.{IsExternal, is_external, entities_if, entity_at}
use Rattle.link_names.proofs.Ordering.{external_is, is_external_of}
use Rattle.link_model.specs.link_types.Leaders.{AreLeaders, AreNumbers, leaders_below}
use Rattle.link_model.specs.link_types.Starts.{AreSums}
use Rattle.link_model.proofs.link_types.Numbering.{one_leader}
use Rattle.unit_link.specs.Linked.{Declares, ShareName, OneEntity}
use Rattle.unit_link.specs.link_program.Alike.{ShareLabel, Alike, AreAlike}
use Rattle.unit_link.specs.link_program.Rows.{all_entities, label_of, counts_of, entity_in, OneNumber, OnlyNumbers}
use Rattle.unit_link.proofs.link_program.Leading.{one_if_alike, alike_if_one}
use Rattle.unit_link.proofs.link_program.Places.{unit_of}
use Rattle.unit_link.proofs.link_program.Rows.{before, at_place, IsPlace, place_of, place_once}

abbrev entities_of : Unit → List Entity
entities_of x = x.entities.items

no_label : {l : List ℕ} → ◌≡◌ {A = Option (List ℕ)} None (Some l) → ⊥
no_label h = cc

one_name : {a b : List ℕ} → ◌≡◌ {A = Option (List ℕ)} (Some a) (Some b) → a ≡ b
one_name h = cc

-- the label of an external name's declaration
pub label_external : (x : Entity) → IsExternal x → label_of x ≡ Some x.name
label_external x h = ap (λ b. cond b (Some x.name) None) (is_external_of x h)

pub external_label : (x : Entity) (l : List ℕ) → label_of x ≡ Some l → IsExternal x × (x.name ≡ l)
external_label x l h = elim (cases_Bool (is_external x)) [
  | inl its ↦ (external_is x its, one_name (sym (ap (λ b. cond b (Some x.name) None) its) ∙ h))
  | inr not_its ↦ absurd (no_label (sym (ap (λ b. cond b (Some x.name) None) not_its) ∙ h))
]

-- where a unit's entities start
pub start_at : (units : List Unit) (starts : List ℕ) (u : ℕ) → AreSums (counts_of units) starts → u ≤ length units → get_or starts u 0 ≡ before entities_of units u
start_at units starts u sums le =
    let many : length (counts_of units) ≡ length units = length-map units (λ (x : Unit). length x.entities.items) in
    sums.each u (omega arith)
    ∙ (ap sum (take-map (λ (x : Unit). length x.entities.items) u units) ∙ sum-map (λ (x : Unit). length x.entities.items) (take u units))

-- an entity in the row of all
pub record InRow (units : List Unit) (starts : List ℕ) (a : Item) (x : Entity) : Type 0 where
  pub place : get_or starts a.unit 0 + a.number ≡ before entities_of units a.unit + a.number
  pub there : slice_get (all_entities units) (get_or starts a.unit 0 + a.number) ≡ Some x
  pub label : slice_get (map label_of (all_entities units)) (get_or starts a.unit 0 + a.number) ≡ Some (label_of x)
  pub within : get_or starts a.unit 0 + a.number < length (map label_of (all_entities units))

pub in_row : (units : List Unit) (starts : List ℕ) (a : Item) (x : Entity) → AreSums (counts_of units) starts → entity_at units a ≡ Some x → InRow units starts a x
in_row units starts a x sums at =
    let (y, unit, here) = unit_of units a x at in
    let known = slice_get_within units a.unit y unit in
    let start = start_at units starts a.unit sums (omega arith) in
    let place : get_or starts a.unit 0 + a.number ≡ before entities_of units a.unit + a.number = ap (λ n. n + a.number) start in
    let there = at_place entities_of units a.unit a.number (get_or starts a.unit 0 + a.number) y x unit here place in
    let label : slice_get (map label_of (all_entities units)) (get_or starts a.unit 0 + a.number) ≡ Some (label_of x) = slice_get-map label_of (all_entities units) (get_or starts a.unit 0 + a.number) ∙ ap (option_map label_of) there in
    record {
      place = place;
      there = there;
      label = label;
      within = slice_get_within (map label_of (all_entities units)) (get_or starts a.unit 0 + a.number) (label_of x) label;
    }

same_item : (a b : Item) → a.unit ≡ b.unit → a.number ≡ b.number → a ≡ b
same_item a b e f = ap (λ u. item u a.number) e ∙ ap (item b.unit) f

some_label : {a b : Option (List ℕ)} → ◌≡◌ {A = Option (Option (List ℕ))} (Some a) (Some b) → a ≡ b
some_label h = cc

-- one label is one name
shared : (units : List Unit) (starts : List ℕ) (a b : Item) (x y : Entity) → entity_at units a ≡ Some x → entity_at units b ≡ Some y → InRow units starts a x → InRow units starts b y
    → ShareLabel (map label_of (all_entities units)) (get_or starts a.unit 0 + a.number) (get_or starts b.unit 0 + b.number) → ShareName units a b
shared units starts a b x y ax by ra rb s =
    let (ex, nx) = external_label x s.label (some_label (sym ra.label ∙ s.first)) in
    let (ey, ny) = external_label y s.label (some_label (sym rb.label ∙ s.second)) in
    record {
      name = s.label;
      first = record { entity = x; entity_is = ax; external = ex; named = nx };
      second = record { entity = y; entity_is = by; external = ey; named = ny };
    }

pub one_number : (units : List Unit) (starts leaders numbers : List ℕ) (count : ℕ) → AreSums (counts_of units) starts → AreAlike (map label_of (all_entities units)) leaders → AreLeaders leaders
    → AreNumbers leaders numbers count → OneNumber units (entity_in starts numbers)
one_number units starts leaders numbers count sums alike lead are = record {
  one = λ a b x y ax by.
      let labels = map label_of (all_entities units) in
      let ra = in_row units starts a x sums ax in
      let rb = in_row units starts b y sums by in
      let ga = get_or starts a.unit 0 + a.number in
      let gb = get_or starts b.unit 0 + b.number in
      let wa : ga < length leaders = (let w = ra.within in let l = alike.all in omega arith) in
      let wb : gb < length leaders = (let w = rb.within in let l = alike.all in omega arith) in
      let (ya, ua, ha) = unit_of units a x ax in
      let (yb, ub, hb) = unit_of units b y by in (
        (λ e. elim (alike_if_one labels leaders alike ga gb ra.within rb.within (one_leader leaders numbers count lead are ga gb wa wb e)) [
          | inl same ↦
              let (u, n) = place_once entities_of units a.unit a.number b.unit b.number ya yb x y ua ha ub hb (sym ra.place ∙ (same ∙ rb.place)) in
              inl (same_item a b u n)
          | inr s ↦ inr (shared units starts a b x y ax by ra rb s)
        ]),
        (λ one. elim one [
          | inl same ↦ ap (λ i. get_or numbers (get_or starts i.unit 0 + i.number) 0) same
          | inr s ↦
              let sa = in_row units starts a s.first.entity sums s.first.entity_is in
              let sb = in_row units starts b s.second.entity sums s.second.entity_is in
              let la : slice_get labels ga ≡ Some (Some s.name) = sa.label ∙ ap Some (label_external s.first.entity s.first.external ∙ ap Some s.first.named) in
              let lb : slice_get labels gb ≡ Some (Some s.name) = sb.label ∙ ap Some (label_external s.second.entity s.second.external ∙ ap Some s.second.named) in
              let lead_one = one_if_alike labels leaders alike ga gb ra.within rb.within (inr (record { label = s.name; first = la; second = lb })) in
              are.each ga wa ∙ (ap (leaders_below leaders) lead_one ∙ sym (are.each gb wb))
        ]),
      );
}

-- each number below their count is a leader's
pub record IsLed (leaders : List ℕ) (upto e : ℕ) : Type 0 where
  pub at : ℕ
  pub within : at < upto
  pub leads : get_or leaders at 0 ≡ at
  pub number : leaders_below leaders at ≡ e

step_of : (leaders : List ℕ) (n : ℕ) → ((get_or leaders n 0 ≡ n) × (leaders_below leaders (suc n) ≡ leaders_below leaders n + 1)) ⊎ (leaders_below leaders (suc n) ≡ leaders_below leaders n)
step_of leaders n = elim (eqb_tells (get_or leaders n 0) n) [
  | inl its ↦ inl (its.1, ap (λ b. leaders_below leaders n + cond b 1 0) its.0)
  | inr not_its ↦ inr (ap (λ b. leaders_below leaders n + cond b 1 0) not_its.0 ∙ none (leaders_below leaders n))
]
  where
    none : (m : ℕ) → m + 0 ≡ m
    none m = omega arith

pub led_by : (leaders : List ℕ) (n e : ℕ) → e < leaders_below leaders n → IsLed leaders n e
led_by leaders zero e lt = absurd (omega arith)
led_by leaders (suc n) e lt = elim (cases_lt e (leaders_below leaders n)) [
  | inl less ↦ (let h = led_by leaders n e less in record { at = h.at; within = (let w = h.within in omega arith); leads = h.leads; number = h.number })
  | inr ge ↦ elim (step_of leaders n) [
    | inl one ↦ (let more = one.1 in record { at = n; within = omega arith; leads = one.0; number = omega arith })
    | inr same ↦ absurd (omega arith)
  ]
]

pub only_numbers : (units : List Unit) (starts leaders numbers : List ℕ) (count : ℕ) → AreSums (counts_of units) starts → AreAlike (map label_of (all_entities units)) leaders → AreLeaders leaders
    → AreNumbers leaders numbers count → OnlyNumbers units (entity_in starts numbers) count
only_numbers units starts leaders numbers count sums alike lead are = record {
  only = λ e lt.
      let below : e < leaders_below leaders (length leaders) = (let c = are.count_is in omega arith) in
      let led = led_by leaders (length leaders) e below in
      let number = are.each led.at led.within ∙ (ap (leaders_below leaders) led.leads ∙ led.number) in
      elim (slice_get_cases (all_entities units) led.at).1 [
        | inl p ↦
            let place = place_of entities_of units led.at p.0 p.2 in
            let within = slice_get_within units place.list place.of place.of_is in
            let start = start_at units starts place.list sums (omega arith) in
            let here : get_or starts place.list 0 + place.number ≡ led.at = (let q = place.place in omega arith) in
            (item place.list place.number, p.0, ap (λ o. slice_get (entities_if o) place.number) place.of_is ∙ place.is, ap (λ g. get_or numbers g 0) here ∙ number)
        | inr past ↦
            let many : length (map label_of (all_entities units)) ≡ length (all_entities units) = length-map (all_entities units) label_of in
            let all = alike.all in
            let w = led.within in
            let far = past.0 in
            absurd (omega arith)
      ];
}
