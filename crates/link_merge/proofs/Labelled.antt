-- The classes by label.
use Rattle.std.proofs.Common.{arith, ◌≡◌, ℕ, zero, suc, ◌+◌, ◌-◌, ◌<◌, ◌≤◌, inl, inr, Bool, true, false, cond, List, length, get_or, refl, ap, sym, ◌∙◌, subst, Option, Some, None, IsSome, is_some}
use Rattle.std.specs.List.{slice_get, slice_index_or}
use Rattle.std.specs.Option.{option_map}
use Rattle.std.proofs.lemmas.Bool.{cases_lt}
use Rattle.std.proofs.lemmas.Option.{slice_get_within, slice_get_cases}
use Rattle.c_types.specs.declared.term.MemberTerm.{MemberTerm}
use Rattle.core_tree.specs.declared.node.Unit.{Unit}
use Rattle.link_model.specs.declared.item.Item.{Item}
use Rattle.link_model.specs.Units.{IsTag, Label, label_at, SameKey, list_at}
use Rattle.link_model.specs.Apart.{MayBeOne}
use Rattle.link_model.specs.Partition.{number}
use Rattle.link_model.specs.link_types.Joined.{AreStarts}
use Rattle.link_model.specs.link_types.Leaders.{AreLeaders}
use Rattle.unit_link.proofs.link_program.Leading.{one_if_alike, alike_if_one}
use Rattle.link_merge.specs.Keys.{label_code}
use Rattle.link_merge.specs.Tags.{AreKept, AreTags, place_in, AreLabelled}
use Rattle.link_merge.specs.Counted.{IsListed, CountedAt, AreLeadersOf, AreCounted}
use Rattle.link_merge.specs.Classes.{CountsFor, AreCountedAs, lead_in, AreClasses}
use Rattle.link_merge.proofs.Counting.{labelled_tag}
use Rattle.link_merge.proofs.Places.{tag_unit}

some_one : {X : Type 0} → {x y : X} → ◌≡◌ {A = Option X} (Some x) (Some y) → x ≡ y
some_one h = cc

none_some : {X : Type 0} → {x : X} → ◌≡◌ {A = Option X} None (Some x) → ⊥
none_some h = cc

some_of : {A : Type 0} (o : Option A) → IsSome o → (x : A) × (o ≡ Some x)
some_of None h = cc
some_of (Some x) h = (x, refl)

sign_same : (a b : Bool) → ◌≡◌ {A = ℕ} (cond a 1 0) (cond b 1 0) → a ≡ b
sign_same true true e = refl
sign_same true false e = cc
sign_same false true e = cc
sign_same false false e = refl

label_same : (l m : Label) → label_code l ≡ label_code m → l ≡ m
label_same l m e =
    let head : ◌≡◌ {A = ℕ} (cond l.union 1 0) (cond m.union 1 0) = cc in
    let rest : l.key ≡ m.key = cc in
    let union = sign_same l.union m.union head in
    λ i. record { union = union i; key = rest i }

label_of : (o : Option Label) (code : List ℕ) → option_map label_code o ≡ Some code → (l : Label) × (o ≡ Some l) × (label_code l ≡ code)
label_of None code e = absurd (none_some e)
label_of (Some l) code e = (l, refl, some_one e)

module _ (units : List Unit) (starts leaders : List ℕ) (tags : List Item) (are : AreTags units starts tags) (labelled : AreLabelled units tags leaders) where
  place_lt : (a : Item) → IsTag units a → place_in starts a < length labelled.labels
  place_lt a tag = (let w = slice_get_within tags (place_in starts a) a (are.place a tag) in let many = labelled.labels_are.many in omega arith)

  pub one_label : (a b : Item) → IsTag units a → IsTag units b → number (lead_in starts leaders) a ≡ number (lead_in starts leaders) b → MayBeOne units a b
  one_label a b ta tb e = elim (alike_if_one labelled.labels leaders labelled.alike (place_in starts a) (place_in starts b) (place_lt a ta) (place_lt b tb) e) [
    | inl same ↦ inl (some_one (sym (are.place a ta) ∙ (ap (slice_get tags) same ∙ are.place b tb)))
    | inr s ↦
        let la = label_of (label_at units a) s.label (some_one (sym (labelled.labels_are.each (place_in starts a) a (are.place a ta)) ∙ s.first)) in
        let lb = label_of (label_at units b) s.label (some_one (sym (labelled.labels_are.each (place_in starts b) b (are.place b tb)) ∙ s.second)) in
        let one = label_same la.0 lb.0 (la.2 ∙ sym lb.2) in
        inr (la.0, la.1, lb.1 ∙ ap Some (sym one))
  ]

  pub label_one : (a b : Item) → IsTag units a → IsTag units b → SameKey units a b → number (lead_in starts leaders) a ≡ number (lead_in starts leaders) b
  label_one a b ta tb s =
      one_if_alike labelled.labels leaders labelled.alike (place_in starts a) (place_in starts b) (place_lt a ta) (place_lt b tb) (inr (record {
        label = label_code s.0;
        first = labelled.labels_are.each (place_in starts a) a (are.place a ta) ∙ ap (λ o. Some (option_map label_code o)) s.1;
        second = labelled.labels_are.each (place_in starts b) b (are.place b tb) ∙ ap (λ o. Some (option_map label_code o)) s.2;
      }))

  pub first_classes : AreLeaders leaders → AreClasses units starts leaders
  first_classes lead = record {
    lead = lead;
    joins = record { one = one_label };
    separates = record { apart = λ a b ta tb key ne. absurd (ne (label_one a b ta tb key)) };
    together = λ a b list ta tb x. elim x.which [ inl e ↦ ap (number (lead_in starts leaders)) e | inr f ↦ label_one a b ta tb f.same_key ];
  }

  pub leaders_of_tags : AreLeaders leaders → AreLeadersOf tags leaders
  leaders_of_tags lead =
      let all : length leaders ≡ length tags = labelled.alike.all ∙ labelled.labels_are.many in
      record { all = all; within = λ g lt. (let le = lead.below g lt in omega arith) }

-- starts rise
pub starts_rise : (units : List Unit) (starts : List ℕ) (total u n : ℕ) → AreStarts units starts total → u + n ≤ length units → get_or starts u 0 ≤ get_or starts (u + n) 0
starts_rise units starts total u zero h le = subst (λ m. get_or starts u 0 ≤ get_or starts m 0) (let z : u ≡ u + zero = omega arith in z) (let x = get_or starts u 0 in omega arith)
starts_rise units starts total u (suc n) h le =
    let before = starts_rise units starts total u n h (omega arith) in
    elim (slice_get_cases units (u + n)).1 [
      | inl p ↦
          let step = h.each (u + n) p.0 p.2 in
          let next : u + n + 1 ≡ u + suc n = omega arith in
          subst (λ m. get_or starts u 0 ≤ get_or starts m 0) next (omega arith)
      | inr past ↦ (let far = past.0 in absurd (omega arith))
    ]

-- tags of earlier units stand before those of later ones
pub units_rise : (units : List Unit) (starts : List ℕ) (total : ℕ) (a b : Item) → AreStarts units starts total → IsTag units a → IsTag units b → place_in starts a ≤ place_in starts b → a.unit ≤ b.unit
units_rise units starts total a b h ta tb le = elim (cases_lt b.unit a.unit) [
  | inl lt ↦
      let (x, ux, lx) = tag_unit units a ta in
      let (y, uy, ly) = tag_unit units b tb in
      let within = slice_get_within units a.unit x ux in
      let next = h.each b.unit y uy in
      let n = a.unit - (b.unit + 1) in
      let far : (b.unit + 1) + n ≡ a.unit = omega arith in
      let rise = starts_rise units starts total (b.unit + 1) n h (omega arith) in
      let at : get_or starts ((b.unit + 1) + n) 0 ≡ get_or starts a.unit 0 = ap (λ m. get_or starts m 0) far in
      absurd (omega arith)
  | inr ge ↦ ge
]

module _
    (units : List Unit)
    (starts leaders : List ℕ)
    (tags : List Item)
    (counted : List (Option ℕ))
    (total : ℕ)
    (begin : AreStarts units starts total)
    (kept : AreKept units)
    (are : AreTags units starts tags)
    (labelled : AreLabelled units tags leaders)
    (counts : AreCounted units tags leaders counted) where
  place_back : (h : ℕ) (b : Item) → slice_get tags h ≡ Some b → place_in starts b ≡ h
  place_back h b at = (are.each h b at).1

  leader_back : (h : ℕ) (b : Item) → slice_get tags h ≡ Some b → number (lead_in starts leaders) b ≡ get_or leaders h 0
  leader_back h b at = ap (λ g. get_or leaders g 0) (place_back h b at)

  listed_here : (a c : Item) → IsTag units a → SameKey units a c → IsSome (list_at units c) → IsListed units tags leaders (get_or leaders (place_in starts a) 0) (place_in starts c)
  listed_here a c ta s some =
      let tc = labelled_tag units c s.0 kept s.2 in
      record { tag = c; tag_is = are.place c tc; leader = sym (label_one units starts leaders tags are labelled a c ta tc s); list = some }

  counted_for : (a : Item) (o : Option ℕ) → IsTag units a → CountedAt units tags leaders (place_in starts a) a o → CountsFor units starts a o
  counted_for a o ta (inl own) =
      let (list, is) = some_of (list_at units a) own.1 in
      subst (CountsFor units starts a) (sym own.0) (record { tag = a; is_tag = ta; place = refl; list = list; counts = record { list_is = is; which = inl refl } })
  counted_for a None ta (inr none) = λ c one. elim one [
    | inl same ↦ subst (λ x. list_at units x ≡ None) same none.0
    | inr s ↦ without c s (list_at units c) refl
  ]
    where
      without : (c : Item) → SameKey units a c → (l : Option (List MemberTerm)) → list_at units c ≡ l → list_at units c ≡ None
      without c s None e = e
      without c s (Some list) e =
          let here = listed_here a c ta s (ap is_some e) in
          let w = slice_get_within tags (place_in starts c) c (are.place c (labelled_tag units c s.0 kept s.2)) in
          absurd (none.1 (place_in starts c) w here)
  counted_for a (Some h) ta (inr none) =
      let first = none.1 in
      let b = first.listed.tag in
      let tb = (are.each h b first.listed.tag_is).0 in
      let back = place_back h b first.listed.tag_is in
      let one = one_label units starts leaders tags are labelled a b ta tb (sym (leader_back h b first.listed.tag_is ∙ first.listed.leader)) in
      let (list, is) = some_of (list_at units b) first.listed.list in
      record {
        tag = b;
        is_tag = tb;
        place = back;
        list = list;
        counts = record {
          list_is = is;
          which = elim one [
            | inl same ↦ absurd (none_some (sym none.0 ∙ (ap (list_at units) same ∙ is)))
            | inr s ↦ inr (record {
              without = none.0;
              same_key = s;
              first = λ c t some.
                  let here = listed_here a c ta t some in
                  let le = first.first (place_in starts c) here in
                  units_rise units starts total b c begin tb (labelled_tag units c t.0 kept t.2) (omega arith);
            })
          ];
        };
      }

  pub counted_as : AreCountedAs units starts counted
  counted_as = record { each = λ a ta. counted_for a (slice_index_or counted (place_in starts a) None) ta (counts.each (place_in starts a) a (are.place a ta)) }
