-- A tag's members among those that are kept.
use Rattle.std.proofs.Common.{arith, ◌≡◌, ◌≢◌, ℕ, zero, suc, ◌<◌, List, [], ◌∷◌, refl, ap, sym, ◌∙◌, Option, Some, None, slice_get, get_or, map, Bool, true, false, cond, eqb}
use Rattle.std.proofs.lemmas.Bool.{eq-eqb, ne_eqb}
use Rattle.std.proofs.lemmas.Option.{get_or_from_slice_get}
use Rattle.c_types.specs.declared.table.Entry.{Entry}
use Rattle.c_types.specs.declared.table.TagLayout.{TagLayout}
use Rattle.c_types.specs.Table.{members_among, members_in}
use Rattle.c_types.specs.Inside.{AreRight, table_of, members_of}

taken : {A : Type 0} (b : Bool) (x y : A) → b ≡ true → cond b x y ≡ x
taken true x y e = refl
taken false x y e = cc

passed : {A : Type 0} (b : Bool) (x y : A) → b ≡ false → cond b x y ≡ y
passed false x y e = refl
passed true x y e = cc

members_found : (cs : List TagLayout) (k : ℕ) (l : TagLayout) → slice_get cs k ≡ Some l → ((j : ℕ) (m : TagLayout) → j < k → slice_get cs j ≡ Some m → m.tag ≢ l.tag) → members_among (map members_of cs) l.tag ≡ Some l.members.items
members_found [] k l at first = cc
members_found (c ∷ cs) zero l at first =
    let same : c ≡ l = cc in
    taken (eqb c.tag l.tag) (Some c.members.items) (members_among (map members_of cs) l.tag) (eq-eqb c.tag l.tag (ap (λ (d : TagLayout). d.tag) same)) ∙ ap (λ (d : TagLayout). Some d.members.items) same
members_found (c ∷ cs) (suc k) l at first =
    passed (eqb c.tag l.tag) (Some c.members.items) (members_among (map members_of cs) l.tag) (ne_eqb c.tag l.tag (first 0 c (omega arith) refl))
    ∙ members_found cs k l at (λ j m lt there. first (suc j) m (omega arith) there)

members_none : (cs : List TagLayout) (t : ℕ) → ((j : ℕ) (m : TagLayout) → slice_get cs j ≡ Some m → m.tag ≢ t) → members_among (map members_of cs) t ≡ None
members_none [] t apart = refl
members_none (c ∷ cs) t apart =
    passed (eqb c.tag t) (Some c.members.items) (members_among (map members_of cs) t) (ne_eqb c.tag t (apart 0 c refl))
    ∙ members_none cs t (λ j m at. apart (suc j) m at)

module _ (entries : List Entry) (tags : List (Option ℕ)) (cs : List TagLayout) (right : AreRight entries tags cs) (t : ℕ) where
  pub tag_members : (k : ℕ) (d : TagLayout) → slice_get tags t ≡ Some (Some k) → members_in (table_of entries tags cs) t ≡ Some (get_or cs k d).members.items
  tag_members k d at =
      let old = right.layouts_right in
      let (l, there, tag) = old.known t k at in
      let found = members_found cs k l there (λ j m lt here e. differ j k m l lt (old.tagged j m here) (old.tagged k l there) e) in
      ap (members_among (map members_of cs)) (sym tag) ∙ (found ∙ sym (ap (λ (m : TagLayout). Some m.members.items) (get_or_from_slice_get cs k l d there)))
    where
      differ : (j k : ℕ) (m l : TagLayout) → j < k → slice_get tags m.tag ≡ Some (Some j) → slice_get tags l.tag ≡ Some (Some k) → m.tag ≡ l.tag → ⊥
      differ j k m l lt p q e =
          let r : slice_get tags m.tag ≡ Some (Some k) = rw e q in
          let s : j ≡ k = cc in
          absurd (omega arith)

  pub no_members : slice_get tags t ≡ Some None → members_in (table_of entries tags cs) t ≡ None
  no_members at = members_none cs t (λ j m here e. clash j m (right.layouts_right.tagged j m here) e)
    where
      clash : (j : ℕ) (m : TagLayout) → slice_get tags m.tag ≡ Some (Some j) → m.tag ≡ t → ⊥
      clash j m p e = let r : slice_get tags t ≡ Some (Some j) = rw (← e) p in cc
