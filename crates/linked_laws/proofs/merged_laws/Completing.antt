-- Which tags are complete before another.
use Rattle.std.proofs.Common.{arith, ◌≡◌, ◌≢◌, ℕ, zero, suc, ◌<◌, ◌≤◌, ◌⊎◌, inl, inr, List, [], ◌∷◌, ◌++◌, map, take, ap, sym, ◌∙◌, Option, Some, None, slice_get, true, false, cond, IsSome, is_some}
use Rattle.std.proofs.lemmas.Bool.Decides.{eqb_tells}
use Rattle.c_types.specs.declared.term.MemberTerm.{MemberTerm}
use Rattle.c_types.specs.Layout.{Extent, Completed, member_extent, laid_out, looked_up}
use Rattle.c_types.specs.Table.{Table, TagMembers, type_of, members_among}

some_is : {A : Type 0} → {x y : A} → ◌≡◌ {A = Option A} (Some x) (Some y) → x ≡ y
some_is e = cc

-- the first of the tags completed that has a list
pub record IsAmong (cs : List TagMembers) (tag : ℕ) (list : List MemberTerm) : Type 0 where
  pub at : ℕ
  pub there : slice_get cs at ≡ Some (record { tag = tag; members = list })
  pub first : (j : ℕ) (c : TagMembers) → slice_get cs j ≡ Some c → c.tag ≡ tag → at ≤ j

pub among_first : (cs : List TagMembers) (tag : ℕ) (list : List MemberTerm) → members_among cs tag ≡ Some list → IsAmong cs tag list
among_first [] tag list e = cc
among_first (c ∷ cs) tag list e = elim (eqb_tells c.tag tag) [
  | inl same ↦
      let is : c.members ≡ list = some_is (sym (ap (λ b. cond b (Some c.members) (members_among cs tag)) same.0) ∙ e) in
      record {
        at = 0;
        there = ap Some (λ i. record { tag = same.1 i; members = is i });
        first = λ j d at named. omega arith;
      }
  | inr other ↦
      let rest = among_first cs tag list (sym (ap (λ b. cond b (Some c.members) (members_among cs tag)) other.0) ∙ e) in
      record {
        at = suc rest.at;
        there = rest.there;
        first = later c cs tag rest.at other.1 rest.first;
      }
]
  where
    later : (c : TagMembers) (cs : List TagMembers) (tag at : ℕ) → c.tag ≢ tag → ((j : ℕ) (d : TagMembers) → slice_get cs j ≡ Some d → d.tag ≡ tag → at ≤ j)
        → (j : ℕ) (d : TagMembers) → slice_get (c ∷ cs) j ≡ Some d → d.tag ≡ tag → suc at ≤ j
    later c cs tag at other first zero d there named = absurd (other (ap (λ (x : TagMembers). x.tag) (some_is there) ∙ named))
    later c cs tag at other first (suc j) d there named = (let le = first j d there named in omega arith)

pub among_some : (cs : List TagMembers) (j : ℕ) (c : TagMembers) → slice_get cs j ≡ Some c → IsSome (members_among cs c.tag)
among_some [] j c e = cc
among_some (d ∷ cs) zero c e = elim (eqb_tells d.tag c.tag) [
  | inl same ↦ ap is_some (ap (λ b. cond b (Some d.members) (members_among cs c.tag)) same.0)
  | inr other ↦ absurd (other.1 (ap (λ (x : TagMembers). x.tag) (some_is e)))
]
among_some (d ∷ cs) (suc j) c e = elim (eqb_tells d.tag c.tag) [
  | inl same ↦ ap is_some (ap (λ b. cond b (Some d.members) (members_among cs c.tag)) same.0)
  | inr other ↦ ap is_some (ap (λ b. cond b (Some d.members) (members_among cs c.tag)) other.0) ∙ among_some cs j c e
]

-- what a look knows was completed
abbrev pub completion : Table → TagMembers → Completed
completion table c = record { tag = c.tag; types = map (λ m. type_of table m.ty.0) c.members }

looked_in : (xs : List (ℕ × List Extent)) (t : ℕ) (es : List Extent) (tag : ℕ) → IsSome (looked_up (xs ++ (t, es) ∷ []) tag) → IsSome (looked_up xs tag) ⊎ (t ≡ tag)
looked_in [] t es tag h = elim (eqb_tells t tag) [
  | inl same ↦ inr same.1
  | inr other ↦ absurd (none (sym (ap (λ b. is_some (cond b (Some es) None)) other.0) ∙ h))
]
  where
    none : false ≡ true → ⊥
    none e = cc
looked_in ((u, ds) ∷ xs) t es tag h = elim (eqb_tells u tag) [
  | inl same ↦ inl (ap (λ b. is_some (cond b (Some ds) (looked_up xs tag))) same.0)
  | inr other ↦ elim (looked_in xs t es tag (sym (ap (λ b. is_some (cond b (Some ds) (looked_up (xs ++ (t, es) ∷ []) tag))) other.0) ∙ h)) [
    | inl here ↦ inl (ap (λ b. is_some (cond b (Some ds) (looked_up xs tag))) other.0 ∙ here)
    | inr last ↦ inr last
  ]
]

pub known_completed : (table : Table) (done : List (ℕ × List Extent)) (cs : List TagMembers) (tag : ℕ) → IsSome (looked_up (laid_out done (map (completion table) cs)) tag) → IsSome (looked_up done tag) ⊎ IsSome (members_among cs tag)
known_completed table done [] tag h = inl h
known_completed table done (c ∷ cs) tag h = elim (known_completed table (done ++ (c.tag, map (member_extent (looked_up done)) (completion table c).types) ∷ []) cs tag h) [
  | inl before ↦ elim (looked_in done c.tag (map (member_extent (looked_up done)) (completion table c).types) tag before) [
    | inl here ↦ inl here
    | inr last ↦ inr (elim (eqb_tells c.tag tag) [
      | inl same ↦ ap (λ b. is_some (cond b (Some c.members) (members_among cs tag))) same.0
      | inr other ↦ absurd (other.1 last)
    ])
  ]
  | inr rest ↦ inr (elim (eqb_tells c.tag tag) [
    | inl same ↦ ap (λ b. is_some (cond b (Some c.members) (members_among cs tag))) same.0
    | inr other ↦ ap (λ b. is_some (cond b (Some c.members) (members_among cs tag))) other.0 ∙ rest
  ])
]

pub none_known : (tag : ℕ) → IsSome (looked_up [] tag) → ⊥
none_known tag h = cc

pub take_within : (cs : List TagMembers) (k j : ℕ) (c : TagMembers) → slice_get (take k cs) j ≡ Some c → (j < k) × (slice_get cs j ≡ Some c)
take_within [] zero j c e = cc
take_within [] (suc k) j c e = cc
take_within (d ∷ cs) zero j c e = cc
take_within (d ∷ cs) (suc k) zero c e = (omega arith, e)
take_within (d ∷ cs) (suc k) (suc j) c e = (let r = take_within cs k j c e in (let lt = r.0 in omega arith, r.1))
