-- The first use of each external name, declaration by declaration.
use Rattle.std.proofs.Common.{◌≡◌, ◌≢◌, ◌⊎◌, ℕ, ◌+◌, ◌<◌, Option, Some, None, List, [], ◌∷◌, ◌++◌, length, take, get_or, set, length-set, refl, sym, ap, subst, ◌∙◌, arith, inl, inr}
use Rattle.std.proofs.lemmas.List.{take_more, get_or-set_same, get_or-set_other}
use Rattle.std.proofs.lemmas.List.Elements.{Contains-append_left, Contains-append_right, Contains-append_cases}
use Rattle.std.proofs.lemmas.Option.{get_or_from_slice_get}
use Rattle.std.proofs.lemmas.Bool.{cases_Bool, false≢true}
use Rattle.std.specs.List.{Contains, slice_get}
use Rattle.pta_base.specs.declared.place.Place.{Place}
use Rattle.core_tree.specs.declared.node.Unit.{Unit}
use Rattle.core_tree.specs.declared.node.Entity.{Entity}
use Rattle.core_tree.specs.Valid.{PlaceAtMost}
use Rattle.link_names.specs.declared.declared.Declared.{Declared}
use Rattle.link_names.specs.Externals.{AreDeclarations, IsDeclaration, entity_at, is_named, name_at, item_of}
use Rattle.link_names.specs.Firsts.{first_of, AreFirsts}
use Rattle.link_names.proofs.FirstLemmas.{is_named_own}
use Rattle.link_names.proofs.Gathering.{first_in, one_text, one_name, declared_at, declared_name}
use Rattle.link_names.proofs.Missing.{at_most_refl, at_most_trans}
use Rattle.link_units.specs.link_entities.Uses.{IsEarlier, Uses, FirstUsed, AreUses}

one_of : {X : Type 0} → {x y : X} → ◌≡◌ {A = Option X} (Some x) (Some y) → x ≡ y
one_of h = cc

none_some : {X : Type 0} → {x : X} → ◌≡◌ {A = Option X} None (Some x) → ⊥
none_some h = cc

-- the declarations before one, and it
with_one : (ds : List Declared) (i : ℕ) (d : Declared) → i < length ds → slice_get ds i ≡ Some d → take (i + 1) ds ≡ take i ds ++ d ∷ []
with_one ds i d l at = take_more ds i d l ∙ ap (λ x. take i ds ++ x ∷ []) (get_or_from_slice_get ds i d d at)

only : (d e : Declared) → Contains (d ∷ []) e → e ≡ d
only d e h =
    let zero_is : h.0 ≡ 0 = (let l = h.1 in omega arith) in
    sym (subst (λ k. get_or (d ∷ []) k e ≡ e) zero_is h.2)

split : (ds : List Declared) (i : ℕ) (d e : Declared) → i < length ds → slice_get ds i ≡ Some d → Contains (take (i + 1) ds) e → Contains (take i ds) e ⊎ (e ≡ d)
split ds i d e l at h = elim (Contains-append_cases (take i ds) (d ∷ []) e (subst (λ xs. Contains xs e) (with_one ds i d l at) h)) [
  | inl before ↦ inl before
  | inr here ↦ inr (only d e here)
]

earlier_one : (ds : List Declared) (i : ℕ) (d e : Declared) → i < length ds → slice_get ds i ≡ Some d → Contains (take i ds) e → Contains (take (i + 1) ds) e
earlier_one ds i d e l at h = subst (λ xs. Contains xs e) (sym (with_one ds i d l at)) (Contains-append_left (take i ds) (d ∷ []) e h)

this_one : (ds : List Declared) (i : ℕ) (d : Declared) → i < length ds → slice_get ds i ≡ Some d → Contains (take (i + 1) ds) d
this_one ds i d l at = subst (λ xs. Contains xs d) (sym (with_one ds i d l at)) (Contains-append_right (take i ds) (d ∷ []) d (0, (omega arith), refl))

-- a use among them is one before, or that of this one
uses_split : (units : List Unit) (ds : List Declared) (i : ℕ) (d : Declared) (x : IsDeclaration units d) (name : List ℕ) (q : Place) → i < length ds → slice_get ds i ≡ Some d
    → Uses units (take (i + 1) ds) name q → Uses units (take i ds) name q ⊎ ((x.entity.used ≡ Some q) × (x.entity.name ≡ name))
uses_split units ds i d x name q l at h = elim (split ds i d h.declared l at h.among) [
  | inl before ↦ inl (record { declared = h.declared; among = before; entity = h.entity; entity_is = h.entity_is; named = h.named; used = h.used })
  | inr same ↦
      let one : x.entity ≡ h.entity = one_of (sym x.entity_is ∙ (ap (λ e. entity_at units (item_of e)) (sym same) ∙ h.entity_is)) in
      inr (ap (λ (e : Entity). e.used) one ∙ h.used, ap (λ (e : Entity). e.name) one ∙ h.named)
]

uses_before : (units : List Unit) (ds : List Declared) (i : ℕ) (d : Declared) (name : List ℕ) (q : Place) → i < length ds → slice_get ds i ≡ Some d
    → Uses units (take i ds) name q → Uses units (take (i + 1) ds) name q
uses_before units ds i d name q l at h =
    record { declared = h.declared; among = earlier_one ds i d h.declared l at h.among; entity = h.entity; entity_is = h.entity_is; named = h.named; used = h.used }

uses_here : (units : List Unit) (ds : List Declared) (i : ℕ) (d : Declared) (x : IsDeclaration units d) (q : Place) → i < length ds → slice_get ds i ≡ Some d
    → x.entity.used ≡ Some q → Uses units (take (i + 1) ds) x.entity.name q
uses_here units ds i d x q l at used = record { declared = d; among = this_one ds i d l at; entity = x.entity; entity_is = x.entity_is; named = refl; used = used }

-- the first use of a name, with a declaration of it more
with_use : (units : List Unit) (ds : List Declared) (i : ℕ) (d : Declared) (x : IsDeclaration units d) → i < length ds → slice_get ds i ≡ Some d
    → (o used kept : Option Place) → x.entity.used ≡ used → FirstUsed units (take i ds) x.entity.name o → IsEarlier o used kept → FirstUsed units (take (i + 1) ds) x.entity.name kept
with_use units ds i d x l at None None kept e h is = subst (FirstUsed units (take (i + 1) ds) x.entity.name) (sym is) (λ q u. elim (uses_split units ds i d x x.entity.name q l at u) [
  | inl before ↦ h q before
  | inr here ↦ none_some (sym e ∙ here.0)
])
with_use units ds i d x l at None (Some p) kept e h is = subst (FirstUsed units (take (i + 1) ds) x.entity.name) (sym is) (record {
  uses = uses_here units ds i d x p l at e;
  first = λ q u. elim (uses_split units ds i d x x.entity.name q l at u) [
    | inl before ↦ absurd (h q before)
    | inr here ↦ subst (PlaceAtMost p) (one_of (sym e ∙ here.0)) (at_most_refl p)
  ];
})
with_use units ds i d x l at (Some p) None kept e h is = subst (FirstUsed units (take (i + 1) ds) x.entity.name) (sym is) (record {
  uses = uses_before units ds i d x.entity.name p l at h.uses;
  first = λ q u. elim (uses_split units ds i d x x.entity.name q l at u) [
    | inl before ↦ h.first q before
    | inr here ↦ absurd (none_some (sym e ∙ here.0))
  ];
})
with_use units ds i d x l at (Some p) (Some q) kept e h is = elim is [
  | inl first ↦ subst (FirstUsed units (take (i + 1) ds) x.entity.name) (sym first.0) (record {
    uses = uses_before units ds i d x.entity.name p l at h.uses;
    first = λ r u. elim (uses_split units ds i d x x.entity.name r l at u) [
      | inl before ↦ h.first r before
      | inr here ↦ subst (PlaceAtMost p) (one_of (sym e ∙ here.0)) first.1
    ];
  })
  | inr second ↦ subst (FirstUsed units (take (i + 1) ds) x.entity.name) (sym second.0) (record {
    uses = uses_here units ds i d x q l at e;
    first = λ r u. elim (uses_split units ds i d x x.entity.name r l at u) [
      | inl before ↦ at_most_trans q p r second.1 (h.first r before)
      | inr here ↦ subst (PlaceAtMost q) (one_of (sym e ∙ here.0)) (at_most_refl q)
    ];
  })
]

-- that of another name stays
without_use : (units : List Unit) (ds : List Declared) (i : ℕ) (d : Declared) (x : IsDeclaration units d) (name : List ℕ) → i < length ds → slice_get ds i ≡ Some d → (x.entity.name ≡ name → ⊥)
    → (o : Option Place) → FirstUsed units (take i ds) name o → FirstUsed units (take (i + 1) ds) name o
without_use units ds i d x name l at other None h = λ q u. elim (uses_split units ds i d x name q l at u) [
  | inl before ↦ h q before
  | inr here ↦ other here.1
]
without_use units ds i d x name l at other (Some p) h = record {
  uses = uses_before units ds i d name p l at h.uses;
  first = λ q u. elim (uses_split units ds i d x name q l at u) [
    | inl before ↦ h.first q before
    | inr here ↦ absurd (other here.1)
  ];
}

same_first : (a b : ℕ) → ◌≡◌ {A = Option ℕ} (Some a) (Some b) → a ≡ b
same_first a b e = cc

-- the uses with one declaration more
pub uses_more : (units : List Unit) (ds : List Declared) (firsts : List ℕ) (list now : List (Option Place)) (i : ℕ) (d : Declared) (kept : Option Place)
    → AreDeclarations units ds → AreFirsts units ds firsts → i < length ds → slice_get ds i ≡ Some d → AreUses units ds (take i ds) list
    → ((x : Entity) → entity_at units (item_of d) ≡ Some x → IsEarlier (get_or list (get_or firsts i 0) None) x.used kept)
    → now ≡ set list (get_or firsts i 0) kept → AreUses units ds (take (i + 1) ds) now
uses_more units ds firsts list now i d kept declared are l at h earlier is =
    let x = declared_at units ds i d declared l at in
    let name = x.entity.name in
    let named = declared_name units d x in
    let f0 = get_or firsts i 0 in
    let here : first_of units ds name ≡ Some f0 = are.each i d name at named in
    let within : f0 < length list = let a = (first_in units ds name f0 d here).0 in let b = h.all in omega arith in
    subst (AreUses units ds (take (i + 1) ds)) (sym is) (record {
      all = length-set list f0 kept ∙ h.all;
      each = λ n f first. elim (cases_Bool (is_named units n d)) [
        | inl its ↦
            let one : n ≡ name = one_text (name_at units (item_of d)) n name its (is_named_own units d name named) in
            let fs : f ≡ f0 = same_first f f0 (sym first ∙ (ap (first_of units ds) one ∙ here)) in
            let before : FirstUsed units (take i ds) name (get_or list f0 None) = h.each name f0 here in
            let after : FirstUsed units (take (i + 1) ds) name kept = with_use units ds i d x l at (get_or list f0 None) x.entity.used kept refl before (earlier x.entity x.entity_is) in
            subst (λ m. FirstUsed units (take (i + 1) ds) m (get_or (set list f0 kept) f None)) (sym one)
            (subst (FirstUsed units (take (i + 1) ds) name) (sym (ap (λ k. get_or (set list f0 kept) k None) fs ∙ get_or-set_same list f0 kept None within)) after)
        | inr not_its ↦
            let other : name ≡ n → ⊥ = λ one. false≢true (sym not_its ∙ (ap (λ m. is_named units m d) (sym one) ∙ is_named_own units d name named)) in
            let apart : f ≢ f0 = λ fs. other (sym (one_name units ds n name f d first (here ∙ ap Some (sym fs)))) in
            subst (FirstUsed units (take (i + 1) ds) n) (sym (get_or-set_other list f0 f kept None apart)) (without_use units ds i d x n l at other (get_or list f None) (h.each n f first))
      ];
    })
