-- One name more, and all names.
use Rattle.std.proofs.Common.{arith, ◌≡◌, ◌∙◌, ℕ, ◌+◌, ◌<◌, ◌≤◌, false, List, length, Option, Some, None, refl, sym, ap, subst}
use Rattle.std.specs.Option.{is_some}
use Rattle.std.specs.List.{slice_get}
use Rattle.std.specs.Str.{bytes_eq}
use Rattle.std.specs.Cmp.Lexicographic.{bytes_decides}
use Rattle.std.proofs.lemmas.Bool.{cases_Bool, cases_lt, false≢true}
use Rattle.std.proofs.lemmas.Option.{slice_get_within}
use Rattle.std.proofs.Common.{inl, inr}
use Rattle.c_types.specs.Index.{number_at}
use Rattle.obj_space.specs.declared.location.Location.{Location}
use Rattle.obj_space.specs.Found.{HasName}
use Rattle.obj_space.specs.Space.{DistinctNames}
use Rattle.obj_space.specs.name_tests.Seen.{AreSeen}

pub no_some : (o : Option ℕ) → is_some o ≡ false → o ≡ None
no_some None h = refl
no_some (Some x) h = absurd (false≢true (sym h))

one_of : {A : Type 0} {a b : A} → Some a ≡ Some b → a ≡ b
one_of h = cc

none_some : {A : Type 0} {a : A} → ◌≡◌ {A = Option A} None (Some a) → ⊥
none_some h = cc

module _ (seen new : List (List ℕ × ℕ)) (space : List Location) (n : ℕ) (name : List ℕ) (has : HasName space n name) (fresh : number_at seen name ≡ None)
    (here : number_at new name ≡ Some n) (others : (q : List ℕ) → (name ≡ q → ⊥) → number_at new q ≡ number_at seen q) (old : AreSeen seen space n) where
  apart : (q : List ℕ) → bytes_eq name q ≡ false → name ≡ q → ⊥
  apart q differs e = false≢true (sym differs ∙ (bytes_decides name q).1 e)

  found : (q : List ℕ) (l : ℕ) → number_at new q ≡ Some l → (l < n + 1) × HasName space l q
  found q l h = elim (cases_Bool (bytes_eq name q)) [
    | inl y ↦
        let same : name ≡ q = (bytes_decides name q).0 y in
        let is : n ≡ l = one_of (sym here ∙ (ap (number_at new) same ∙ h)) in
        (omega arith, subst (λ (m : ℕ). HasName space m q) is (subst (HasName space n) same has))
    | inr f ↦
        let (lt, there) = old.found q l (sym (others q (apart q f)) ∙ h) in
        (omega arith, there)
  ]

  before : (l : ℕ) (y : Location) → l < n → slice_get space l ≡ Some y → number_at new y.name ≡ Some l
  before l y lt at = elim (cases_Bool (bytes_eq name y.name)) [
    | inl same ↦ absurd (none_some (sym fresh ∙ (ap (number_at seen) ((bytes_decides name y.name).0 same) ∙ old.each l y lt at)))
    | inr f ↦ others y.name (apart y.name f) ∙ old.each l y lt at
  ]

  each : (l : ℕ) (y : Location) → l < n + 1 → slice_get space l ≡ Some y → number_at new y.name ≡ Some l
  each l y lt at = elim (cases_lt l n) [
    | inl less ↦ before l y less at
    | inr more ↦
        let is : l ≡ n = omega arith in
        let same : y ≡ has.0 = one_of (sym at ∙ (ap (slice_get space) is ∙ has.1)) in
        ap (number_at new) (ap (λ (z : Location). z.name) same ∙ has.2) ∙ (here ∙ ap Some (sym is))
  ]

  pub one_more : AreSeen new space (n + 1)
  one_more = record { found = found; each = each }

pub all_differ : (seen : List (List ℕ × ℕ)) (space : List Location) (n : ℕ) → length space ≤ n → AreSeen seen space n → DistinctNames space
all_differ seen space n le h = record {
  once = λ i j a b at there names.
      let first = slice_get_within space i a at in
      let second = slice_get_within space j b there in
      one_of (sym (h.each i a (omega arith) at) ∙ (ap (number_at seen) names ∙ h.each j b (omega arith) there));
}
