-- What systems that are one have of each other, with their least solutions.
use Rattle.std.proofs.Common.{◌≡◌, ◌↔◌, ℕ, zero, suc, ◌<◌, Bool, true, false, List, [], ◌∷◌, length, Some, slice_get, refl, sym, ◌∙◌, ap, subst, inl, inr, arith}
use Rattle.std.proofs.lemmas.Bool.{cases_lt}
use Rattle.std.proofs.lemmas.Option.{same_Some, slice_get_within}
use Rattle.sol_model.specs.declared.system.System.{System}
use Rattle.sol_model.specs.declared.system.CallSite.{CallSite}
use Rattle.sol_model.specs.declared.system.Function.{Function}
use Rattle.sol_model.specs.Families.{Family, Has}
use Rattle.sol_model.specs.Solutions.{IsLeast}
use Rattle.sol_model.specs.Systems.{IsValid, IsRow, IsLocation, IsFunctionValid, location_count}
use Rattle.sol_model.proofs.Closed.{full_has, least_is_in_range}
use Rattle.sol_model.proofs.Members.{All-at}
use Rattle.twin_report_laws.specs.systems.Systems.{Maps, SameCall, SameFunction}
use Rattle.twin_report_laws.proofs.systems.Whole.{one_solution}
use Rattle.twin_report_laws.specs.reports.Same.{SameSite, AreOneSystem}

pub has_one : {X : Type 0} (xs : List X) (i : ℕ) → i < length xs → (x : X) × (slice_get xs i ≡ Some x)
has_one [] i lt = absurd (omega arith)
has_one (x ∷ xs) zero lt = (x, refl)
has_one (x ∷ xs) (suc i) lt = has_one xs i (omega arith)

pub both_or_neither : (a b : Bool) → (b ≡ true → a ≡ true) → (a ≡ true → b ≡ true) → a ≡ b
both_or_neither true b from to = sym (to refl)
both_or_neither false true from to = from refl
both_or_neither false false from to = refl

-- the other way round
abbrev pub turned : {one other : System} → AreOneSystem one other → AreOneSystem other one
turned o = record { to = o.back; back = o.to; lead = o.again; again = o.lead; keeps = o.kept; kept = o.keeps }

-- a call and a function of one system in the other one
pub record IsCallOver (one other : System) (to : Maps) (k : ℕ) (x y : CallSite) : Type 0 where
  pub there : slice_get other.calls (to.call k) ≡ Some y
  pub same : SameCall to x y
  pub site : SameSite x y

pub record IsFunctionOver (one other : System) (to : Maps) (k : ℕ) (f g : Function) : Type 0 where
  pub there : slice_get other.functions k ≡ Some g
  pub same : SameFunction to f g
  pub location : g.location ≡ f.location

module _ (one other : System) (o : AreOneSystem one other) where
  pub location_over : (l : ℕ) → IsLocation one l → (o.to.row l ≡ l) × IsLocation other l
  location_over l h =
      let (x, at) = has_one one.locations l h in
      let (kept, found) = o.keeps.locations l x at in
      (kept, slice_get_within other.locations l found.0 found.1)

  pub call_over : (k : ℕ) (x : CallSite) → slice_get one.calls k ≡ Some x → (y : CallSite) × IsCallOver one other o.to k x y
  call_over k x at =
      let (y, there, same) = o.lead.calls k x at in
      let (back, found) = o.keeps.calls k x at in
      (y, record { there = there; same = same; site = subst (λ (c : CallSite). SameSite x c) (same_Some _ _ (sym found.1 ∙ there)) found.2 })

  pub function_over : (k : ℕ) (f : Function) → IsValid one → slice_get one.functions k ≡ Some f → (g : Function) × IsFunctionOver one other o.to k f g
  function_over k f valid at =
      let (g, there, same) = o.lead.functions k f at in
      let here : IsLocation one f.location = (All-at (IsFunctionValid one) one.functions k f valid.functions at).location in (
        g,
        record {
          there = ap (slice_get other.functions) (sym (o.keeps.functions k (slice_get_within one.functions k f at))) ∙ there;
          same = same;
          location = same.location ∙ (location_over f.location here).0;
        },
      )

  -- calls have the signatures of the same functions
  pub agree_over : (n k : ℕ) (x y : CallSite) (f g : Function) → slice_get one.calls n ≡ Some x → slice_get other.calls (o.to.call n) ≡ Some y → slice_get one.functions k ≡ Some f → slice_get other.functions k ≡ Some g
      → f.signature ≡ x.signature → g.signature ≡ y.signature
  agree_over n k x y f g at there f_at g_at =
      o.lead.agree n k x y f g at f_at there (ap (slice_get other.functions) (o.keeps.functions k (slice_get_within one.functions k f f_at)) ∙ g_at)

module _ (one other : System) (o : AreOneSystem one other) where
  pub same_count : location_count other ≡ location_count one
  same_count = elim (cases_lt (location_count one) (location_count other)) [
    | inl lt ↦ absurd (let h = (location_over other one (turned o) (location_count one) lt).1 in omega (arith, h))
    | inr ge ↦ elim (cases_lt (location_count other) (location_count one)) [
      | inl lt ↦ absurd (let h = (location_over one other o (location_count other) lt).1 in omega (arith, h))
      | inr le ↦ omega (arith, ge, le)
    ]
  ]

  pub agree_both : (n k : ℕ) (x y : CallSite) (f g : Function) → slice_get one.calls n ≡ Some x → slice_get other.calls (o.to.call n) ≡ Some y → slice_get one.functions k ≡ Some f → slice_get other.functions k ≡ Some g
      → (f.signature ≡ x.signature) ↔ (g.signature ≡ y.signature)
  agree_both n k x y f g at there f_at g_at = (
    agree_over one other o n k x y f g at there f_at g_at,
    agree_over other one (turned o) (o.to.call n) k y x g f there (ap (slice_get one.calls) (o.keeps.calls n x at).0 ∙ at) g_at f_at,
  )

  module _ (F G : Family) (valid : IsValid one) (other_valid : IsValid other) (f : IsLeast one F) (g : IsLeast other G) where
    -- what a row has, its row in the other system has
    pub has_over : (row location : ℕ) → Has F row location → Has G (o.to.row row) location
    has_over row location has =
        let here : IsLocation one location = (full_has one row location (least_is_in_range one F valid f row location has)).1 in
        subst (λ (l : ℕ). Has G (o.to.row row) l) (location_over one other o location here).0
        ((one_solution one other o.to o.back F G valid other_valid o.lead o.again f g).facts row location has)

  module _ (F G : Family) (valid : IsValid one) (other_valid : IsValid other) (f : IsLeast one F) (g : IsLeast other G) where
    pub row_same : (row location : ℕ) → IsRow one row → G (o.to.row row) location ≡ F row location
    row_same row location h =
        both_or_neither (G (o.to.row row) location) (F row location)
        (has_over F G valid other_valid f g row location)
        (λ has.
        let here : IsLocation other location = (full_has other (o.to.row row) location (least_is_in_range other G other_valid g (o.to.row row) location has)).1 in
        subst (λ (r : ℕ). Has F r location) (o.keeps.rows row h)
        (subst (λ (l : ℕ). Has F (o.back.row (o.to.row row)) l) (location_over other one (turned o) location here).0
        ((one_solution other one o.back o.to G F other_valid valid o.again o.lead g f).facts (o.to.row row) location has)))
