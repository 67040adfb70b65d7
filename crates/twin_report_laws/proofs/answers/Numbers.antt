-- What words name in settings that are alike, they name by the same numbers, but for those of calls.
use Rattle.std.proofs.Common.{◌≡◌, ℕ, zero, suc, ◌<◌, List, [], ◌∷◌, length, Option, Some, slice_get, refl, sym, ◌∙◌, ap, arith}
use Rattle.std.proofs.lemmas.Option.{same_Some, slice_get_within}
use Rattle.std.specs.Option.{option_map_or}
use Rattle.sol_model.specs.declared.system.LocationFact.{LocationFact}
use Rattle.obj_space.specs.declared.location.Location.{Location}
use Rattle.obj_space.specs.Found.{HasName}
use Rattle.obj_space.specs.Space.{DistinctNames}
use Rattle.unit_report.specs.report_text.Report.{name_in}
use Rattle.alias_query.specs.Asked.{Setting, IsNamed, IsSetNamed, IsFunctionNamed, IsCallAt, place_text}
use Rattle.twin_report_laws.specs.reports.Same.{SameNames}
use Rattle.twin_report_laws.specs.answers.Same.{AreAskedAlike}

pub has_one : {X : Type 0} (xs : List X) (i : ℕ) → i < length xs → (x : X) × (slice_get xs i ≡ Some x)
has_one [] i lt = absurd (omega arith)
has_one (x ∷ xs) zero lt = (x, refl)
has_one (x ∷ xs) (suc i) lt = has_one xs i (omega arith)

name_at : (space : List Location) (l : ℕ) (x : Location) → slice_get space l ≡ Some x → name_in space l ≡ x.name
name_at space l x at = ap (λ (o : Option Location). option_map_or (λ (known : Location). known.name) o []) at

-- a word names one location in both
pub one_location : (one other : List Location) (word : List ℕ) (l k : ℕ) → SameNames one other → DistinctNames one → HasName one l word → HasName other k word → k ≡ l
one_location one other word l k same distinct (x, at, is) (y, there, named) =
    let within : k < length one = (let lt = slice_get_within other k y there in let many = same.many in omega (arith, lt, many)) in
    let (z, here) = has_one one k within in
    let its : z.name ≡ word = sym (name_at one k z here) ∙ (sym (same.names k) ∙ (name_at other k y there ∙ named)) in
    distinct.once k l z x here at (its ∙ sym is)

module _ (one other : Setting) (alike : AreAskedAlike one other) where
  pub set_number : (word : List ℕ) (l k : ℕ) → IsSetNamed one word l → IsSetNamed other word k → k ≡ l
  set_number word l k h t = one_location one.space other.space word l k alike.spaces alike.distinct h.named.name t.named.name

  pub location_number : (word : List ℕ) (l k : ℕ) → IsNamed one word l → IsNamed other word k → k ≡ l
  location_number word l k h t = one_location one.space other.space word l k alike.spaces alike.distinct h.name t.name

  pub function_number : (word : List ℕ) (f g : ℕ) → IsFunctionNamed one word f → IsFunctionNamed other word g → g ≡ f
  function_number word f g h t =
      let same : t.l ≡ h.l = location_number word h.l t.l h.named t.named in
      let found = (alike.systems.keeps.locations h.l h.fact h.there).1 in
      let is : t.fact ≡ found.0 = same_Some _ _ (sym t.there ∙ (ap (slice_get other.system.locations) same ∙ found.1)) in
      same_Some _ _ (sym t.is ∙ (ap (λ (fact : LocationFact). fact.function) is ∙ (found.2 ∙ h.is)))

  pub call_number : (word : List ℕ) (c d : ℕ) → IsCallAt one.system.calls one.names word c → IsCallAt other.system.calls other.names word d → d ≡ alike.systems.to.call c
  call_number word c d h t =
      let (leads, found) = alike.systems.kept.calls d t.site t.there in
      let back : IsCallAt one.system.calls one.names word (alike.systems.back.call d) = record {
        site = found.0;
        there = found.1;
        text = ap (place_text one.names) found.2.place ∙ (ap (λ (names : List (List ℕ)). place_text names t.site.place) (sym alike.units) ∙ t.text);
      } in
      sym leads ∙ ap alike.systems.to.call (alike.told.once word (alike.systems.back.call d) c back h)
