-- What systems that are one have alike, with their least solutions.
use Rattle.std.proofs.Common.{◌≡◌, ◌↔◌, ℕ, ◌==◌, Bool, true, false, cond, List, [], ◌∷◌, ◌++◌, Option, Some, None, slice_get, refl, sym, ◌∙◌, ap}
use Rattle.std.specs.List.{filter, range_with_len}
use Rattle.std.specs.Option.{option_map_or}
use Rattle.std.specs.Prelude.{codes}
use Rattle.std.proofs.lemmas.Bool.{eqb-true, eq-eqb}
use Rattle.std.proofs.lemmas.Option.{none-some, same_Some}
use Rattle.sol_model.specs.declared.system.System.{System}
use Rattle.sol_model.specs.declared.system.LocationFact.{LocationFact}
use Rattle.sol_model.specs.declared.system.CallSite.{CallSite}
use Rattle.sol_model.specs.declared.system.Function.{Function}
use Rattle.sol_model.specs.Families.{Family}
use Rattle.sol_model.specs.Solutions.{IsLeast}
use Rattle.sol_model.specs.Systems.{IsValid, IsRow, location_count}
use Rattle.obj_space.specs.declared.location.Location.{Location}
use Rattle.unit_report.specs.report_text.Report.{name_in, names_of, members_in, targets_in, agrees, is_function}
use Rattle.twin_report_laws.specs.reports.Same.{AreOneSystem}
use Rattle.twin_report_laws.proofs.reports.Over.{turned, IsCallOver, function_over, same_count, agree_both, row_same}

pub filter_same : (p q : ℕ → Bool) → ((k : ℕ) → q k ≡ p k) → (xs : List ℕ) → filter q xs ≡ filter p xs
filter_same p q same [] = refl
filter_same p q same (x ∷ xs) =
    ap (λ (b : Bool). cond b (x ∷ filter q xs) (filter q xs)) (same x) ∙ ap (λ (rest : List ℕ). cond (p x) (x ∷ rest) rest) (filter_same p q same xs)

-- two lists that are there alike, read as numbers or tests
read_same : {X A : Type 0} (f g : X → A) (none : A) (o p : Option X) → ((x : X) → o ≡ Some x → (y : X) × (p ≡ Some y) × (g y ≡ f x)) → ((y : X) → p ≡ Some y → (x : X) × (o ≡ Some x)) → option_map_or g p none ≡ option_map_or f o none
read_same f g none None None to from = refl
read_same f g none None (Some y) to from = let (x, is) = from y refl in absurd (none-some _ is)
read_same f g none (Some x) None to from = let (y, is, same) = to x refl in absurd (none-some _ is)
read_same f g none (Some x) (Some y) to from = let (z, is, same) = to x refl in ap g (same_Some y z is) ∙ same

pub names_same : (one other : List Location) → ((l : ℕ) → name_in other l ≡ name_in one l) → (ls : List ℕ) → names_of other ls ≡ names_of one ls
names_same one other same [] = refl
names_same one other same (l ∷ ls) =
    ap (λ (name : List ℕ). (codes " " ++ name) ++ names_of other ls) (same l) ∙ ap (λ (rest : List ℕ). (codes " " ++ name_in one l) ++ rest) (names_same one other same ls)

both_tests : (s t : Bool) → (s ≡ true → t ≡ true) → (t ≡ true → s ≡ true) → s ≡ t
both_tests true t to from = sym (to refl)
both_tests false true to from = from refl
both_tests false false to from = refl

tests_same : (a b c d : ℕ) → (c ≡ d) ↔ (a ≡ b) → (a == b) ≡ (c == d)
tests_same a b c d h = both_tests (a == b) (c == d) (λ t. eq-eqb c d (h.1 (eqb-true a b t))) (λ t. eq-eqb a b (h.0 (eqb-true c d t)))

module _ (one other : System) (o : AreOneSystem one other) (valid : IsValid one) (other_valid : IsValid other) where
  -- what is read of a function
  pub function_same : {A : Type 0} (f g : Function → A) (none : A) (k : ℕ) → ((x y : Function) → slice_get one.functions k ≡ Some x → slice_get other.functions k ≡ Some y → y.location ≡ x.location → g y ≡ f x)
      → option_map_or g (slice_get other.functions k) none ≡ option_map_or f (slice_get one.functions k) none
  function_same f g none k same = read_same f g none (slice_get one.functions k) (slice_get other.functions k)
      (λ x at. let (y, over) = function_over one other o k x valid at in (y, over.there, same x y at over.there over.location))
      (λ y there. let (x, over) = function_over other one (turned o) k y other_valid there in (x, over.there))

  location_same : {A : Type 0} (f g : LocationFact → A) (none : A) (l : ℕ) → ((x y : LocationFact) → y.function ≡ x.function → g y ≡ f x)
      → option_map_or g (slice_get other.locations l) none ≡ option_map_or f (slice_get one.locations l) none
  location_same f g none l same = read_same f g none (slice_get one.locations l) (slice_get other.locations l)
      (λ x at. let found = (o.keeps.locations l x at).1 in (found.0, found.1, same x found.0 found.2))
      (λ y there. let found = (o.kept.locations l y there).1 in (found.0, found.1))

  module _ (n : ℕ) (x y : CallSite) (at : slice_get one.calls n ≡ Some x) (over : IsCallOver one other o.to n x y) where
    agrees_same : (k : ℕ) → agrees other y.signature k ≡ agrees one x.signature k
    agrees_same k = function_same (λ (f : Function). f.signature == x.signature) (λ (f : Function). f.signature == y.signature) false k
        (λ f g f_at g_at same. tests_same g.signature y.signature f.signature x.signature (agree_both one other o n k x y f g at over.there f_at g_at))

    is_function_same : (l : ℕ) → is_function other y.signature l ≡ is_function one x.signature l
    is_function_same l = location_same (λ (fact : LocationFact). option_map_or (agrees one x.signature) fact.function false) (λ (fact : LocationFact). option_map_or (agrees other y.signature) fact.function false) false l
        (λ a b same. ap (λ (f : Option ℕ). option_map_or (agrees other y.signature) f false) same ∙ by a.function)
      where
        by : (f : Option ℕ) → option_map_or (agrees other y.signature) f false ≡ option_map_or (agrees one x.signature) f false
        by None = refl
        by (Some k) = agrees_same k

  module _ (F G : Family) (f : IsLeast one F) (g : IsLeast other G) where
    pub members_same : (row : ℕ) → IsRow one row → members_in other G (o.to.row row) ≡ members_in one F row
    members_same row h =
        ap (λ (n : ℕ). filter (λ l. G (o.to.row row) l) (range_with_len 0 n)) (same_count one other o)
        ∙ filter_same (λ l. F row l) (λ l. G (o.to.row row) l) (λ l. row_same one other o F G valid other_valid f g row l h) (range_with_len 0 (location_count one))

    pub targets_same : (n : ℕ) (x y : CallSite) → slice_get one.calls n ≡ Some x → IsCallOver one other o.to n x y → IsRow one x.callee → targets_in other G y ≡ targets_in one F x
    targets_same n x y at over h =
        ap (λ (row : ℕ). filter (is_function other y.signature) (members_in other G row)) over.same.callee
        ∙ (ap (filter (is_function other y.signature)) (members_same x.callee h)
        ∙ filter_same (is_function one x.signature) (is_function other y.signature) (is_function_same n x y at over) (members_in one F x.callee))
