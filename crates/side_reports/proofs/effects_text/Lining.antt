-- Lines of functions, one after another.
use Rattle.std.proofs.Common.{◌≡◌, ℕ, zero, suc, ◌+◌, ◌*◌, ◌/◌, ◌^◌, ◌<◌, ◌≤◌, false, List, [], ◌∷◌, ◌++◌, Option, Some, None, length, take, codes, slice_get, refl, sym, ◌∙◌, ap, append_assoc, append-nil, subst, inl, inr, mul-le-mul_right, arith}
use Rattle.std.specs.Option.{is_some}
use Rattle.std.proofs.lemmas.Bool.{cases_lt, true≢false}
use Rattle.std.proofs.lemmas.Option.{none-some, same_Some}
use Rattle.sol_model.specs.declared.system.System.{System}
use Rattle.sol_model.specs.declared.system.Function.{Function}
use Rattle.sol_model.specs.declared.rows.Rows.{Rows}
use Rattle.sol_model.specs.Families.{Family, Has, members}
use Rattle.sol_model.specs.Systems.{IsValid, IsLocation, location_count, width_of}
use Rattle.mod_ref.proofs.Gaining.{row_held}
use Rattle.obj_space.specs.declared.location.Location.{Location}
use Rattle.unit_report.specs.report_text.Report.{text_of}
use Rattle.side_reports.specs.effects_text.Effects.{IsListable, lines_by, lines_from, touch_line}

text_append : (xs ys : List (List ℕ)) → text_of (xs ++ ys) ≡ text_of xs ++ text_of ys
text_append [] ys = refl
text_append (x ∷ xs) ys = ap (λ (rest : List ℕ). (x ++ codes "\n") ++ rest) (text_append xs ys) ∙ sym (append_assoc (x ++ codes "\n") (text_of xs) (text_of ys))

pub text_two : (a b : List ℕ) → text_of (a ∷ b ∷ []) ≡ (a ++ codes "\n") ++ (b ++ codes "\n")
text_two a b = ap (λ (rest : List ℕ). (a ++ codes "\n") ++ rest) (append-nil (b ++ codes "\n"))

module _ (space : List Location) (system : System) (reads writes : Family) where
  from_next : (k : ℕ) (xs : List Function) (i : ℕ) (function : Function) → slice_get xs i ≡ Some function
      → text_of (lines_from space system reads writes k (take (suc i) xs)) ≡ text_of (lines_from space system reads writes k (take i xs)) ++ text_of (lines_by space system reads writes (k + i) function function.library)
  from_next k [] i function at = absurd (none-some _ at)
  from_next k (x ∷ xs) zero function at =
      let same = same_Some _ _ at in
      let number : k ≡ k + 0 = omega arith in
      ap text_of (append-nil (lines_by space system reads writes k x x.library)) ∙ ap (λ (f : Function). text_of (lines_by space system reads writes k f f.library)) same
      ∙ ap (λ (n : ℕ). text_of (lines_by space system reads writes n function function.library)) number
  from_next k (x ∷ xs) (suc i) function at =
      let number : k + 1 + i ≡ k + suc i = omega arith in
      text_append (lines_by space system reads writes k x x.library) (lines_from space system reads writes (k + 1) (take (suc i) xs))
      ∙ (ap (λ (rest : List ℕ). text_of (lines_by space system reads writes k x x.library) ++ rest) (from_next (k + 1) xs i function at)
      ∙ (sym (append_assoc (text_of (lines_by space system reads writes k x x.library)) (text_of (lines_from space system reads writes (k + 1) (take i xs))) (text_of (lines_by space system reads writes (k + 1 + i) function function.library)))
      ∙ (ap (λ (front : List ℕ). front ++ text_of (lines_by space system reads writes (k + 1 + i) function function.library)) (sym (text_append (lines_by space system reads writes k x x.library) (lines_from space system reads writes (k + 1) (take i xs))))
      ∙ ap (λ (n : ℕ). text_of (lines_from space system reads writes k (take (suc i) (x ∷ xs))) ++ text_of (lines_by space system reads writes n function function.library)) number)))

  -- a function more
  pub lines_next : (xs : List Function) (i : ℕ) (function : Function) (old now new : List ℕ) → slice_get xs i ≡ Some function
      → now ≡ old ++ text_of (lines_from space system reads writes 0 (take i xs))
      → new ≡ now ++ text_of (lines_by space system reads writes i function function.library)
      → new ≡ old ++ text_of (lines_from space system reads writes 0 (take (i + 1) xs))
  lines_next xs i function old now new at before more =
      let one : suc i ≡ i + 1 = omega arith in
      let number : 0 + i ≡ i = omega arith in
      more
      ∙ (ap (λ (front : List ℕ). front ++ text_of (lines_by space system reads writes i function function.library)) before
      ∙ (append_assoc old (text_of (lines_from space system reads writes 0 (take i xs))) (text_of (lines_by space system reads writes i function function.library))
      ∙ ap (λ (rest : List ℕ). old ++ rest)
      (ap (λ (n : ℕ). text_of (lines_from space system reads writes 0 (take i xs)) ++ text_of (lines_by space system reads writes n function function.library)) (sym number)
      ∙ (sym (from_next 0 xs i function at) ∙ ap (λ (n : ℕ). text_of (lines_from space system reads writes 0 (take n xs))) one))))

-- a valid system has few locations
pub few_words : (S : System) → IsValid S → 64 * width_of S < 2 ^ 32
few_words S valid =
    let count : ℕ = location_count S in
    let w : ℕ = (count + 63) / 64 in
    let rows = valid.rows in
    let size : S.rows * w ≤ 2 ^ 24 = valid.size in
    elim (cases_lt w 8192) [
      | inl lt ↦ omega arith
      | inr ge ↦
          (let up : w ≤ S.rows = omega arith in
          let square : w * w ≤ S.rows * w = mul-le-mul_right w up in
          let large : 8192 * w ≤ w * w = mul-le-mul_right w ge in
          absurd (omega arith))
    ]

pub listable : (S : System) (rows : Rows) (row : ℕ) → IsValid S → rows.width ≡ width_of S → length rows.words ≡ length S.functions * width_of S → ((f l : ℕ) → Has (members rows) f l → IsLocation S l) → row < length S.functions → IsListable S rows row
listable S rows row valid width words known lt =
    let narrow = few_words S valid in
    let count : ℕ = location_count S in
    let all : count ≤ 64 * ((count + 63) / 64) = omega arith in
    record {
      held = row_held S rows row (record { width = width; words = words }) lt;
      narrow = subst (λ w. 64 * w < 2 ^ 32) (sym width) narrow;
      wide = subst (λ w. location_count S ≤ 64 * w) (sym width) all;
      known = known row;
    }

-- the two lines of a function that is none of the library
pub both_lines : (space : List Location) (system : System) (reads writes : Family) (row : ℕ) (function : Function) (old one two : List ℕ) → is_some function.library ≡ false
    → one ≡ old ++ (touch_line (codes "reads") space system reads row function ++ codes "\n")
    → two ≡ one ++ (touch_line (codes "writes") space system writes row function ++ codes "\n")
    → two ≡ old ++ text_of (lines_by space system reads writes row function function.library)
both_lines space system reads writes row function old one two own first second =
    let a = touch_line (codes "reads") space system reads row function in
    let b = touch_line (codes "writes") space system writes row function in
    second
    ∙ (ap (λ (front : List ℕ). front ++ (b ++ codes "\n")) first
    ∙ (append_assoc old (a ++ codes "\n") (b ++ codes "\n")
    ∙ ap (λ (rest : List ℕ). old ++ rest) (sym (text_two a b) ∙ by function.library own)))
  where
    by : (o : Option ℕ) → is_some o ≡ false → text_of (touch_line (codes "reads") space system reads row function ∷ touch_line (codes "writes") space system writes row function ∷ []) ≡ text_of (lines_by space system reads writes row function o)
    by None h = refl
    by (Some k) h = absurd (true≢false h)
