-- Words that are each the least solution's are the least solution.
use Rattle.std.proofs.Common.{◌≡◌, ℕ, ◌+◌, ◌*◌, ◌/◌, ◌<◌, List, [], ◌∷◌, ◌++◌, length-append, length, get_or, refl, sym, subst, inl, inr, arith}
use mathlib.Core.Logic.{∥∥₁_elim}
use Rattle.std.proofs.Props.{props}
use Rattle.std.proofs.lemmas.Bool.{cases_eq, cases_lt}
use Rattle.std.proofs.Math.ListN.{get_or-append}
use Rattle.std.proofs.Math.Seq.{get_or-append_seam}
use Rattle.sol_model.specs.declared.system.System.{System}
use Rattle.sol_model.specs.Families.{Family, Has, IsInside, shown}
use Rattle.sol_model.specs.Solutions.{IsLeast}
use Rattle.sol_model.specs.Systems.{IsValid, IsLocation, width_of}
use Rattle.sol_model.specs.Words.{Within, full}
use Rattle.sol_model.proofs.Words.{has_bit, bit_has, place_below, locations_fit, fact_place, within_set}
use Rattle.sol_model.proofs.Closed.{full_closed, full_has}
use Rattle.sol_model.proofs.Monotone.{given_in_closed}
use Rattle.sol_model.proofs.Closed.{closed_from_given, closed_same, least_same}
use Rattle.set_rows.specs.Views.{words_of, IsLeastWord, OnlyLooked, looked}
use Rattle.set_rows.specs.declared.view.View.{View}

abbrev pub AllLeast : System → List ℕ → Type 0
AllLeast S words = (i : ℕ) → i < length words → IsLeastWord S i (get_or words i 0)

abbrev pub Copied : System → ℕ → List ℕ → Type 0
Copied S width words = (length words ≡ words_of S) × ((row location : ℕ) → Has (shown width words) row location → IsLocation S location) × IsLeast S (shown width words)

-- a fact of a least family stands in the words
least_in : (S : System) (words : List ℕ) (F : Family) → IsValid S → length words ≡ words_of S → AllLeast S words → IsLeast S F → IsInside F (shown (width_of S) words)
least_in S words F valid sized all least row location h =
    let w : ℕ = width_of S in
    let i : ℕ = row * w + location / 64 in
    let in_range = full_has S row location (least.below (full S) (full_closed S valid) row location h) in
    let small : location < 64 * w = locations_fit S location in_range.1 in
    let lt : i < length words = (let p = place_below S.rows w row location in_range.0 small in omega arith) in
    let word = all i lt in
    bit_has w words row location small ((word.2 row location small refl).0 (least_same S F word.0 least word.1 row location h))

in_least : (S : System) (words : List ℕ) (F : Family) → length words ≡ words_of S → AllLeast S words → IsLeast S F → IsInside (shown (width_of S) words) F
in_least S words F sized all least row location h =
    let w : ℕ = width_of S in
    let i : ℕ = row * w + location / 64 in
    let at = has_bit w words row location h in
    let word = all i (fact_place w words row location h) in
    least_same S word.0 F word.1 least row location ((word.2 row location at.0 refl).1 at.2)

below_full : (S : System) (words : List ℕ) → IsValid S → length words ≡ words_of S → AllLeast S words → IsInside (shown (width_of S) words) (full S)
below_full S words valid sized all row location h =
    let w : ℕ = width_of S in
    let at = has_bit w words row location h in
    let word = all (row * w + location / 64) (fact_place w words row location h) in
    word.1.below (full S) (full_closed S valid) row location ((word.2 row location at.0 refl).1 at.2)

some_least : (S : System) (words : List ℕ) → IsValid S → length words ≡ words_of S → AllLeast S words → 0 < length words → IsLeast S (shown (width_of S) words)
some_least S words valid sized all some_word =
    let word = all 0 some_word in
    let to = least_in S words word.0 valid sized all word.1 in
    let from = in_least S words word.0 sized all word.1 in
    record { closed = closed_same S word.0 (shown (width_of S) words) to from word.1.closed; below = λ G closed row location h. word.1.below G closed row location (from row location h) }

-- a system with no word has no fact in range, so nothing is demanded
no_word_least : (S : System) (words : List ℕ) → IsValid S → length words ≡ words_of S → length words ≡ 0 → IsLeast S (shown (width_of S) words)
no_word_least S words valid sized none_there =
    let w : ℕ = width_of S in
    let nothing : IsInside (shown w words) (full S) = λ r l h. absurd (let p = fact_place w words r l h in omega arith) in record {
      closed = closed_from_given S (shown w words) (λ row location given.
          let in_range = full_has S row location (given_in_closed S (shown w words) (full S) nothing row location (full_closed S valid) given) in
          absurd (let p = place_below S.rows w row location in_range.0 (locations_fit S location in_range.1) in omega arith));
      below = λ G closed row location h. absurd (let p = fact_place w words row location h in omega arith);
    }

all_least : (S : System) (words : List ℕ) → IsValid S → length words ≡ words_of S → AllLeast S words → Copied S (width_of S) words
all_least S words valid sized all = (
  sized,
  (λ row location h. (full_has S row location (below_full S words valid sized all row location h)).1),
  elim (cases_eq (length words) 0) [ inl e ↦ no_word_least S words valid sized e | inr ne ↦ some_least S words valid sized all (omega arith) ],
)

pub copied : (S : System) (width : ℕ) (words : List ℕ) → ∥ IsValid S ∥₁ → width ≡ width_of S → length words ≡ words_of S → AllLeast S words → Copied S width words
copied S width words valid wide sized all =
    subst (λ (n : ℕ). Copied S n words) (sym wide)
    (∥∥₁_elim valid (hlevel props) (λ v. all_least S words v sized all))

pub more_least : (S : System) (words : List ℕ) (word : ℕ) → AllLeast S words → IsLeastWord S (length words) word → AllLeast S (words ++ word ∷ [])
more_least S words word all here i lt = elim (cases_lt i (length words)) [
  | inl below ↦ subst (IsLeastWord S i) (sym (get_or-append words (word ∷ []) 0 i below)) (all i below)
  | inr above ↦ let e : i ≡ length words = (let l = length-append words (word ∷ []) in omega arith) in
      subst (λ (j : ℕ). IsLeastWord S j (get_or (words ++ word ∷ []) j 0)) (sym e) (subst (IsLeastWord S (length words)) (sym (get_or-append_seam words word [] 0)) here)
]

pub still_looked : (v u : View) (word found : ℕ) → OnlyLooked v u → word < length u.seen → Within (get_or u.seen word 0) found → OnlyLooked v (looked u word found)
still_looked v u word found o lt w = record {
  system = o.system;
  ors = o.ors;
  shuts = o.shuts;
  reads = o.reads;
  last = o.last;
  knows = o.knows;
  found = o.found;
  part = o.part;
  halvings = o.halvings;
  seen = λ i k h. within_set u.seen word found lt w i k (o.seen i k h);
}
