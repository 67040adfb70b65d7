-- Systems of three locations whose constraints are Addresses of location 0, for the tests.
use Rattle.std.proofs.Common.{◌≡◌, ℕ, ◌+◌, ◌*◌, ◌/◌, ◌%◌, ◌<◌, Contains, length, get_or, set, bit_or, sym, ap, ◌∙◌, subst, inl, inr, arith, get_or-set_same}
use Rattle.std.specs.Int.{bit_at}
use Rattle.std.proofs.lemmas.Bool.{cases_eq}
use Rattle.std.proofs.lemmas.Nat.Bits.{bit_at-pow_other, bit_at-pow_same}
use Rattle.sol_model.specs.declared.system.System.{System}
use Rattle.sol_model.specs.declared.system.Constraint.{Constraint}
use Rattle.sol_model.specs.declared.system.Constraint.TheVariants.{Address}
use Rattle.sol_model.specs.Families.{Family, Has, shown}
use Rattle.sol_model.specs.Rules.{Satisfies}
use Rattle.sol_model.specs.Solutions.{IsClosed, IsGiven}
use Rattle.sol_model.specs.Systems.{location_count, width_of}
use Rattle.sol_model.specs.Words.{At}
use Rattle.sol_model.proofs.Words.{bit_has, words_inside, adds_or}
use Rattle.set_rows.specs.declared.view.View.{View}
use Rattle.set_rows.specs.Views.{words_of, known, added, met}
use Rattle.set_rows.proofs.Holding.{united_left, united_right}

one_word : (S : System) → location_count S ≡ 3 → width_of S ≡ 1
one_word S e = ap (λ (n : ℕ). (n + 63) / 64) e

pub three_words : (S : System) → S.rows ≡ 3 → location_count S ≡ 3 → words_of S ≡ 3
three_words S rows count = ap (λ n. n * width_of S) rows ∙ ap (λ n. 3 * n) (one_word S count)

-- the one bit of the mask 1 is the lowest
lowest : (k : ℕ) → bit_at 1 k ≡ 1 → k ≡ 0
lowest k one = elim (cases_eq k 0) [ inl e ↦ e | inr ne ↦ absurd (let z : bit_at 1 k ≡ 0 = bit_at-pow_other 0 k ne in omega arith) ]

pub address_licensed : (S : System) (F : Family) (r row location : ℕ) → location_count S ≡ 3 → Contains S.constraints (Address r 0) → At (width_of S) r 1 row location → IsGiven S F row location
address_licensed S F r row location count there at =
    let w : width_of S ≡ 1 = one_word S count in
    let near : location < 64 * 1 = subst (λ n. location < 64 * n) w at.0 in
    let bit : location % 64 ≡ 0 = lowest (location % 64) at.2 in
    let place : row * 1 + location / 64 ≡ r = subst (λ n. row * n + location / 64 ≡ r) w at.1 in
    let first : location ≡ 0 = omega arith in
    let same : row ≡ r = omega arith in
    (Address r 0, there, inl (same, first))

pub address_added : (v : View) (r found : ℕ) → location_count v.system ≡ 3 → r < length v.seen → Has (known (added v r 1 found)) r 0
address_added v r found count lt =
    let w : width_of v.system ≡ 1 = one_word v.system count in
    let place : r * width_of v.system + 0 ≡ r = ap (λ n. r * n + 0) w ∙ (let e : r * 1 + 0 ≡ r = omega arith in e) in
    bit_has (width_of v.system) (set v.seen r (bit_or found 1)) r 0 (omega arith)
    (ap (λ n. bit_at (get_or (set v.seen r (bit_or found 1)) n 0) 0) place ∙ ap (λ x. bit_at x 0) (get_or-set_same v.seen r (bit_or found 1) 0 lt) ∙ adds_or found 1 0 (bit_at-pow_same 0))

pub addresses_closed : (S : System) (F : Family) → ((constraint : Constraint) → Contains S.constraints constraint → (row : ℕ) × (constraint ≡ Address row 0) × Has F row 0) → IsClosed S F
addresses_closed S F all constraint there =
    let w = all constraint there in
    subst (Satisfies S F) (sym w.1) record {
      edges = λ a b edge. absurd edge;
      facts = λ row location fact. subst (λ (f : ℕ × ℕ). Has F f.0 f.1) (λ i. (sym fact.0 i, sym fact.1 i)) w.2;
    }

pub met_first : (v w : View) (row location : ℕ) → Has (known v) row location → Has (known (met v w)) row location
met_first v w row location = words_inside (width_of v.system) v.seen (met v w).seen (λ j k. united_left v.seen w.seen j k) row location

pub met_second : (v w : View) (row location : ℕ) → w.system ≡ v.system → Has (known w) row location → Has (known (met v w)) row location
met_second v w row location same has =
    words_inside (width_of v.system) w.seen (met v w).seen (λ j k. united_right v.seen w.seen j k) row location
    (subst (λ (S : System). Has (shown (width_of S) w.seen) row location) same has)
