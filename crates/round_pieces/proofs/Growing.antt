-- What a row gains, as a growth of its size.
use Rattle.std.proofs.Common.{◌≡◌, ◌≢◌, ℕ, zero, suc, ◌+◌, ◌*◌, ◌/◌, ◌%◌, ◌^◌, ◌<◌, ◌≤◌, Bool, true, not, ◌&&◌, List, get_or, drop, bit_and, count_ones, refl, sym, ap, ◌∙◌, subst, inl, inr, arith, get_or-take}
use Rattle.std.specs.Int.{bit_at, bit_not, w64}
use Rattle.std.proofs.lemmas.Bool.{cases_lt, cases_Bool, and_from, and_parts, not_from_false}
use Rattle.std.proofs.lemmas.List.{get_or-drop}
use Rattle.std.proofs.lemmas.Nat.{and_le_r}
use Rattle.std.proofs.lemmas.Nat.Bits.{bit_at_and, bit_at-lt, bit_at_not, bit_at-zero}
use Rattle.sol_model.specs.declared.system.System.{System}
use Rattle.sol_model.specs.declared.rows.Rows.{Rows}
use Rattle.sol_model.specs.Families.{Has, members}
use Rattle.sol_model.specs.Systems.{Fits, location_count, width_of}
use Rattle.sol_model.proofs.Shown.{bit_shown}
use Rattle.round_pieces.specs.delta_prop.Deltas.{new_bits, gained}
use Rattle.new_members.specs.News.{IsIn, words_at}
use Rattle.round_pieces.specs.Work.{count_below, size}
use Rattle.round_pieces.proofs.Counts.{count_add, count_cut, count_split, ones_counted}

pub new_small : (done now : ℕ) → new_bits done now < 2 ^ 64
new_small done now = let a : bit_and now (bit_not w64 done) ≤ bit_not w64 done = and_le_r now (bit_not w64 done) in omega arith

-- a new location is there now, and wasn't done
pub new_there : (done now b : ℕ) → bit_at (new_bits done now) b ≡ 1 → bit_at now b ≡ 1
new_there done now b h = let m = bit_at_and now (bit_not w64 done) b in let l = bit_at-lt now b in omega arith

pub new_lacked : (done now b : ℕ) → b < 64 → bit_at (new_bits done now) b ≡ 1 → bit_at done b ≢ 1
new_lacked done now b lt h was = let m = bit_at_and now (bit_not w64 done) b in
    elim (cases_lt done (2 ^ 64)) [
      | inl small ↦ (let r = bit_at_not w64 done b small lt in omega arith)
      | inr large ↦ (let none : bit_not w64 done ≡ 0 = omega arith in
          let z : bit_at (bit_not w64 done) b ≡ 0 = ap (λ (x : ℕ). bit_at x b) none ∙ bit_at-zero b in omega arith)
    ]

gained_within : (d : ℕ) → d ≡ 64 → (n : ℕ) (done now : List ℕ) (q : ℕ → Bool) → ((k b : ℕ) → k < n → b < d → bit_at (new_bits (get_or done k 0) (get_or now k 0)) b ≡ 1 → q (d * k + b) ≡ true) → gained n done now ≤ count_below (d * n) q
gained_within d e zero done now q h = omega arith
gained_within d e (suc n) done now q h =
    let rest : gained n done now ≤ count_below (d * n) q = gained_within d e n done now q (λ k b lt. h k b (omega arith)) in
    let word : ℕ = new_bits (get_or done n 0) (get_or now n 0) in
    let small : word < 2 ^ d = subst (λ (x : ℕ). word < 2 ^ x) (sym e) (new_small (get_or done n 0) (get_or now n 0)) in
    let last : count_ones word ≤ count_below d (λ b. q (d * n + b)) = ones_counted d word (λ b. q (d * n + b)) small (λ b lt bit. h n b (omega arith) lt bit) in
    let both : count_below (d * n + d) q ≡ count_below (d * n) q + count_below d (λ b. q (d * n + b)) = count_add (d * n) d q in
    let whole : d * n + d ≡ d * suc n = omega arith in
    let step : gained (suc n) done now ≡ gained n done now + count_ones word = refl in
    subst (λ (x : ℕ). gained (suc n) done now ≤ count_below x q) whole (omega arith)

bit_in : (words : List ℕ) (k b : ℕ) → b < 64 → bit_at (get_or words k 0) b ≡ 1 → IsIn words (64 * k + b)
bit_in words k b lt h =
    let at : (64 * k + b) / 64 ≡ k = omega arith in
    let bit : (64 * k + b) % 64 ≡ b = omega arith in
    subst (λ (n : ℕ). bit_at (get_or words ((64 * k + b) / 64) 0) n ≡ 1) (sym bit) (subst (λ (n : ℕ). bit_at (get_or words n 0) b ≡ 1) (sym at) h)

-- the words of a row
pub word_at : (done : Rows) (row k : ℕ) → k < done.width → get_or (words_at done row) k 0 ≡ get_or done.words (row * done.width + k) 0
word_at done row k lt = get_or-take done.width (drop (row * done.width) done.words) k 0 lt ∙ get_or-drop (row * done.width) done.words k 0

-- what was done of a row, and what it gains, is done of it after
pub turn_grows : (S : System) (done after : Rows) (row : ℕ) (now : List ℕ) → Fits S done → Fits S after → ((location : ℕ) → Has (members done) row location → Has (members after) row location)
    → ((location : ℕ) → IsIn now location → Has (members after) row location) → size S (members done) row + gained (width_of S) (words_at done row) now ≤ size S (members after) row
turn_grows S done after row now fits ends kept new =
    let N : ℕ = location_count S in
    let W : ℕ = width_of S in
    let p : ℕ → Bool = members done row in
    let r : ℕ → Bool = members after row in
    let q : ℕ → Bool = λ l. r l && not (p l) in
    let bits : (k b : ℕ) → k < W → b < 64 → bit_at (new_bits (get_or (words_at done row) k 0) (get_or now k 0)) b ≡ 1 → q (64 * k + b) ≡ true = λ k b lt small bit.
    (let l : ℕ = 64 * k + b in
    let there : r l ≡ true = new l (bit_in now k b small (new_there (get_or (words_at done row) k 0) (get_or now k 0) b bit)) in
    let lacked = new_lacked (get_or (words_at done row) k 0) (get_or now k 0) b small bit in
    let within : k < done.width = subst (λ (n : ℕ). k < n) (sym fits.width) lt in
    let not_done : not (p l) ≡ true = elim (cases_Bool (p l)) [
      | inl was ↦ absurd (lacked (
          let shown_bit : bit_at (get_or done.words (row * done.width + l / 64) 0) (l % 64) ≡ 1 = bit_shown done.width done.words row l was in
          let at : l / 64 ≡ k = omega arith in
          let low : l % 64 ≡ b = omega arith in
          let here : bit_at (get_or done.words (row * done.width + k) 0) b ≡ 1 = subst (λ (n : ℕ). bit_at (get_or done.words (row * done.width + k) 0) n ≡ 1) low (subst (λ (n : ℕ). bit_at (get_or done.words (row * done.width + n) 0) (l % 64) ≡ 1) at shown_bit) in
          ap (λ (x : ℕ). bit_at x b) (word_at done row k within) ∙ here))
      | inr lacks ↦ not_from_false (p l) lacks
    ] in
    and_from (r l) (not (p l)) there not_done) in
    let all : gained W (words_at done row) now ≤ count_below (64 * W) q = gained_within 64 refl W (words_at done row) now q bits in
    let cut : count_below (64 * W) q ≤ count_below N q = count_cut (64 * W) N q (λ l t. ends.no_others row l (and_parts (r l) (not (p l)) t).0) in
    let both : count_below N p + count_below N q ≡ count_below N r = count_split N p r kept in
    omega arith

-- what words have that are those of a row
pub edge_pays : (S : System) (done : Rows) (row : ℕ) (nothing words : List ℕ) → Fits S done → ((location : ℕ) → IsIn words location → Has (members done) row location) → gained (width_of S) nothing words ≤ size S (members done) row
edge_pays S done row nothing words fits has =
    let N : ℕ = location_count S in
    let W : ℕ = width_of S in
    let p : ℕ → Bool = members done row in
    let all : gained W nothing words ≤ count_below (64 * W) p = gained_within 64 refl W nothing words p (λ k b lt small bit. has (64 * k + b) (bit_in words k b small (new_there (get_or nothing k 0) (get_or words k 0) b bit))) in
    let cut : count_below (64 * W) p ≤ count_below N p = count_cut (64 * W) N p (λ l t. fits.no_others row l t) in
    omega arith
