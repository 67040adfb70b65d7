-- What stands behind a number in an ascending list.
use Rattle.std.proofs.Common.{arith, ◌≡◌, ◌∙◌, ℕ, zero, suc, ◌-◌, ◌<◌, ◌≤◌, ◌==◌, Bool, true, false, cond, List, [], ◌∷◌, length, drop, refl, ap}
use Rattle.std.specs.Prelude.{slice_index}
use Rattle.std.proofs.lemmas.Bool.Decides.{nat_tests}
use Rattle.core_nodes.specs.passed.c_senses.Entities.{behind}
use Rattle.tree_reads.specs.Order.{ascends}
use Rattle.tree_reads.proofs.Ascending.{first_above, tail_ascends}

is_same : (x y : ℕ) → x ≡ y → (x == y) ≡ true
is_same x y h = grind (arith, nat_tests, h)

not_same : (x y : ℕ) → x < y → (x == y) ≡ false
not_same x y h = grind (arith, nat_tests, h)

not_same_above : (x y : ℕ) → y < x → (x == y) ≡ false
not_same_above x y h = grind (arith, nat_tests, h)

pub behind_at : (node : ℕ) (list : List ℕ) (k : ℕ) → ascends list ≡ true → k < length list → slice_index list k ≡ node → behind node list ≡ drop (suc k) list
behind_at node [] k h lt e = absurd (omega arith)
behind_at node (c ∷ rest) zero h lt e = ap (λ (b : Bool). cond b rest (behind node rest)) (is_same c node e)
behind_at node (c ∷ rest) (suc k) h lt e =
    let less : c < node = rw e at (first_above c rest k h (omega (arith, lt))) in
    ap (λ (b : Bool). cond b rest (behind node rest)) (not_same c node less)
    ∙ behind_at node rest k (tail_ascends c rest h) (omega (arith, lt)) e

none_above : (node : ℕ) (list : List ℕ) → ascends list ≡ true → (0 < length list → node < slice_index list 0) → behind node list ≡ []
none_above node [] h low = refl
none_above node (c ∷ rest) h low =
    let first : node < c = low (omega arith) in
    ap (λ (b : Bool). cond b rest (behind node rest)) (not_same_above c node first)
    ∙ none_above node rest (tail_ascends c rest h) (λ more. let less = first_above c rest zero h more in omega (arith, first, less))

last_of : (c node : ℕ) (rest : List ℕ) (k : ℕ) → slice_index (c ∷ rest) k < node → 0 < k → slice_index rest (k - 1) < node
last_of c node rest zero last pos = absurd (omega arith)
last_of c node rest (suc k) last pos =
    let e : suc k - 1 ≡ k = omega arith in
    rw e last

pub behind_none : (node : ℕ) (list : List ℕ) (k : ℕ) → ascends list ≡ true → k ≤ length list → (0 < k → slice_index list (k - 1) < node) → (k < length list → node < slice_index list k) → behind node list ≡ []
behind_none node list zero h le low high = none_above node list h high
behind_none node [] (suc k) h le low high = refl
behind_none node (c ∷ rest) (suc k) h le low high =
    let e : suc k - 1 ≡ k = omega arith in
    let last : slice_index (c ∷ rest) k < node = rw e at (low (omega arith)) in
    let less : c < node = before c node rest k h (omega (arith, le)) last in
    ap (λ (b : Bool). cond b rest (behind node rest)) (not_same c node less)
    ∙ behind_none node rest k (tail_ascends c rest h) (omega (arith, le)) (last_of c node rest k last) (λ lt. high (omega (arith, lt)))
  where
    before : (c node : ℕ) (rest : List ℕ) (k : ℕ) → ascends (c ∷ rest) ≡ true → k ≤ length rest → slice_index (c ∷ rest) k < node → c < node
    before c node rest zero h le last = last
    before c node rest (suc k) h le last = let less = first_above c rest k h (omega (arith, le)) in omega (arith, less, last)

pub behind_nowhere : (node : ℕ) (list : List ℕ) (k : ℕ) → ascends list ≡ true → k ≤ length list → (0 < k → slice_index list (k - 1) < node) → (k < length list → node ≤ slice_index list k) → (k < length list → slice_index list k ≡ node → ⊥) → behind node list ≡ []
behind_nowhere node list k h le low high other = behind_none node list k h le low (λ lt. let ge = high lt in let not = other lt in grind (arith, ge, not))
