-- Cells in order, cut at a number.
use Rattle.std.proofs.Common.{◌≡◌, ℕ, zero, suc, ◌<◌, ◌≤◌, Bool, true, false, cond, not, ltb, List, [], ◌∷◌, length, take, drop, filter, get_or, ◌∙◌, ap, inl, inr, arith, rules}
use Rattle.c_types.specs.declared.term.PathStep.{PathStep}
use Rattle.ref_cells.specs.Cells.{Entry, CellList, head_key, seen, is_below}
use Rattle.ref_cells.specs.Order.{IsBefore, IsBeforeAll, IsOrdered}

abbrev pub key_of : ℕ → Entry → ℕ
key_of d e = head_key (drop d e.0)

before_key : (p q : List PathStep) → IsBefore p q → head_key p ≤ head_key q
before_key p [] h = absurd h
before_key [] (b ∷ q) h = omega arith
before_key (a ∷ p) (b ∷ q) (inl lt) = omega arith
before_key (a ∷ p) (b ∷ q) (inr (e, rest)) = omega arith

all_key : (d : ℕ) (p : List PathStep) (cells : CellList) → IsBeforeAll p (seen d cells) → (j : ℕ) (x : Entry) → j < length cells → head_key p ≤ key_of d (get_or cells j x)
all_key d p [] h j x lt = absurd (omega arith)
all_key d p (e ∷ rest) h zero x lt = before_key p (drop d e.0) h.0
all_key d p (e ∷ rest) h (suc j) x lt = all_key d p rest h.1 j x (omega arith)

-- the numbers rise
pub keys_rise : (d : ℕ) (cells : CellList) → IsOrdered (seen d cells) → (i j : ℕ) (x : Entry) → i ≤ j → j < length cells → key_of d (get_or cells i x) ≤ key_of d (get_or cells j x)
keys_rise d [] h i j x le lt = absurd (omega arith)
keys_rise d (e ∷ rest) h zero zero x le lt = omega arith
keys_rise d (e ∷ rest) h zero (suc j) x le lt = all_key d (drop d e.0) rest h.0 j x (omega arith)
keys_rise d (e ∷ rest) h (suc i) zero x le lt = absurd (omega arith)
keys_rise d (e ∷ rest) h (suc i) (suc j) x le lt = keys_rise d rest h.1 i j x (omega arith) (omega arith)

filter_yes : {X : Type 0} (p : X → Bool) (x : X) (xs : List X) → p x ≡ true → filter p (x ∷ xs) ≡ x ∷ filter p xs
filter_yes {X} p x xs h = ap (λ (b : Bool). cond b (x ∷ filter p xs) (filter p xs)) h

filter_no : {X : Type 0} (p : X → Bool) (x : X) (xs : List X) → p x ≡ false → filter p (x ∷ xs) ≡ filter p xs
filter_no {X} p x xs h = ap (λ (b : Bool). cond b (x ∷ filter p xs) (filter p xs)) h

pub below_cut : (d key : ℕ) (cells : CellList) (r : ℕ) → r ≤ length cells → ((k : ℕ) (x : Entry) → k < r → ltb (key_of d (get_or cells k x)) key ≡ true) → ((k : ℕ) (x : Entry) → r ≤ k → k < length cells → ltb (key_of d (get_or cells k x)) key ≡ false) → filter (is_below key) (seen d cells) ≡ seen d (take r cells)
below_cut d key [] r within below above = search rules
below_cut d key (e ∷ rest) zero within below above =
    filter_no (is_below key) (drop d e.0, e.1) (seen d rest) (above 0 e (omega arith) (omega arith)) ∙ below_cut d key rest zero (omega arith) (λ k x lt. absurd (omega arith)) (λ k x le lt. above (suc k) x (omega arith) (omega arith))
below_cut d key (e ∷ rest) (suc r) within below above =
    filter_yes (is_below key) (drop d e.0, e.1) (seen d rest) (below 0 e (omega arith)) ∙ ap (λ (xs : CellList). (drop d e.0, e.1) ∷ xs) (below_cut d key rest r (omega arith) (λ k x lt. below (suc k) x (omega arith)) (λ k x le lt. above (suc k) x (omega arith) (omega arith)))

pub rest_cut : (d key : ℕ) (cells : CellList) (r : ℕ) → r ≤ length cells → ((k : ℕ) (x : Entry) → k < r → ltb (key_of d (get_or cells k x)) key ≡ true) → ((k : ℕ) (x : Entry) → r ≤ k → k < length cells → ltb (key_of d (get_or cells k x)) key ≡ false) → filter (λ e. not (is_below key e)) (seen d cells) ≡ seen d (drop r cells)
rest_cut d key [] r within below above = search rules
rest_cut d key (e ∷ rest) zero within below above =
    filter_yes (λ (e : Entry). not (is_below key e)) (drop d e.0, e.1) (seen d rest) (ap not (above 0 e (omega arith) (omega arith))) ∙ ap (λ (xs : CellList). (drop d e.0, e.1) ∷ xs) (rest_cut d key rest zero (omega arith) (λ k x lt. absurd (omega arith)) (λ k x le lt. above (suc k) x (omega arith) (omega arith)))
rest_cut d key (e ∷ rest) (suc r) within below above =
    filter_no (λ (e : Entry). not (is_below key e)) (drop d e.0, e.1) (seen d rest) (ap not (below 0 e (omega arith))) ∙ rest_cut d key rest r (omega arith) (λ k x lt. below (suc k) x (omega arith)) (λ k x le lt. above (suc k) x (omega arith) (omega arith))
