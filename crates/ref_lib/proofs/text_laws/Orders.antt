-- The order of two texts, character by character.
use Rattle.std.proofs.Common.{◌≡◌, ℕ, zero, suc, ◌+◌, ◌<◌, ◌^◌, inl, inr, Bool, true, false, cond, ℤ, pos, negsuc, Some, None, Result, Ok, Err, refl, sym, ap, ◌∙◌, arith}
use Rattle.std.specs.Prelude.{int_lt}
use Rattle.std.specs.Ordering.{int_eq}
use Rattle.std.proofs.lemmas.Bool.{false≢true}
use Rattle.std.proofs.lemmas.Bool.Decides.{Decides-int_eq}
use Rattle.ref_cells.specs.declared.cells.Reason.{Reason}
use Rattle.ref_cells.specs.declared.cells.Reason.TheVariants.{OutOfRange}
use Rattle.ref_cells.specs.Numbers.{low_of}
use Rattle.ref_texts.specs.Reading.{char_at, order_of, both, compare_on, compared}
use Rattle.ref_lib.specs.text_laws.Told.{Characters, IsShared, Says, IsOrder}
use Rattle.ref_lib.specs.text_laws.Laws.{OrderRead}
use Rattle.ref_lib.proofs.text_laws.Steps.{not_ok, ok_same}
use Rattle.ref_lib.proofs.text_laws.Texts.{From, at_first, at_next, from_start, zero_is, zero_not}

-- the order from the k-th characters on, of so many at most
abbrev rest_of : Characters → Characters → ℕ → ℕ → Result ℤ Reason
rest_of left right n k = compared (λ (j : ℕ). both (left j) (right j)) (Err OutOfRange) n k

rest_none : (left right : Characters) (k : ℕ) → rest_of left right zero k ≡ Err OutOfRange
unfolding compared
rest_none left right k = refl

rest_more : (left right : Characters) (n k : ℕ) → rest_of left right (suc n) k ≡ compare_on (both (left k) (right k)) (rest_of left right n (k + 1))
unfolding compared
rest_more left right n k = refl

says_less : (x y n : ℤ) (b : Bool) → int_lt (low_of 128 x) (low_of 128 y) ≡ b → (x ≡ y → ⊥) → cond b (negsuc 0) (pos 1) ≡ n → Says x y n
says_less x y n true is ne e = inr (inl (ne, is, sym e))
says_less x y n false is ne e = inr (inr (ne, is, sym e))

order_here : (left right : Characters) (k : ℕ) (x y n : ℤ) → left k ≡ Ok x → right k ≡ Ok y → Says x y n → IsOrder (From left k) (From right k) n
order_here left right k x y n q r says = record {
  first = 0;
  shared = λ j lt. absurd (omega arith);
  x = x;
  y = y;
  left_is = at_first left k ∙ q;
  right_is = at_first right k ∙ r;
  says = says;
}

shared_more : (left right : Characters) (k m : ℕ) (x : ℤ) → left k ≡ Ok x → right k ≡ Ok x → (x ≡ pos 0 → ⊥) → ((j : ℕ) → j < m → IsShared (From left (k + 1)) (From right (k + 1)) j) → (j : ℕ) → j < suc m → IsShared (From left k) (From right k) j
shared_more left right k m x q r ne go zero lt = record { character = x; left_is = at_first left k ∙ q; right_is = at_first right k ∙ r; other = ne }
shared_more left right k m x q r ne go (suc j) lt =
    let s = go j (omega arith) in
    record { character = s.character; left_is = at_next left k j ∙ s.left_is; right_is = at_next right k j ∙ s.right_is; other = s.other }

order_later : (left right : Characters) (k : ℕ) (x n : ℤ) → left k ≡ Ok x → right k ≡ Ok x → (x ≡ pos 0 → ⊥) → IsOrder (From left (k + 1)) (From right (k + 1)) n → IsOrder (From left k) (From right k) n
order_later left right k x n q r ne more = record {
  first = suc more.first;
  shared = shared_more left right k more.first x q r ne more.shared;
  x = more.x;
  y = more.y;
  left_is = at_next left k more.first ∙ more.left_is;
  right_is = at_next right k more.first ∙ more.right_is;
  says = more.says;
}

same_is : (x y : ℤ) → int_eq x y ≡ true → x ≡ y
same_is x y is = (Decides-int_eq x y).0 is

same_not : (x y : ℤ) → int_eq x y ≡ false → x ≡ y → ⊥
same_not x y is e = false≢true (sym is ∙ (Decides-int_eq x y).1 e)

turn_order : (left right : Characters) (k : ℕ) (x y n : ℤ) (rest : Result ℤ Reason) (b d : Bool) → int_eq x y ≡ b → int_eq x (pos 0) ≡ d → left k ≡ Ok x → right k ≡ Ok y → compare_on (Ok (cond b (cond d (Some (pos 0)) None) (Some (order_of x y)))) rest ≡ Ok n → (rest ≡ Ok n → IsOrder (From left (k + 1)) (From right (k + 1)) n) → IsOrder (From left k) (From right k) n
turn_order left right k x y n rest true true same none q r e go =
    order_here left right k x y n q r (inl (zero_is x none, sym (same_is x y same) ∙ zero_is x none, sym (ok_same (pos 0) n e)))
turn_order left right k x y n rest true false same none q r e go =
    order_later left right k x n q (r ∙ ap (λ (z : ℤ). let o : Result ℤ Reason = Ok z in o) (sym (same_is x y same))) (zero_not x none) (go e)
turn_order left right k x y n rest false d same none q r e go =
    order_here left right k x y n q r (says_less x y n (int_lt (low_of 128 x) (low_of 128 y)) refl (same_not x y same) (ok_same (order_of x y) n e))

step_order : (left right : Characters) (k : ℕ) (n : ℤ) (rest r s : Result ℤ Reason) → left k ≡ r → right k ≡ s → compare_on (both r s) rest ≡ Ok n → (rest ≡ Ok n → IsOrder (From left (k + 1)) (From right (k + 1)) n) → IsOrder (From left k) (From right k) n
step_order left right k n rest (Err reason) s q p e go = absurd (not_ok reason n e)
step_order left right k n rest (Ok x) (Err reason) q p e go = absurd (not_ok reason n e)
step_order left right k n rest (Ok x) (Ok y) q p e go = turn_order left right k x y n rest (int_eq x y) (int_eq x (pos 0)) refl refl q p e go

order_from : (left right : Characters) (m k : ℕ) (n : ℤ) → rest_of left right m k ≡ Ok n → IsOrder (From left k) (From right k) n
order_from left right zero k n e = absurd (not_ok OutOfRange n (sym (rest_none left right k) ∙ e))
order_from left right (suc m) k n e =
    step_order left right k n (rest_of left right m (k + 1)) (left k) (right k) refl refl (sym (rest_more left right m k) ∙ e) (λ h. order_from left right m (k + 1) n h)

pub order_read : OrderRead
order_read table memory a b n e =
    let left = char_at table memory a in
    let right = char_at table memory b in
    let is = order_from left right (2 ^ 64) 0 n e in
    record {
      first = is.first;
      shared = λ j lt. let s = is.shared j lt in
          record { character = s.character; left_is = sym (from_start left j) ∙ s.left_is; right_is = sym (from_start right j) ∙ s.right_is; other = s.other };
      x = is.x;
      y = is.y;
      left_is = sym (from_start left is.first) ∙ is.left_is;
      right_is = sym (from_start right is.first) ∙ is.right_is;
      says = is.says;
    }
