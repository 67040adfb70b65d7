-- Items whose list has the top one at its end.
use Rattle.std.proofs.Common.{arith, ◌≡◌, ℕ, ◌+◌, ◌-◌, ◌<◌, ◌≤◌, List, [], ◌∷◌, ◌++◌, length, reverse, get_or, slice_set, take, drop, refl, ap, sym, ◌∙◌}
use Rattle.std.proofs.Math.Seq.{drop-append_seam}
use Rattle.std.proofs.lemmas.List.{get_or-reverse, length-reverse, length-drop, reverse-append, take-append-drop}
use Rattle.ref_cells.specs.declared.cells.Value.{Value}
use Rattle.ref_state.specs.declared.items.Item.{Item}
use Rattle.ref_state.specs.Items.{given, settled, filled, shut, opened, below_filled, below_shut, replaced, on_second}
use Rattle.ref_state.specs.Values.{no_value}
use Rattle.ref_state.proofs.Reversed.{reverse_set}

set_second : (v : List Item) (x d : Item) (change : Item → Item) → 1 < length v → x ≡ change (get_or v 1 d) → slice_set v 1 x ≡ on_second change v
set_second [] x d change less e = absurd (omega (arith, less))
set_second (t ∷ []) x d change less e = absurd (omega (arith, less))
set_second (t ∷ b ∷ r) x d change less e = ap (λ (y : Item). t ∷ y ∷ r) e

-- the item below the top one is changed
pub second_set : (xs : List Item) (at : ℕ) (x d : Item) (v : List Item) (change : Item → Item) → reverse xs ≡ v → 1 < length xs → at ≡ length xs - 1 - 1
    → x ≡ change (get_or xs at d) → reverse (slice_set xs at x) ≡ on_second change v
second_set xs at x d v change view less place made =
    ap (λ (n : ℕ). reverse (slice_set xs n x)) place
    ∙ (reverse_set xs 1 x less
    ∙ (set_second (reverse xs) x d change (omega (arith, less, length-reverse xs))
    (made ∙ ap change (ap (λ (n : ℕ). get_or xs n d) place ∙ sym (get_or-reverse xs 1 d less)))
    ∙ ap (on_second change) view))

set_top : (v : List Item) (x : Item) → 0 < length v → slice_set v 0 x ≡ x ∷ drop 1 v
set_top [] x less = absurd (omega (arith, less))
set_top (t ∷ r) x less = refl

-- another one is on top
pub top_set : (xs : List Item) (at : ℕ) (x : Item) (v : List Item) → reverse xs ≡ v → 0 < length xs → at ≡ length xs - 1 - 0 → reverse (slice_set xs at x) ≡ x ∷ drop 1 v
top_set xs at x v view less place =
    ap (λ (n : ℕ). reverse (slice_set xs n x)) place
    ∙ (reverse_set xs 0 x less
    ∙ (set_top (reverse xs) x (omega (arith, less, length-reverse xs))
    ∙ ap (λ (ys : List Item). x ∷ drop 1 ys) view))

pub opened_is : (n : ℕ) (v : List Item) → on_second (given n no_value) v ≡ opened n v
opened_is n [] = refl
opened_is n (t ∷ []) = refl
opened_is n (t ∷ b ∷ r) = refl

pub shut_is : (v : List Item) → on_second shut v ≡ below_shut v
shut_is [] = refl
shut_is (t ∷ []) = refl
shut_is (t ∷ b ∷ r) = refl

pub filled_is : (value : Value) (v : List Item) → drop 1 (on_second (filled value) v) ≡ below_filled value v
filled_is value [] = refl
filled_is value (t ∷ []) = refl
filled_is value (t ∷ b ∷ r) = refl

pub filled_short : (value : Value) (v : List Item) → length v ≤ 1 → drop 1 v ≡ below_filled value v
filled_short value [] few = refl
filled_short value (t ∷ []) few = refl
filled_short value (t ∷ b ∷ r) few = absurd (omega (arith, few))

pub settled_is : (n : ℕ) (value : Value) (v : List Item) → drop 1 (on_second (given n value) v) ≡ settled n value v
settled_is n value [] = refl
settled_is n value (t ∷ []) = refl
settled_is n value (t ∷ b ∷ r) = refl

pub settled_short : (n : ℕ) (value : Value) (v : List Item) → length v ≤ 1 → drop 1 v ≡ settled n value v
settled_short n value [] few = refl
settled_short n value (t ∷ []) few = refl
settled_short n value (t ∷ b ∷ r) few = absurd (omega (arith, few))

reverse_take : (xs : List Item) (off : ℕ) → off ≤ length xs → reverse (take (length xs - off) xs) ≡ drop off (reverse xs)
reverse_take xs off within =
    let front = take (length xs - off) xs in
    let back = drop (length xs - off) xs in
    let count : length (reverse back) ≡ off = omega (arith, within, length-reverse back, length-drop (length xs - off) xs) in
    sym (ap (λ (ys : List Item). drop off (reverse ys)) (sym (take-append-drop (length xs - off) xs))
    ∙ (ap (drop off) (reverse-append front back)
    ∙ (ap (λ (n : ℕ). drop n (reverse back ++ reverse front)) (sym count)
    ∙ drop-append_seam (reverse back) (reverse front))))

-- others in place of so many at the top
pub top_replaced : (xs ys left : List Item) (off : ℕ) (v on : List Item) → reverse xs ≡ v → reverse ys ≡ on → off ≤ length xs → left ≡ take (length xs - off) xs
    → reverse (left ++ ys) ≡ replaced off on v
top_replaced xs ys left off v on view above within made =
    reverse-append left ys
    ∙ (ap (λ (zs : List Item). zs ++ reverse left) above
    ∙ (ap (λ (zs : List Item). on ++ reverse zs) made
    ∙ (ap (λ (zs : List Item). on ++ zs) (reverse_take xs off within)
    ∙ ap (λ (zs : List Item). on ++ drop off zs) view)))
