-- Members that are counted location by location.
use Rattle.std.proofs.Common.{◌≡◌, ℕ, ◌+◌, ◌≤◌, Bool, true, false, cond, List, [], ◌∷◌, length, refl, sym, ◌∙◌, ap, arith}
use Rattle.std.specs.Prelude.{if◌then◌else◌}
use Rattle.std.specs.List.{filter, range_with_len, sum_by}
use Rattle.std.proofs.lemmas.List.Sums.{sum_by-append, sum_by-cons, length-filter, count_by-le-length}
use Rattle.std.proofs.lemmas.List.FromFn.{length-range_with_len}
use Rattle.call_graph.proofs.row_members.Ranges.{filter_range_more}
use Rattle.call_graph.specs.row_members.Members.{members_in}
use Rattle.sol_model.specs.declared.system.System.{System}
use Rattle.sol_model.specs.Families.{Family}
use Rattle.sol_model.specs.Systems.{location_count}

-- a row has no more members than there are locations
pub few_members : (system : System) (F : Family) (row : ℕ) → length (members_in system F row) ≤ location_count system
few_members system F row =
    let kept = length-filter (λ location. F row location) (range_with_len 0 (location_count system)) in
    let few = count_by-le-length (λ location. F row location) (range_with_len 0 (location_count system)) in
    let size = length-range_with_len 0 (location_count system) in
    omega arith

-- a number where a test holds, and else none
pub chosen_yes : (b : Bool) (n m : ℕ) → b ≡ true → n ≡ m → n ≡ (if b then m else 0)
chosen_yes b n m holds is = is ∙ ap (λ (t : Bool). if t then m else 0) (sym holds)

pub chosen_no : (b : Bool) (m : ℕ) → b ≡ false → 0 ≡ (if b then m else 0)
chosen_no b m fails = ap (λ (t : Bool). if t then m else 0) (sym fails)

one : (f : ℕ → ℕ) (n : ℕ) (b : Bool) → sum_by f (cond b (n ∷ []) []) ≡ (if b then f n else 0)
one f n true =
    let cons : sum_by f (n ∷ []) ≡ f n + sum_by f [] = sum_by-cons f n [] in
    let none : sum_by f [] ≡ 0 = refl in
    omega arith
one f n false = refl

-- one location more
pub counted_more : (f : ℕ → ℕ) (p : ℕ → Bool) (n before after : ℕ) → before ≡ sum_by f (filter p (range_with_len 0 n)) → after ≡ before + (if p n then f n else 0)
    → after ≡ sum_by f (filter p (range_with_len 0 (n + 1)))
counted_more f p n before after e more =
    let kept : List ℕ = filter p (range_with_len 0 n) in
    more ∙ ap (λ (k : ℕ). k + (if p n then f n else 0)) e
    ∙ ap (λ (k : ℕ). sum_by f kept + k) (sym (one f n (p n)))
    ∙ sym (sum_by-append f kept (cond (p n) (n ∷ []) []))
    ∙ ap (sum_by f) (sym (filter_range_more p 0 n n (omega arith)))
