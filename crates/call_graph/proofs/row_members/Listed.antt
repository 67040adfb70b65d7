-- The members of a row as a list, and what the list has.
use Rattle.std.proofs.Common.{◌≡◌, ◌↔◌, ℕ, zero, suc, ◌+◌, ◌<◌, Bool, true, false, cond, List, [], ◌∷◌, Contains, refl, sym, ◌∙◌, ap, subst, inl, inr, arith}
use Rattle.std.specs.List.{filter, range_with_len}
use Rattle.std.proofs.lemmas.Bool.{cases_Bool}
use Rattle.std.proofs.lemmas.List.FromFn.{length-range_with_len, get_or-range_with_len}
use Rattle.sol_model.specs.declared.system.System.{System}
use Rattle.sol_model.specs.Families.{Family, Has}
use Rattle.sol_model.specs.Systems.{location_count}
use Rattle.call_graph.specs.row_members.Members.{members_in, IsKnown}

-- ---- filters
pub behind : (y : ℕ) (xs : List ℕ) (x : ℕ) → Contains xs x → Contains (y ∷ xs) x
behind y xs x h = (suc h.0, (let lt = h.1 in omega arith), h.2)

pub in_filter : (p : ℕ → Bool) (xs : List ℕ) (x : ℕ) → Contains xs x → p x ≡ true → Contains (filter p xs) x
in_filter p [] x (k, lt, is) holds = absurd (omega arith)
in_filter p (y ∷ xs) x (zero, lt, is) holds =
    subst (λ (b : Bool). Contains (cond b (y ∷ filter p xs) (filter p xs)) x) (sym (ap p is ∙ holds)) (0, omega arith, is)
in_filter p (y ∷ xs) x (suc k, lt, is) holds =
    let inside : Contains (filter p xs) x = in_filter p xs x (k, omega arith, is) holds in
    elim (cases_Bool (p y)) [
      | inl passes ↦ subst (λ (b : Bool). Contains (cond b (y ∷ filter p xs) (filter p xs)) x) (sym passes) (behind y (filter p xs) x inside)
      | inr fails ↦ subst (λ (b : Bool). Contains (cond b (y ∷ filter p xs) (filter p xs)) x) (sym fails) inside
    ]

from_one : (p : ℕ → Bool) (y : ℕ) (xs : List ℕ) (x : ℕ) (b : Bool) → (Contains (filter p xs) x → Contains xs x × (p x ≡ true)) → p y ≡ b → Contains (cond b (y ∷ filter p xs) (filter p xs)) x
    → Contains (y ∷ xs) x × (p x ≡ true)
from_one p y xs x true rest e (zero, lt, is) = ((0, omega arith, is), sym (ap p is) ∙ e)
from_one p y xs x true rest e (suc k, lt, is) = let r = rest (k, omega arith, is) in (behind y xs x r.0, r.1)
from_one p y xs x false rest e h = let r = rest h in (behind y xs x r.0, r.1)

pub from_filter : (p : ℕ → Bool) (xs : List ℕ) (x : ℕ) → Contains (filter p xs) x → Contains xs x × (p x ≡ true)
from_filter p [] x h = absurd (let lt = h.1 in omega arith)
from_filter p (y ∷ xs) x h = from_one p y xs x (p y) (from_filter p xs x) refl h

pub in_range : (n x : ℕ) → x < n → Contains (range_with_len 0 n) x
in_range n x lt = (x, (let l = length-range_with_len 0 n in omega arith), get_or-range_with_len 0 n x x lt ∙ (let front : 0 + x ≡ x = omega arith in front))

-- ---- members
pub members_listed : (system : System) (F : Family) (row location : ℕ) → IsKnown system F → Contains (members_in system F row) location ↔ Has F row location
members_listed system F row location known = (
  λ h. (from_filter (λ l. F row l) (range_with_len 0 (location_count system)) location h).1,
  λ has. in_filter (λ l. F row l) (range_with_len 0 (location_count system)) location (in_range (location_count system) location (known row location has)) has,
)
