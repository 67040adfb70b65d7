-- The copies between locations and their representatives.
use Rattle.std.proofs.Common.{◌≡◌, ◌⊎◌, ℕ, zero, suc, ◌<◌, Bool, true, false, cond, eqb, List, [], ◌∷◌, get_or, Contains, sym, inl, inr, arith}
use Rattle.std.proofs.lemmas.List.Elements.{Contains-append_cases}
use Rattle.sol_model.specs.declared.system.Constraint.{Constraint}
use Rattle.sol_model.specs.declared.system.Constraint.TheVariants.{Copy}
use Rattle.row_share.specs.share_laws.Renumbering.{twins_of, twins}
use Rattle.row_share.proofs.share_laws.Members.{only_one}

-- one of the copies between a location and its representative
abbrev pub IsTwin : List ℕ → ℕ → Constraint → Type 0
IsTwin of count constraint = (l : ℕ) × (l < count) × ((constraint ≡ Copy l (get_or of l 0)) ⊎ (constraint ≡ Copy (get_or of l 0) l))

twin_of : (l r : ℕ) (b : Bool) (constraint : Constraint) → Contains (cond b [] (Copy l r ∷ Copy r l ∷ [])) constraint → (constraint ≡ Copy l r) ⊎ (constraint ≡ Copy r l)
twin_of l r true constraint h = absurd (let lt = h.1 in omega arith)
twin_of l r false constraint (zero, lt, is) = inl (sym is)
twin_of l r false constraint (suc k, lt, is) = inr (only_one (Copy r l) constraint (k, omega arith, is))

pub twin_cases : (of : List ℕ) (count : ℕ) (constraint : Constraint) → Contains (twins of count) constraint → IsTwin of count constraint
twin_cases of zero constraint h = absurd (let lt = h.1 in omega arith)
twin_cases of (suc n) constraint h = elim (Contains-append_cases (twins of n) (twins_of n (get_or of n 0)) constraint h) [
  | inl older ↦ (let t = twin_cases of n constraint older in (t.0, (let lt = t.1 in omega arith), t.2))
  | inr here ↦ (n, omega arith, twin_of n (get_or of n 0) (eqb (get_or of n 0) n) constraint here)
]
