-- Of two nodes above a third one, one stands below the other.
use Rattle.std.proofs.Common.{◌≡◌, ℕ, sym, subst, ◌⊎◌, inl, inr}
use Rattle.declaration_laws.specs.definition_laws.scope_laws.Beneath.{Beneath, part, deeper}

module _ (P : ℕ → ℕ → Type 0) where
  pub further : (x y z : ℕ) → Beneath P x y → Beneath P y z → Beneath P x z
  further x y z a (part r) = deeper a r
  further x y z a (deeper {i = i} b r) = deeper (further x y i a b) r

  abbrev pub Order : ℕ → ℕ → Type 0
  Order x y = (x ≡ y) ⊎ (Beneath P x y ⊎ Beneath P y x)

  module _ (single : (i j c : ℕ) → P i c → P j c → i ≡ j) where
    pub compare : (x y n : ℕ) → Beneath P x n → Beneath P y n → Order x y
    compare x y n (part r) (part q) = inl (single x y n r q)
    compare x y n (part r) (deeper {i = j} b q) = inr (inr (subst (λ (k : ℕ). Beneath P y k) (sym (single x j n r q)) b))
    compare x y n (deeper {i = i} a r) (part q) = inr (inl (subst (λ (k : ℕ). Beneath P x k) (single i y n r q) a))
    compare x y n (deeper {i = i} a r) (deeper {i = j} b q) = compare x y i a (subst (λ (k : ℕ). Beneath P y k) (sym (single i j n r q)) b)

-- by other parts
pub beneath_by : (P Q : ℕ → ℕ → Type 0) → ((i c : ℕ) → P i c → Q i c) → (p c : ℕ) → Beneath P p c → Beneath Q p c
beneath_by P Q h p c (part r) = part (h p c r)
beneath_by P Q h p c (deeper {i = i} b r) = deeper (beneath_by P Q h p i b) (h i c r)
