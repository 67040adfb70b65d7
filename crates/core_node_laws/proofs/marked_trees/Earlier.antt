-- The senses of the first nodes.
use Rattle.std.proofs.Common.{arith, ◌≡◌, ◌<◌, ◌≤◌, ℕ, zero, suc, List, [], ◌∷◌, take, get_or, refl, ◌⊎◌, inl, inr}
use Rattle.core_nodes.specs.passed.c_senses.Sense.{Sense, Nothing, sense_in}

beyond : (xs : List Sense) (i c : ℕ) → i ≤ c → get_or (take i xs) c Nothing ≡ Nothing
beyond xs zero c h = refl
beyond [] (suc i) c h = refl
beyond (x ∷ xs) (suc i) zero h = absurd (omega (arith, h))
beyond (x ∷ xs) (suc i) (suc c) h = beyond xs i c (omega (arith, h))

within : (xs : List Sense) (i c : ℕ) → c < i → get_or (take i xs) c Nothing ≡ get_or xs c Nothing
within xs zero c h = absurd (omega (arith, h))
within [] (suc i) c h = refl
within (x ∷ xs) (suc i) zero h = refl
within (x ∷ xs) (suc i) (suc c) h = within xs i c (omega (arith, h))

split : (c i : ℕ) → (c < i) ⊎ (i ≤ c)
split c zero = inr (omega arith)
split zero (suc i) = inl (omega arith)
split (suc c) (suc i) = by (split c i)
  where
    by : (c < i) ⊎ (i ≤ c) → (suc c < suc i) ⊎ (suc i ≤ suc c)
    by (inl h) = inl (omega (arith, h))
    by (inr h) = inr (omega (arith, h))

-- a sense among the first ones is nothing, or what it is among all
pub earlier : (senses : List Sense) (i c : ℕ) → (sense_in (take i senses) c ≡ sense_in senses c) ⊎ (sense_in (take i senses) c ≡ Nothing)
earlier senses i c = by (split c i)
  where
    by : (c < i) ⊎ (i ≤ c) → (sense_in (take i senses) c ≡ sense_in senses c) ⊎ (sense_in (take i senses) c ≡ Nothing)
    by (inl h) = inl (within senses i c h)
    by (inr h) = inr (beyond senses i c h)
