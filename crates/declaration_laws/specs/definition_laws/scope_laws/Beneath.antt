-- What stands below what.
use Rattle.std.specs.Prelude.{ℕ}

-- a node is a part of the other one, or of one that stands below it
pub data Beneath (Part : ℕ → ℕ → Type 0) (p : ℕ) : ℕ → Type 0 where
  part : {c : ℕ} → Part p c → Beneath Part p c
  deeper : {i c : ℕ} → Beneath Part p i → Part i c → Beneath Part p c
