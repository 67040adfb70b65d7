-- Keys that are kept by nodes.
use Rattle.std.specs.Prelude.{ℕ, ◌≡◌, ◌<◌, ◌≤◌, true, List, Option, None, length}
use Rattle.std.specs.Ordering.{nat_cmp, is_eq}
use Rattle.std.specs.Map.{lookup}
use Rattle.c_senses.specs.Tree.{Source}
use Rattle.c_senses.specs.Keys.{key_of}
use Rattle.c_senses.specs.Sense.{Sense}
use Rattle.unit_keys.specs.Specifiers.{is_specifier}

-- the key that is kept for a node
abbrev pub key_at : List (ℕ × List ℕ) → ℕ → Option (List ℕ)
key_at entries i = lookup (λ k. is_eq (nat_cmp i k)) entries

-- for each specifier from a node on its key
pub record AreKeys (s : Source) (sense : ℕ → Sense) (keys : List (ℕ × List ℕ)) (from : ℕ) : Type 0 where
  pub each : (i : ℕ) → from ≤ i → i < length s.nodes → is_specifier s i ≡ true → key_at keys i ≡ key_of s sense i
  pub fresh : (i : ℕ) → i < from → key_at keys i ≡ None
