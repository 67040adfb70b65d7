-- The declarations of each symbol among all declarations of ordinary names.
use Rattle.std.specs.Prelude.{ℕ, ◌≡◌, ◌==◌, ◌&&◌, List, length, filter, slice_get, Option, option_map, unwrap_or}
use Rattle.std.specs.BTreeMap.{BTreeMap}
use Rattle.std.specs.Map.{lookup}
use Rattle.c_scope.specs.declared.kinds.Declared.{Declared}

-- those of a symbol, in order
abbrev pub of_symbol : ℕ → List Declared → List Declared
of_symbol symbol ds = filter (λ d. d.symbol == symbol) ds

abbrev pub leaf_of : Declared → ℕ
leaf_of d = d.node

-- what the maps have for a symbol, and for one of its declarations
abbrev pub kept_at : BTreeMap ℕ ℕ → ℕ → Option ℕ
kept_at counts symbol = lookup (λ k. symbol == k) counts.entries

abbrev pub count_at : BTreeMap ℕ ℕ → ℕ → ℕ
count_at counts symbol = unwrap_or (kept_at counts symbol) 0

abbrev pub leaf_at : BTreeMap (ℕ × ℕ) ℕ → ℕ → ℕ → Option ℕ
leaf_at leaves symbol k = lookup (λ key. symbol == key.0 && k == key.1) leaves.entries

-- the maps have the declarations
pub record Say (ds : List Declared) (counts : BTreeMap ℕ ℕ) (leaves : BTreeMap (ℕ × ℕ) ℕ) : Type 0 where
  pub counted : (symbol : ℕ) → count_at counts symbol ≡ length (of_symbol symbol ds)
  pub each : (symbol k : ℕ) → leaf_at leaves symbol k ≡ option_map leaf_of (slice_get (of_symbol symbol ds) k)
