-- What each declared name means now: a list of entries, and a map from names to their places in it.
use Rattle.std.specs.Prelude.{◌≡◌, ℕ, Bool, Option, Some, None, List, length, slice_get, slice_index_or}
use Rattle.std.specs.Prelude.{if◌then◌else◌}
use Rattle.std.specs.Global.{Vec}
use Rattle.std.specs.BTreeMap.{BTreeMap}
use Rattle.std.specs.Map.{lookup}
use Rattle.std.specs.Str.{bytes_eq}
use Rattle.c_grammar.specs.declared.current.Current.{Current}

-- the place of a name's entry, if it has one
abbrev pub place_in : BTreeMap (Vec ℕ) ℕ → List ℕ → Option ℕ
place_in places name = lookup (λ k. bytes_eq name k.items) places.entries

abbrev pub meant_at : List (Option Bool) → Option ℕ → Option Bool
meant_at meant None = None
meant_at meant (Some place) = slice_index_or meant place None

-- what a name means, by its bytes
abbrev pub known : Current → List ℕ → Option Bool
known current name = meant_at current.meant.items (place_in current.places name)

-- each entry is the one that the map has for its name, and the map has no others
pub record Indexed (current : Current) : Type 0 where
  pub count : length current.meant.items ≡ length current.spelled.items
  pub each : (place : ℕ) (s : Vec ℕ)
      → slice_get current.spelled.items place ≡ Some s
      → place_in current.places s.items ≡ Some place
  pub there : (name : List ℕ) (place : ℕ)
      → place_in current.places name ≡ Some place
      → (s : Vec ℕ) × (slice_get current.spelled.items place ≡ Some s) × (s.items ≡ name)

-- one name means something else, and every other one what it meant
abbrev pub Means : Current → List ℕ → Option Bool → Current → Type 0
Means old name meaning new = (q : List ℕ) → known new q ≡ (if bytes_eq name q then meaning else known old q)
