-- The declarations of each symbol in all scopes, kept as links.
use Rattle.std.specs.Prelude.{ℕ, ◌≡◌, ◌+◌, ◌==◌, List, filter, length, slice_get, take, Option, Some}
use Rattle.std.specs.BTreeMap.{BTreeMap}
use Rattle.c_scope.specs.declared.kinds.Declared.{Declared}
use Rattle.tree_reads.specs.leaf_maps.Numbers.{number_at}
use Rattle.name_chains.specs.declared.links.Link.{Link}
use Rattle.name_chains.specs.Links.{listed, IsLinkOf, AreBackward, HaveLeaves}

-- those of a symbol among some
abbrev pub of_symbol : ℕ → List Declared → List Declared
of_symbol symbol ds = filter (λ d. d.symbol == symbol) ds

abbrev pub last_at : BTreeMap ℕ ℕ → ℕ → Option ℕ
last_at symbols symbol = number_at symbols.entries symbol

-- the link of each place ends the list of those of its symbol up to there
pub record AreSymbols (n : ℕ) (ds : List Declared) (links : List Link) : Type 0 where
  pub count : length links ≡ length ds
  pub backward : AreBackward links
  pub leaves : HaveLeaves n links
  pub each : (k : ℕ) (d : Declared)
      → slice_get ds k ≡ Some d
      → listed links (Some k) ≡ of_symbol d.symbol (take (k + 1) ds)

-- while they are taken in, with the last link of each symbol
pub record Last (n : ℕ) (ds : List Declared) (links : List Link) (symbols : BTreeMap ℕ ℕ) : Type 0 where
  pub all : AreSymbols n ds links
  pub is : (symbol : ℕ) → IsLinkOf links (last_at symbols symbol)
  pub list : (symbol : ℕ) → listed links (last_at symbols symbol) ≡ of_symbol symbol ds
