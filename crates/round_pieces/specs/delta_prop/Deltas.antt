-- What a row has newly, and where it has gone.
use Rattle.std.specs.Prelude.{◌≡◌, ◌⊎◌, ℕ, zero, suc, ◌+◌, ◌*◌, ◌<◌, ◌≤◌, List, length, slice_index}
use Rattle.std.specs.Prelude.{Contains, bit_and, count_ones}
use Rattle.std.specs.Int.{bit_at, bit_not, w64}
use Rattle.sol_model.specs.declared.system.System.{System}
use Rattle.sol_model.specs.Families.{Family}
use Rattle.sol_model.specs.Solutions.{IsEdge, IsBelow}
use Rattle.sol_model.specs.Systems.{IsRow}
use Rattle.sol_model.specs.Words.{Within}
use Rattle.set_rows.specs.declared.view.View.{View}
use Rattle.set_rows.specs.Views.{known}

-- the locations of one word that are not in another
abbrev pub new_bits : ℕ → ℕ → ℕ
new_bits done now = bit_and now (bit_not w64 done)

-- how many locations the first n words have now that weren't done
abbrev pub gained : ℕ → List ℕ → List ℕ → ℕ
gained zero done now = 0
gained (suc n) done now = gained n done now + count_ones (new_bits (slice_index done n) (slice_index now n))

-- the words that have something new: each with its number, and what is new in it
pub record AreNews (width : ℕ) (done now : List ℕ) (news : List (ℕ × ℕ)) : Type 0 where
  pub there : (k new : ℕ) → Contains news (k, new) → (k < width) × Within new (slice_index now k)
  pub whole : (k b : ℕ)
      → k < width
      → bit_at (slice_index now k) b ≡ 1
      → (bit_at (slice_index done k) b ≡ 1) ⊎ ((new : ℕ) × Contains news (k, new) × (bit_at new b ≡ 1))
  pub few : length news ≤ gained width done now

-- the words are inside those that were seen of a row
abbrev pub IsSeenOf : ℕ → List ℕ → ℕ → List ℕ → Type 0
IsSeenOf width seen row words =
    (k : ℕ) → k < width → Within (slice_index words k) (slice_index seen (row * width + k))

-- no more was seen of a row than these words
abbrev pub IsAllOf : ℕ → List ℕ → ℕ → List ℕ → Type 0
IsAllOf width seen row words =
    (k : ℕ) → k < width → Within (slice_index seen (row * width + k)) (slice_index words k)

-- but for those from one number on and below another, the words have no more than those that were done
abbrev pub IsDoneBeside : ℕ → ℕ → ℕ → List ℕ → List ℕ → Type 0
IsDoneBeside width first end done now =
    (k : ℕ) → k < width → (k < first) ⊎ (end ≤ k) → Within (slice_index now k) (slice_index done k)

-- some rule demands each edge of the book
pub record AllDemanded (S : System) (F : Family) (book : List (ℕ × ℕ)) : Type 0 where
  pub edges : (a b : ℕ) → Contains book (a, b) → IsEdge S F a b
  pub rows : (a b : ℕ) → Contains book (a, b) → IsRow S a × IsRow S b

-- all that a view has seen is in each closed family
abbrev pub IsSound : View → Type 0
IsSound v = IsBelow v.system (known v)
