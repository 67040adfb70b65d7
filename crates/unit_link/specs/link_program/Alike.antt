-- Things that are one where they have one label.
use Rattle.std.specs.Prelude.{ℕ, ◌≡◌, ◌<◌, ◌≤◌, ◌⊎◌, List, Option, Some, None, length, slice_get, slice_index}
use Rattle.link_names.specs.Firsts.{first_or, known_after}

-- two things with the same label
pub record ShareLabel (labels : List (Option (List ℕ))) (i j : ℕ) : Type 0 where
  pub label : List ℕ
  pub first : slice_get labels i ≡ Some (Some label)
  pub second : slice_get labels j ≡ Some (Some label)

-- the same thing, or one label
abbrev pub Alike : List (Option (List ℕ)) → ℕ → ℕ → Type 0
Alike labels i j = (i ≡ j) ⊎ ShareLabel labels i j

-- the leader of a thing is the first one that is alike
pub record IsLeader (labels : List (Option (List ℕ))) (k leader : ℕ) : Type 0 where
  pub alike : Alike labels k leader
  pub first : (j : ℕ) → Alike labels j k → leader ≤ j

-- the leader of each thing
pub record AreAlike (labels : List (Option (List ℕ))) (leaders : List ℕ) : Type 0 where
  pub all : length leaders ≡ length labels
  pub each : (k : ℕ) → k < length labels → IsLeader labels k (slice_index leaders k)

-- the first of a label among the first so many things
pub record IsFirstLabel (labels : List (Option (List ℕ))) (upto : ℕ) (label : List ℕ) (first : ℕ) : Type 0 where
  pub within : first < upto
  pub labelled : slice_get labels first ≡ Some (Some label)
  pub least : (j : ℕ) → slice_get labels j ≡ Some (Some label) → first ≤ j

-- what is known of the labels of the first so many things
pub record KnowsLabels (labels : List (Option (List ℕ))) (upto : ℕ) (known : List ℕ → Option ℕ) : Type 0 where
  pub found : (label : List ℕ) (first : ℕ) → known label ≡ Some first → IsFirstLabel labels upto label first
  pub none : (label : List ℕ) (j : ℕ) → known label ≡ None → j < upto → slice_get labels j ≡ Some (Some label) → ⊥

-- the first thing with that label, by what is known; it is this one where there is none before
abbrev pub first_labelled : (List ℕ → Option ℕ) → Option (List ℕ) → ℕ → ℕ
first_labelled known None here = here
first_labelled known (Some label) here = first_or (known label) here

-- what is known with one thing more
abbrev pub known_with : (List ℕ → Option ℕ) → Option (List ℕ) → ℕ → List ℕ → Option ℕ
known_with known None here other = known other
known_with known (Some label) here other = known_after known label here other
