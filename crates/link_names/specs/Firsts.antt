-- The first declaration of each name.
use Rattle.std.specs.Prelude.{◌≡◌, ℕ, Bool, false, Option, Some, None, List, length, slice_get, slice_index}
use Rattle.std.specs.Prelude.{if◌then◌else◌}
use Rattle.std.specs.List.{position_from, list_any, slice_index_or}
use Rattle.std.specs.Str.{bytes_eq}
use Rattle.c_types.specs.Index.{number_at}
use Rattle.core_tree.specs.declared.node.Unit.{Unit}
use Rattle.link_names.specs.declared.declared.Declared.{Declared}
use Rattle.link_names.specs.Externals.{is_named, name_at, item_of}
use Rattle.link_names.specs.Together.{of_name}

-- the position of the first declaration of a name, if there is one
abbrev pub first_of : List Unit → List Declared → List ℕ → Option ℕ
first_of units ds name = position_from (is_named units name) 0 ds

-- for each declaration, the position of the first one of its name
pub record AreFirsts (units : List Unit) (ds : List Declared) (firsts : List ℕ) : Type 0 where
  pub all : length firsts ≡ length ds
  pub each : (k : ℕ) (d : Declared) (name : List ℕ)
      → slice_get ds k ≡ Some d
      → name_at units (item_of d) ≡ Some name
      → first_of units ds name ≡ Some (slice_index firsts k)

-- the position that is kept for a name
abbrev pub known : List (List ℕ × ℕ) → List ℕ → Option ℕ
known firsts name = number_at firsts name

abbrev pub first_or : Option ℕ → ℕ → ℕ
first_or None here = here
first_or (Some first) here = first

-- what is known with one name more, which counts where it hasn't stood before
abbrev pub known_after : (List ℕ → Option ℕ) → List ℕ → ℕ → List ℕ → Option ℕ
known_after before name here other =
    if bytes_eq name other then Some (first_or (before name) here) else before other

-- a mark for each name, at its first declaration: whether one of those that were seen passes a test
pub record AreMarks (units : List Unit) (ds : List Declared) (test : Declared → Bool) (seen : List Declared)
    (marks : List Bool) : Type 0 where
  pub all : length marks ≡ length ds
  pub each : (name : List ℕ) (first : ℕ)
      → first_of units ds name ≡ Some first
      → slice_index_or marks first false ≡ list_any test (of_name units name seen)
