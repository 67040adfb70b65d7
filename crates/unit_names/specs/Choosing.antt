-- The declaration at which an internal name has its place.
use Rattle.std.specs.Prelude.{ℕ, Bool, ◌||◌, not, List, [], ◌∷◌, is_some, if◌then◌else◌}
use Rattle.c_grammar.specs.Words.{word_extern}
use Rattle.c_senses.specs.Tree.{Source}
use Rattle.c_senses.specs.Sense.{Sense}
use Rattle.c_senses.specs.Entities.{is_defined, initialiser_for, declares_function, has_storage}

-- the first of some leaves that passes a test, or else another one
abbrev pub first_such : (ℕ → Bool) → ℕ → List ℕ → ℕ
first_such test other [] = other
first_such test other (leaf ∷ rest) = if test leaf then leaf else first_such test other rest

-- it has a body or an initialiser
abbrev pub is_definition : Source → (ℕ → Sense) → ℕ → Bool
is_definition s sense leaf = is_defined s sense leaf || is_some (initialiser_for s sense leaf)

-- it is a function, or says `extern`
abbrev pub only_declares : Source → (ℕ → Sense) → ℕ → Bool
only_declares s sense leaf = declares_function s sense leaf || has_storage s sense word_extern leaf

abbrev pub is_tentative : Source → (ℕ → Sense) → ℕ → Bool
is_tentative s sense leaf = not (only_declares s sense leaf)

-- the first that defines the name, else the first tentative one, else another
abbrev pub chosen : Source → (ℕ → Sense) → ℕ → List ℕ → ℕ
chosen s sense leaf list = first_such (is_definition s sense) (first_such (is_tentative s sense) leaf list) list
