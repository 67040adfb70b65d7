-- What sharing keeps.
use Rattle.std.specs.Prelude.{◌≡◌, ◌↔◌, ℕ, List}
use Rattle.sol_model.specs.declared.system.System.{System}
use Rattle.sol_model.specs.Families.{Family}
use Rattle.sol_model.specs.Solutions.{IsLeast}
use Rattle.sol_model.specs.Systems.{IsValid, IsRow}
use Rattle.sol_model.specs.Targets.{IsTargetOf, IsGraphEdge}
use Rattle.row_share.specs.share_laws.Classes.{AreTogether, AreClasses}
use Rattle.row_share.specs.share_laws.Renumbering.{IsReduced, new_row}

-- the rows have the same locations in a family
abbrev pub HaveEqualSets : Family → ℕ → ℕ → Type 0
HaveEqualSets F a b = (location : ℕ) → F a location ≡ F b location

-- rows of one class have equal sets in the least solution of a valid system
abbrev pub ClassesHaveEqualSets : Type 0
ClassesHaveEqualSets =
    (S : System) (F : Family) (a b : ℕ) → IsValid S → IsLeast S F → AreTogether S a b → HaveEqualSets F a b

-- the least solutions of two systems agree: each row of the first has the set of its new row in the second
abbrev pub AgreeThrough : System → List ℕ → System → Type 0
AgreeThrough S row T =
    (F G : Family)
    → IsLeast S F
    → IsLeast T G
    → (old location : ℕ)
    → IsRow S old
    → F old location ≡ G (new_row row old) location

-- the least solutions of a valid system and of the one that it is reduced to agree
abbrev pub ReducedHasEqualSets : Type 0
ReducedHasEqualSets =
    (S T : System) (of row : List ℕ) → IsValid S → AreClasses S of → IsReduced S of row T → AgreeThrough S row T

-- and more: that of the second, read through the new numbers, is that of the first
abbrev pub ReducedGivesLeast : Type 0
ReducedGivesLeast =
    (S T : System) (of row : List ℕ) (G : Family)
    → IsValid S
    → AreClasses S of
    → IsReduced S of row T
    → IsLeast T G
    → IsLeast S (λ old location. G (new_row row old) location)

-- what a valid system is reduced to is valid
abbrev pub ReducedIsValid : Type 0
ReducedIsValid = (S T : System) (of row : List ℕ) → IsValid S → AreClasses S of → IsReduced S of row T → IsValid T

-- calls of the reduced system have the targets, and its call graph the edges, that they have with its sets read
-- through the new numbers
abbrev pub ReducedHasSameGraph : Type 0
ReducedHasSameGraph =
    (S T : System) (of row : List ℕ) (G : Family) → IsValid S → IsReduced S of row T → (number target : ℕ)
    → (IsTargetOf T G number target ↔ IsTargetOf S (λ old location. G (new_row row old) location) number target)
    × (IsGraphEdge T G number target ↔ IsGraphEdge S (λ old location. G (new_row row old) location) number target)
