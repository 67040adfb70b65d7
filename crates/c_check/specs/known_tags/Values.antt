-- The enumerators that an expression itself declares.
use Rattle.std.specs.Prelude.{ℕ, ℤ, ◌&&◌, Bool, true, false, List, [], ◌∷◌, ◌++◌, Option, Some, None, is_none}
use Rattle.std.specs.Prelude.{if◌then◌else◌}
use Rattle.c_grammar.specs.Productions.{p_enumerator}
use Rattle.c_senses.specs.Tree.{Source, is_a, children_at, all_where, numbers_from}
use Rattle.c_senses.specs.Sense.{Sense}
use Rattle.c_results.specs.Parts.{number_in}
use Rattle.c_check.specs.declared.known_tags.known.Meaning.{Meaning}
use Rattle.c_check.specs.declared.known_tags.known.Meaning.TheVariants.{Value}
use Rattle.c_check.specs.known_tags.Known.{known_at}
use Rattle.c_check.specs.known_tags.Own.{is_under}

-- an enumerator under a node
abbrev pub is_own_enumerator : Source → ℕ → ℕ → Bool
is_own_enumerator s top i = is_under s top i && is_a s p_enumerator i

-- its name, the first of its children, where nothing is known of it
abbrev pub new_leaf : List (ℕ × Meaning) → List ℕ → Option ℕ
new_leaf list [] = None
new_leaf list (leaf ∷ rest) = if is_none (known_at list leaf) then Some leaf else None

-- with its value
abbrev pub pair_of : Option ℕ → Option ℤ → List (ℕ × Meaning)
pair_of (Some leaf) (Some n) = (leaf, Value n) ∷ []
pair_of leaf value = []

abbrev pub new_pair : List (ℕ × Meaning) → List ℕ → Option ℤ → List (ℕ × Meaning)
new_pair list children value = pair_of (new_leaf list children) value

-- those of some enumerators, in order
abbrev pub values_of : Source → (ℕ → Sense) → List (ℕ × Meaning) → List ℕ → List (ℕ × Meaning)
values_of s sense list [] = []
values_of s sense list (i ∷ rest) =
    new_pair list (children_at s i) (number_in (sense i)) ++ values_of s sense list rest

-- those under a node among the first so many nodes
abbrev pub own_values : Source → (ℕ → Sense) → ℕ → List (ℕ × Meaning) → ℕ → List (ℕ × Meaning)
own_values s sense top list count =
    values_of s sense list (all_where (is_own_enumerator s top) (numbers_from 0 count))

-- that of one node
abbrev pub pairs_if : Bool → List (ℕ × Meaning) → List (ℕ × Meaning)
pairs_if true pairs = pairs
pairs_if false pairs = []
