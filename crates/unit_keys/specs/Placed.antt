-- What stands around each node.
use Rattle.std.specs.Prelude.{ℕ, ◌≡◌, ◌<◌, ◌-◌, Bool, true, false, List, Option, Some, option_map, length, get_or}
use Rattle.c_grammar.specs.Productions.{p_member}
use Rattle.c_grammar.specs.Terminals.{contains}
use Rattle.c_senses.specs.Tree.{Source, is_a, children_at, first_where, numbers_from, parent_of}
use Rattle.c_senses.specs.Keys.{is_inner, parts_before}
use Rattle.c_senses.specs.Sense.{Sense}
use Rattle.tree_reads.specs.leaf_maps.Numbers.{number_at}

-- parents are nodes, and stand behind their children
abbrev pub ParentsBehind : Source → Type 0
ParentsBehind s = (i p : ℕ) → parent_of s i ≡ Some p → (i < p) × (p < length s.nodes)

-- for each of the last nodes, the last one first, whether it stands in a block or a parameter list
pub record AreInner (s : Source) (sense : ℕ → Sense) (flags : List Bool) (count : ℕ) : Type 0 where
  pub long : length flags ≡ count
  pub each : (j : ℕ) → j < count → get_or flags j false ≡ is_inner s sense (length s.nodes - 1 - j)

-- the position of a member among the parts of the list that has it, where one of the first so many nodes does
abbrev pub position_below : Source → (ℕ → Sense) → ℕ → ℕ → Option ℕ
position_below s sense count c =
    option_map (λ p. parts_before s sense c (children_at s p))
    (first_where (λ p. contains (children_at s p) c) (numbers_from 0 count))

abbrev pub ArePositions : Source → (ℕ → Sense) → List (ℕ × ℕ) → ℕ → Type 0
ArePositions s sense positions count =
    (c : ℕ) → is_a s p_member c ≡ true → number_at positions c ≡ position_below s sense count c

-- no declaration of members has another position than its own, and those before a node have theirs
pub record AreNoted (s : Source) (sense : ℕ → Sense) (positions : List (ℕ × ℕ)) (count : ℕ) : Type 0 where
  pub own : (c x : ℕ)
      → is_a s p_member c ≡ true
      → number_at positions c ≡ Some x
      → position_below s sense (length s.nodes) c ≡ Some x
  pub each : (c : ℕ)
      → c < count
      → is_a s p_member c ≡ true
      → number_at positions c ≡ position_below s sense (length s.nodes) c
