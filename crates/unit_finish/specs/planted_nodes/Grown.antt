-- The nodes of some trees, one tree behind the other and each level by level, with the place of each one's
-- children.
use Rattle.std.specs.Prelude.{ℕ, ◌≡◌, ◌+◌, ◌<◌, ◌≤◌, ◌^◌, ◌⊎◌, List, [], Option, Some, None, length, get_or}
use Rattle.std.specs.Prelude.{slice_get}
use Rattle.core_tree.specs.declared.node.Node.{Node}

-- the children of a node; one that isn't there has none
abbrev pub under_node : Option Node → List ℕ
under_node None = []
under_node (Some x) = x.children

abbrev pub children_of : List Node → ℕ → List ℕ
children_of nodes o = under_node (slice_get nodes o)

-- the children of the node at a position, and where they end
abbrev pub under_at : List Node → List ℕ → ℕ → List ℕ
under_at nodes origins p = children_of nodes (get_or origins p 0)

abbrev pub end_at : List Node → List ℕ → List ℕ → ℕ → ℕ
end_at nodes origins starts p = get_or starts p 0 + length (under_at nodes origins p)

-- each position from a first so many has its children in one range behind it, and these ranges don't meet
pub record IsGrown (nodes : List Node) (origins starts : List ℕ) : Type 0 where
  pub few : length starts ≤ length origins
  pub later : (p : ℕ) → p < length starts → p < get_or starts p 0
  pub within : (p : ℕ) → p < length starts → end_at nodes origins starts p ≤ length origins
  pub apart : (p q : ℕ) → p < q → q < length starts → end_at nodes origins starts p ≤ get_or starts q 0
  pub children : (p k : ℕ)
      → p < length starts
      → k < length (under_at nodes origins p)
      → get_or origins (get_or starts p 0 + k) 0 ≡ get_or (under_at nodes origins p) k 0

-- the position is one of a child
pub record IsCovered (nodes : List Node) (origins starts : List ℕ) (q : ℕ) : Type 0 where
  pub parent : ℕ
  pub place : ℕ
  pub before : parent < length starts
  pub few : place < length (under_at nodes origins parent)
  pub here : get_or starts parent 0 + place ≡ q

-- a position is noted of the node
abbrev pub IsNoted : List (Option ℕ) → ℕ → Type 0
IsNoted met b = (c : ℕ) × (get_or met b None ≡ Some c)

-- of each node that stands as a child, such a position
pub record AreMet (nodes : List Node) (origins starts : List ℕ) (met : List (Option ℕ)) : Type 0 where
  pub within : (b c : ℕ) → get_or met b None ≡ Some c → c < length origins
  pub origin : (b c : ℕ) → get_or met b None ≡ Some c → get_or origins c 0 ≡ b
  pub covered : (b c : ℕ) → get_or met b None ≡ Some c → IsCovered nodes origins starts c
  pub long : length met ≡ length nodes
  pub all : (q : ℕ)
      → IsCovered nodes origins starts q
      → get_or origins q 0 < length nodes
      → IsNoted met (get_or origins q 0)

-- what is noted of the first so many of some nodes that stand from a position on
pub record Notes (from : ℕ) (children : List ℕ) (count : ℕ) (old new : List (Option ℕ)) : Type 0 where
  pub each : (b c : ℕ)
      → get_or new b None ≡ Some c
      → (get_or old b None ≡ Some c) ⊎ ((k : ℕ) × (k < count) × (c ≡ from + k) × (get_or children k 0 ≡ b))
  pub long : length new ≡ length old
  pub kept : (b : ℕ) → IsNoted old b → IsNoted new b
  pub noted : (k : ℕ) → k < count → get_or children k 0 < length new → IsNoted new (get_or children k 0)

-- all positions have their children, and they can be numbered
pub record IsWhole (nodes : List Node) (origins starts : List ℕ) (met : List (Option ℕ)) : Type 0 where
  pub grown : IsGrown nodes origins starts
  pub are_met : AreMet nodes origins starts met
  pub done : length starts ≡ length origins
  pub fit : length origins < 2 ^ 32

-- further positions behind the others
pub record GrowsFrom (old_origins old_starts new_origins new_starts : List ℕ) : Type 0 where
  pub more : length old_origins ≤ length new_origins
  pub further : length old_starts ≤ length new_starts
  pub origins : (p : ℕ) → p < length old_origins → get_or new_origins p 0 ≡ get_or old_origins p 0
  pub starts : (p : ℕ) → p < length old_starts → get_or new_starts p 0 ≡ get_or old_starts p 0
