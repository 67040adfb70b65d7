-- Where the bodies of what is declared stand among the nodes of the trees.
use Rattle.std.specs.Prelude.{ℕ, ◌≡◌, ◌<◌, ◌≤◌, ◌⊎◌, ⊤, List, Option, Some, None, length, get_or, slice_get}
use Rattle.core_tree.specs.declared.node.Node.{Node}
use Rattle.core_tree.specs.declared.node.Storage.{Storage}
use Rattle.core_tree.specs.declared.node.Storage.TheVariants.{FunctionBody}
use Rattle.unit_finish.specs.declared.unit_parts.declared.Declared.{Declared}
use Rattle.unit_finish.specs.planted_nodes.Grown.{end_at, IsCovered, IsWhole, GrowsFrom}

-- a copy of the body, if there is one, and a function's is no child
abbrev pub IsPlacedAt : List Node → List ℕ → List ℕ → Storage → Option ℕ → Option ℕ → Type 0
IsPlacedAt nodes origins starts storage None None = ⊤
IsPlacedAt nodes origins starts storage (Some b) (Some c) =
    (c < length origins) × (get_or origins c 0 ≡ b)
    × (storage ≡ FunctionBody → IsCovered nodes origins starts c → ⊥)
IsPlacedAt nodes origins starts storage b c = ⊥

-- one more body has its place: the first new one, or as a child; where it is no function's, a new one only if it
-- stood nowhere as a child
pub record Places (nodes : List Node) (old_origins old_starts new_origins new_starts : List ℕ)
    (met : List (Option ℕ)) (storage : Storage) (body place : Option ℕ) : Type 0 where
  pub whole : IsWhole nodes new_origins new_starts met
  pub grows : GrowsFrom old_origins old_starts new_origins new_starts
  pub placed : IsPlacedAt nodes new_origins new_starts storage body place
  pub fresh : (q : ℕ)
      → length old_origins ≤ q
      → q < length new_origins
      → IsCovered nodes new_origins new_starts q ⊎ (place ≡ Some q)
  pub again : (c : ℕ) → place ≡ Some c → c < length old_origins → IsCovered nodes old_origins old_starts c
  pub first : (c : ℕ) → place ≡ Some c → length old_origins ≤ c → c ≡ length old_origins
  pub late : (storage ≡ FunctionBody → ⊥)
      → (c : ℕ)
      → place ≡ Some c
      → length old_origins ≤ c
      → get_or new_origins c 0 < length nodes
      → (q : ℕ) → IsCovered nodes old_origins old_starts q → get_or old_origins q 0 ≡ get_or new_origins c 0 → ⊥

-- the bodies of the first so many of what is declared have their places, and all that stands there is such a body,
-- or a child; one that is no child stands behind the bodies before it, and no position before it has children from
-- there on
pub record ArePlaced (nodes : List Node) (list : List Declared) (count : ℕ) (bodies : List (Option ℕ))
    (origins starts : List ℕ) : Type 0 where
  pub long : length bodies ≡ count
  pub each : (e : ℕ) (x : Declared)
      → e < count
      → slice_get list e ≡ Some x
      → IsPlacedAt nodes origins starts x.storage x.body (get_or bodies e None)
  pub alone : (d e c : ℕ) (x : Declared)
      → d < count
      → e < count
      → slice_get list d ≡ Some x
      → x.storage ≡ FunctionBody
      → get_or bodies d None ≡ Some c
      → get_or bodies e None ≡ Some c
      → d ≡ e
  pub late : (e c : ℕ) (x : Declared)
      → e < count
      → slice_get list e ≡ Some x
      → (x.storage ≡ FunctionBody → ⊥)
      → get_or bodies e None ≡ Some c
      → (IsCovered nodes origins starts c → ⊥)
      → get_or origins c 0 < length nodes
      → (q : ℕ)
      → q < c
      → IsCovered nodes origins starts q
      → get_or origins q 0 ≡ get_or origins c 0
      → ⊥
  pub earlier : (j k a b : ℕ)
      → j < k
      → k < count
      → get_or bodies j None ≡ Some a
      → get_or bodies k None ≡ Some b
      → (IsCovered nodes origins starts b → ⊥)
      → a < b
  pub closed : (k b : ℕ)
      → k < count
      → get_or bodies k None ≡ Some b
      → (IsCovered nodes origins starts b → ⊥)
      → (p : ℕ)
      → p < b
      → end_at nodes origins starts p ≤ b
  pub all : (q : ℕ)
      → q < length origins
      → IsCovered nodes origins starts q ⊎ ((e : ℕ) × (e < count) × (get_or bodies e None ≡ Some q))
