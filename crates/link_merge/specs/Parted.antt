-- Nodes in classes, told apart by the classes of their kids.
use Rattle.std.specs.Prelude.{ℕ, ◌≡◌, ◌≢◌, ◌<◌, ◌⊎◌, List, [], ◌∷◌, Some, length, map, slice_get, slice_index}
use Rattle.std.specs.Global.{Vec}
use Rattle.std.specs.List.{slice_index_or}

-- lists of lists
abbrev pub lists_of : List (Vec ℕ) → List (List ℕ)
lists_of lists = map (λ v. v.items) lists

-- the list at a number; past the end it is empty
abbrev pub list_of : List (List ℕ) → ℕ → List ℕ
list_of lists x = slice_index_or lists x []

-- a list has a number
abbrev pub Lists : List ℕ → ℕ → Type 0
Lists list x = (j : ℕ) × (slice_get list j ≡ Some x)

-- The least set of pairs of nodes that begin in two classes, or have not as many kids, or have at one place kids
-- that are such a pair.
pub data Distinct (first : List ℕ) (kids : List (List ℕ)) : ℕ → ℕ → Type 0 where
  begin : {x y : ℕ} → slice_index first x ≢ slice_index first y → Distinct first kids x y
  many : {x y : ℕ} → length (list_of kids x) ≢ length (list_of kids y) → Distinct first kids x y
  kid : {x y : ℕ} (k c d : ℕ)
      → slice_get (list_of kids x) k ≡ Some c
      → slice_get (list_of kids y) k ≡ Some d
      → Distinct first kids c d
      → Distinct first kids x y

-- Classes in which nodes are that begin in one class: nodes of two classes are distinct, and nodes that begin in
-- one class with the same kids are in one.
pub record AreParted (first : List ℕ) (kids : List (List ℕ)) (class : List ℕ) : Type 0 where
  pub all : length class ≡ length first
  pub begun : (x : ℕ) → x < length first → slice_index first (slice_index class x) ≡ slice_index first x
  pub parts : (x y : ℕ)
      → x < length first
      → y < length first
      → slice_index class x ≢ slice_index class y
      → Distinct first kids x y
  pub alike : (x y : ℕ) → x < length first → y < length first → slice_index first x ≡ slice_index first y
      → list_of kids x ≡ list_of kids y → slice_index class x ≡ slice_index class y

-- the first so many nodes, each in the list of the class in which it begins
pub record MembersUpTo (first : List ℕ) (lists : List (List ℕ)) (upto : ℕ) : Type 0 where
  pub many : length lists ≡ length first
  pub whole : (x : ℕ) → x < upto → Lists (list_of lists (slice_index first x)) x
  pub own : (l x : ℕ) → Lists (list_of lists l) x → (x < upto) × (slice_index first x ≡ l)

-- each node's kids are nodes
pub record AreNodes (kids : List (List ℕ)) (count : ℕ) : Type 0 where
  pub each : (x c : ℕ) → Lists (list_of kids x) c → c < count

-- what tells a node from others of its class: its class and those of its kids
abbrev pub node_key : List ℕ → List ℕ → ℕ → List ℕ
node_key class kids x = slice_index class x ∷ map (λ c. slice_index class c) kids

-- the nodes of a list have those classes, and the others those that they had
pub record IsRenumbered (old now list leads : List ℕ) (upto : ℕ) : Type 0 where
  pub many : length now ≡ length old
  pub each : (x : ℕ)
      → ((slice_index now x ≡ slice_index old x) × ((j : ℕ) → j < upto → slice_get list j ≡ Some x → ⊥))
      ⊎ ((j : ℕ) × (j < upto) × (slice_get list j ≡ Some x)
      × (slice_index now x ≡ slice_index list (slice_index leads j)))

-- The nodes of a list are told apart by their keys: a node with the key of another one gets its class, which is a
-- node of the list. The other nodes have the classes that they had.
pub record IsSplit (old now : List ℕ) (kids : List (List ℕ)) (list : List ℕ) : Type 0 where
  pub many : length now ≡ length old
  pub others : (x : ℕ) → (Lists list x → ⊥) → slice_index now x ≡ slice_index old x
  pub decided : (x : ℕ) → Lists list x ⊎ (Lists list x → ⊥)
  pub within : (x : ℕ) → Lists list x → Lists list (slice_index now x)
  pub alike : (x y : ℕ)
      → Lists list x
      → Lists list y
      → node_key old (list_of kids x) x ≡ node_key old (list_of kids y) y
      → slice_index now x ≡ slice_index now y
