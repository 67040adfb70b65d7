-- Facts of nodes and children of a unit by their lists.
use Rattle.std.proofs.Common.{◌≡◌, ℕ, List, Option, Some, None, slice_get, get_or, refl, sym, ◌∙◌}
use Rattle.core_tree.specs.declared.node.Node.{Node}
use Rattle.core_tree.specs.Typed.{CoreTrees}
use Rattle.core_tree.specs.Valid.{child_in, child_at, ChildOnce, Has}
use Rattle.sense_cases.proofs.right_cases.Lists.{Each, each_of}

-- the node above a child, and the child's position there
pub child_of : (o : Option Node) (k j : ℕ) → child_in o k ≡ Some j → (n : Node) × (o ≡ Some n) × (slice_get n.children k ≡ Some j)
child_of None k j e = cc
child_of (Some n) k j e = (n, refl, e)

-- each child of a node stands at its place in two lists: of the nodes above, and of positions
abbrev pub HasPlace : List ℕ → List ℕ → ℕ → ℕ → ℕ → Type 0
HasPlace above positions a k c = (get_or above c 0 ≡ a) × (get_or positions c 0 ≡ k)

abbrev pub HavePlaces : List ℕ → List ℕ → ℕ → Node → Type 0
HavePlaces above positions a n = Each (λ k c. HasPlace above positions a k c) n.children

module _ (u : CoreTrees) (above positions : List ℕ) (all : Each (HavePlaces above positions) u.nodes) where
  place : (a i c : ℕ) → child_at u a i ≡ Some c → HasPlace above positions a i c
  place a i c e =
      let n = child_of (slice_get u.nodes a) i c e in
      each_of (λ k x. HasPlace above positions a k x) n.0.children (each_of (HavePlaces above positions) u.nodes all a n.0 n.1) i c n.2

  pub once : ChildOnce u
  once a b i j c e f = (sym (place a i c e).0 ∙ (place b j c f).0, sym (place a i c e).1 ∙ (place b j c f).1)

-- a list that has a number nowhere
pub has_none : (list : List ℕ) (x : ℕ) → Each (λ k y. y ≡ x → ⊥) list → Has list x → ⊥
has_none list x all h = each_of (λ k y. y ≡ x → ⊥) list all h.0 x h.1 refl
