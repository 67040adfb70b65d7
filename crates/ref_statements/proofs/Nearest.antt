-- A statement around a node is a node.
use Rattle.std.proofs.Common.{arith, ◌≡◌, ℕ, zero, suc, ◌+◌, ◌<◌, nat_lt, ◌&&◌, Bool, true, false, List, [], ◌∷◌, Option, Some, None, length, refl, if◌then◌else◌}
use Rattle.core_tree.specs.declared.node.Node.{Node}
use Rattle.core_tree.specs.declared.node.NodeKind.{NodeKind}
use Rattle.ref_blocks.specs.declared.ways.Link.{Link}
use Rattle.ref_blocks.specs.Ways.{is_child, parent_from, parent_of, above_in, above, kind_at, nearest}

parent_next : (p i : ℕ) (rest : Option ℕ) (n : ℕ) (b : Bool) → i < n → (rest ≡ Some p → p < n) → (if b then Some i else rest) ≡ Some p → p < n
parent_next p i rest n true less later e = let same : i ≡ p = cc in omega (arith, less, same)
parent_next p i rest n false less later e = later e

parent_within : (n i : ℕ) (nodes : List Node) (p : ℕ) → parent_from n i nodes ≡ Some p → p < i + length nodes
parent_within n i [] p h = cc
parent_within n i (node ∷ rest) p h =
    parent_next p i (parent_from n (i + 1) rest) (i + length (node ∷ rest)) (nat_lt n i && is_child n node.children) (omega arith)
    (λ e. omega (arith, parent_within n (i + 1) rest p e)) h

nearest_next : (nodes : List Node) (is : NodeKind → Bool) (n a : ℕ) (links : ℕ → List Link) → ((p : ℕ) → nearest nodes is (links p) ≡ Some a → a < length nodes)
    → (o : Option ℕ) → parent_of nodes n ≡ o
    → nearest nodes is (elim o [ None ↦ [] | Some p ↦ record { node = p; child = n } ∷ links p ]) ≡ Some a → a < length nodes
nearest_next nodes is n a links later None e k = cc
nearest_next nodes is n a links later (Some p) e k =
    parent_next a p (nearest nodes is (links p)) (length nodes) (is (kind_at nodes p)) (omega (arith, parent_within n 0 nodes p e)) (later p) k

within : (nodes : List Node) (is : NodeKind → Bool) (f n a : ℕ) → nearest nodes is (above_in nodes f n) ≡ Some a → a < length nodes
within nodes is zero n a h = cc
within nodes is (suc f) n a h = nearest_next nodes is n a (above_in nodes f) (λ p k. within nodes is f p a k) (parent_of nodes n) refl h

pub nearest_within : (nodes : List Node) (is : NodeKind → Bool) (n a : ℕ) → nearest nodes is (above nodes n) ≡ Some a → a < length nodes
unfolding above
nearest_within nodes is n a h = within nodes is (length nodes) n a h
