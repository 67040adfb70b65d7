-- Going up from a node to its parent.
use Rattle.std.proofs.Common.{arith, ◌≡◌, ◌≢◌, ℕ, ◌<◌, Option, Some, None, slice_get, length, get_or, refl, sym, ap, ◌∙◌, subst}
use Rattle.std.proofs.lemmas.Option.{slice_get_within, get_or_from_slice_get}
use Rattle.std.proofs.lemmas.List.Elements.{All-get_or}
use Rattle.core_tree.specs.Typed.{CoreTrees}
use Rattle.core_tree.specs.declared.node.Node.{Node}
use Rattle.core_tree.specs.Range.{InRange, ChildOnce, IsChild, Under, here, below, Has, child_in}

pub child_has : (u : CoreTrees) (p n : ℕ) (node : Node) → slice_get u.nodes p ≡ Some node → IsChild u p n → Has node.children n
child_has u p n node at (k, e) = (k, sym (ap (λ o. child_in o k) at) ∙ e)

pub has_child : (u : CoreTrees) (p n : ℕ) (node : Node) → slice_get u.nodes p ≡ Some node → Has node.children n → IsChild u p n
has_child u p n node at (k, e) = (k, ap (λ o. child_in o k) at ∙ e)

-- a parent is a node
pub parent_node : (u : CoreTrees) (p n : ℕ) → IsChild u p n → (node : Node) × (slice_get u.nodes p ≡ Some node)
parent_node u p n (k, e) = go (slice_get u.nodes p) refl
  where
    go : (o : Option Node) → slice_get u.nodes p ≡ o → (node : Node) × (slice_get u.nodes p ≡ Some node)
    go (Some node) h = (node, h)
    go None h = let f : ◌≡◌ {A = Option ℕ} None (Some n) = sym (ap (λ o. child_in o k) h) ∙ e in cc

pub parent_within : (u : CoreTrees) (p n : ℕ) → IsChild u p n → p < length u.nodes
parent_within u p n c = let (node, at) = parent_node u p n c in slice_get_within u.nodes p node at

pub child_before : (u : CoreTrees) → InRange u → (p n : ℕ) → IsChild u p n → n < p
child_before u range p n c =
    let (node, at) = parent_node u p n c in
    let (k, e) = child_has u p n node at c in
    let less = All-get_or (λ (d : ℕ). d < p) node.children k n (slice_get_within node.children k n e) (range.children p node at) in
    let same : get_or node.children k n ≡ n = get_or_from_slice_get node.children k n n e in
    omega (arith, less, same)

pub under_up : (u : CoreTrees) → ChildOnce u → (top n p : ℕ) → Under u top n → n ≢ top → IsChild u p n → Under u top p
under_up u once top n p here apart c = absurd (apart refl)
under_up u once top n p (below {parent = q} un (k, e)) apart (j, f) = subst (λ (r : ℕ). Under u top r) (once q p k j n e f).0 un

pub under_none : (u : CoreTrees) (top n : ℕ) → Under u top n → n ≢ top → ((p : ℕ) → IsChild u p n → ⊥) → ⊥
under_none u top n here apart lone = apart refl
under_none u top n (below {parent = q} un c) apart lone = lone q c
