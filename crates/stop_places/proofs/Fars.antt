-- Whether a node is a far place.
use Rattle.std.proofs.Common.{◌≡◌, ◌↔◌, ℕ, List, [], ◌∷◌, Some, slice_get, sym, ◌∙◌, ap, subst}
use Rattle.std.proofs.lemmas.Option.{same_Some}
use Rattle.core_tree.specs.declared.node.Node.{Node}
use Rattle.core_tree.specs.declared.node.NodeKind.{NodeKind}
use Rattle.core_tree.specs.declared.node.NodeKind.TheVariants.{Deref, Member}
use Rattle.stop_places.specs.Far.{IsFar, pointed, part}

-- of a member of a place that place is asked
pub far_below : (nodes : List Node) (n k p : ℕ) (node : Node) → slice_get nodes n ≡ Some node → node.kind ≡ Member k → node.children ≡ p ∷ [] → IsFar nodes n → IsFar nodes p
far_below nodes n k p node at kind children (pointed {node = other} there is) = absurd (let same : node ≡ other = same_Some node other (sym at ∙ there) in apart kind same is) where
  apart : {m : ℕ} {one two : Node} → one.kind ≡ Member m → one ≡ two → two.kind ≡ Deref → ⊥
  apart a e b = let clash : Deref ≡ Member _ = sym (ap (λ (x : Node). x.kind) e ∙ b) ∙ a in cc
far_below nodes n k p node at kind children (part {p = q} {node = other} there is over inner) =
    let same : node ≡ other = same_Some node other (sym at ∙ there) in
    let lists : q ∷ [] ≡ p ∷ [] = sym over ∙ (sym (ap (λ (x : Node). x.children) same) ∙ children) in
    let one : q ≡ p = cc in
    subst (IsFar nodes) one inner

-- neither what a pointer points to nor a member of one place
pub near : (nodes : List Node) (n : ℕ) (node : Node) → slice_get nodes n ≡ Some node → (node.kind ≡ Deref → ⊥) → ((k p : ℕ) → node.kind ≡ Member k → node.children ≡ p ∷ [] → ⊥) → IsFar nodes n → ⊥
near nodes n node at no_deref no_member (pointed {node = other} there is) =
    let same : node ≡ other = same_Some node other (sym at ∙ there) in no_deref (ap (λ (x : Node). x.kind) same ∙ is)
near nodes n node at no_deref no_member (part {k = k} {p = p} {node = other} there is over inner) =
    let same : node ≡ other = same_Some node other (sym at ∙ there) in
    no_member k p (ap (λ (x : Node). x.kind) same ∙ is) (ap (λ (x : Node). x.children) same ∙ over)
