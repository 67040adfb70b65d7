-- The items on a way up, one link after another.
use Rattle.std.proofs.Common.{◌≡◌, ℕ, ◌+◌, ◌<◌, ◌≤◌, ◌==◌, Bool, true, false, List, [], ◌++◌, length, get_or, drop, sym, ap, ◌∙◌, append_assoc, if◌then◌else◌}
use Rattle.std.proofs.lemmas.Bool.{ne_eqb, eq-eqb}
use Rattle.std.proofs.lemmas.List.{append-nil, drop_more, drop_all}
use Rattle.core_tree.specs.declared.node.Node.{Node}
use Rattle.ref_state.specs.declared.items.Item.{Item}
use Rattle.ref_blocks.specs.declared.ways.Link.{Link}
use Rattle.ref_blocks.specs.Jumps.{wait_for, waits_to}

next_wait : (nodes : List Node) (a : ℕ) (links : List Link) (i : ℕ) (d : Link) (b : Bool) (on whole : List Item) → i < length links → ((get_or links i d).node == a) ≡ b
    → on ++ waits_to nodes a (drop i links) ≡ whole → on ++ (wait_for nodes (get_or links i d) ++ (if b then [] else waits_to nodes a (drop (i + 1) links))) ≡ whole
next_wait nodes a links i d b on whole l t h =
    sym (ap (λ (w : List Link). on ++ waits_to nodes a w) (drop_more links i d l)
    ∙ ap (λ (k : Bool). on ++ (wait_for nodes (get_or links i d) ++ (if k then [] else waits_to nodes a (drop (i + 1) links)))) t) ∙ h

-- the statement is reached
pub wait_last : (nodes : List Node) (a : ℕ) (links : List Link) (i : ℕ) (d : Link) (on new whole : List Item) → i < length links → (get_or links i d).node ≡ a
    → on ++ waits_to nodes a (drop i links) ≡ whole → new ≡ on ++ wait_for nodes (get_or links i d) → new ≡ whole
wait_last nodes a links i d on new whole l t h n =
    n ∙ ap (λ (w : List Item). on ++ w) (sym (append-nil (wait_for nodes (get_or links i d)))) ∙ next_wait nodes a links i d true on whole l (eq-eqb (get_or links i d).node a t) h

-- it isn't
pub wait_more : (nodes : List Node) (a : ℕ) (links : List Link) (i : ℕ) (d : Link) (on new whole : List Item) → i < length links → ((get_or links i d).node ≡ a → ⊥)
    → on ++ waits_to nodes a (drop i links) ≡ whole → new ≡ on ++ wait_for nodes (get_or links i d) → new ++ waits_to nodes a (drop (i + 1) links) ≡ whole
wait_more nodes a links i d on new whole l t h n =
    ap (λ (w : List Item). w ++ waits_to nodes a (drop (i + 1) links)) n ∙ append_assoc on (wait_for nodes (get_or links i d)) (waits_to nodes a (drop (i + 1) links))
    ∙ next_wait nodes a links i d false on whole l (ne_eqb (get_or links i d).node a t) h

pub waits_end : (nodes : List Node) (a : ℕ) (links : List Link) (i : ℕ) (on whole : List Item) → length links ≤ i → on ++ waits_to nodes a (drop i links) ≡ whole → on ≡ whole
waits_end nodes a links i on whole l h = sym (append-nil on) ∙ ap (λ (w : List Link). on ++ waits_to nodes a w) (sym (drop_all i links l)) ∙ h
