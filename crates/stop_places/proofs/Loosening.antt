-- Whether nodes, calls and the program are loose.
use Rattle.std.proofs.Common.{◌≡◌, ◌↔◌, ℕ, suc, ◌-◌, ◌≤◌, Bool, false, IsTrue, List, [], ◌∷◌, length, take, drop, get_or, Some, slice_get, Contains, refl, sym, ◌∙◌, ap, subst, inl, inr, arith}
use Rattle.std.proofs.lemmas.Bool.{false≢true}
use Rattle.std.proofs.lemmas.Option.{slice_get_within, get_or_from_slice_get, slice_get-get_or}
use Rattle.std.proofs.lemmas.List.{take_all}
use Rattle.c_types.specs.Trees.{Ctype, trees_at}
use Rattle.c_types.specs.declared.term.TypeId.{TypeId}
use Rattle.core_tree.specs.declared.node.Node.{Node}
use Rattle.core_tree.specs.Typed.{CoreTrees, type_at}
use Rattle.core_tree.specs.Range.{IsChild, child_in}
use Rattle.stop_places.specs.Loose.{count_types, is_loose, HasLooseType, IsLooseNode}

-- children of a node, as its list has them
pub child_of : (u : CoreTrees) (n c : ℕ) (node : Node) → slice_get u.nodes n ≡ Some node → Contains node.children c → IsChild u n c
child_of u n c node at h = (h.0, ap (λ o. child_in o h.0) at ∙ (slice_get-get_or node.children h.0 c h.1 ∙ ap Some h.2))

pub of_child : (u : CoreTrees) (n c : ℕ) (node : Node) → slice_get u.nodes n ≡ Some node → IsChild u n c → Contains node.children c
of_child u n c node at h =
    let there : slice_get node.children h.0 ≡ Some c = sym (ap (λ o. child_in o h.0) at) ∙ h.1 in
    (h.0, slice_get_within node.children h.0 c there, get_or_from_slice_get node.children h.0 c c there)

pub types_counted : (trees : List Ctype) (ids : List TypeId) → count_types (trees_at trees ids) ≡ length ids
types_counted trees [] = refl
types_counted trees (id ∷ ids) = ap suc (types_counted trees ids)

-- a list with an item in front
pub first_item : (xs : List ℕ) → 1 ≤ length xs → xs ≡ get_or xs 0 0 ∷ drop 1 xs
first_item [] least = absurd (omega arith)
first_item (x ∷ xs) least = refl

pub rest_whole : (xs : List ℕ) → take (length xs - 1) (drop 1 xs) ≡ drop 1 xs
rest_whole [] = refl
rest_whole (x ∷ xs) = take_all (suc (length xs) - 1) xs (omega arith)

-- a node without a loose type is loose where an operand has one
pub loose_node_is : (u : CoreTrees) (n : ℕ) (node : Node) (own r : Bool) → slice_get u.nodes n ≡ Some node → own ≡ is_loose (type_at u n) → own ≡ false
    → (IsTrue r ↔ ((c : ℕ) × Contains node.children c × HasLooseType u c)) → IsTrue r ↔ IsLooseNode u n
loose_node_is u n node own r at is plain some = (
  (λ h. let a = some.0 h in inr (a.0, child_of u n a.0 node at a.1, a.2)),
  (λ l. elim l [
    | inl here ↦ absurd (false≢true (sym plain ∙ (is ∙ here)))
    | inr a ↦ some.1 (a.0, of_child u n a.0 node at a.1, a.2)
  ]),
)
