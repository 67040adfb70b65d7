-- What one node more demands.
use Rattle.std.proofs.Common.{arith, ◌≡◌, ℕ, ◌+◌, List, [], ◌∷◌, ◌++◌, Some, ap, sym, ◌∙◌, add-one, append-nil}
use Rattle.std.specs.List.{slice_get, flat_map, range_with_len}
use Rattle.std.proofs.lemmas.Grind.{flat_map-append}
use Rattle.c_types.specs.Table.{type_of}
use Rattle.core_tree.specs.declared.node.Node.{Node}
use Rattle.row_numbers.specs.Setting.{Setting}
use Rattle.row_numbers.proofs.RangeLemmas.{range_more}
use Rattle.normal_form.specs.Assignments.{row_of_kind, node_assignments, assignments_by, assignments_at}

pub at_node : (w : Setting) (n : ℕ) (node : Node) → slice_get w.trees.nodes n ≡ Some node → row_of_kind w n node.kind (type_of w.trees.types node.ty.0) node.children ≡ assignments_at w n
unfolding node_assignments
at_node w n node e = ap (assignments_by w n) (sym e)

pub flat_more : {X : Type 0} (f : ℕ → List X) (n : ℕ) → flat_map f (range_with_len 0 (n + 1)) ≡ flat_map f (range_with_len 0 n) ++ f n
flat_more {X} f n =
    ap (λ (k : ℕ). flat_map f (range_with_len 0 k)) (add-one n)
    ∙ (ap (flat_map f) (range_more 0 n ∙ ap (λ (k : ℕ). range_with_len 0 n ++ k ∷ []) (omega arith))
    ∙ (flat_map-append f (range_with_len 0 n) (n ∷ []) ∙ ap (λ (xs : List X). flat_map f (range_with_len 0 n) ++ xs) (append-nil (f n))))
