-- One call more.
use Rattle.std.proofs.Common.{◌≡◌, ℕ, ◌+◌, Bool, true, false, cond, List, [], ◌∷◌, ◌++◌, Option, Some, None, length, length-append, slice_get, refl, ap, ◌∙◌, add-one, arith}
use Rattle.std.specs.List.{filter_map, range_with_len, cons_option}
use Rattle.std.proofs.lemmas.List.Elements.{filter_map-append}
use Rattle.core_tree.specs.declared.node.Node.{Node}
use Rattle.row_numbers.proofs.RangeLemmas.{range_more}
use Rattle.call_sites.specs.Calls.{call_if, calls_upto, is_call}

one : (n : ℕ) (b : Bool) → length (cons_option (cond b (Some n) None) []) ≡ cond b 1 0
one n true = refl
one n false = refl

pub calls_more : (nodes : List Node) (n : ℕ) (node : Node) → slice_get nodes n ≡ Some node → length (calls_upto nodes (n + 1)) ≡ length (calls_upto nodes n) + cond (is_call node.kind) 1 0
calls_more nodes n node at =
    let f : ℕ → Option ℕ = λ m. call_if m (slice_get nodes m) in
    ap length
    (ap (λ (k : ℕ). filter_map f (range_with_len 0 k)) (add-one n)
    ∙ (ap (filter_map f) (range_more 0 n ∙ ap (λ (k : ℕ). range_with_len 0 n ++ k ∷ []) (omega arith))
    ∙ filter_map-append f (range_with_len 0 n) (n ∷ [])))
    ∙ (length-append (calls_upto nodes n) (cons_option (call_if n (slice_get nodes n)) [])
    ∙ ap (λ k. length (calls_upto nodes n) + k) (ap (λ o. length (cons_option (call_if n o) [])) at ∙ one n (is_call node.kind)))
