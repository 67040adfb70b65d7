use Rattle.std.proofs.Common.{◌≡◌, ℕ, suc, ◌+◌, ◌-◌, List, [], ◌∷◌, ◌++◌, length, map, sym, ap, ◌∙◌, subst, arith}
use Rattle.std.proofs.lemmas.List.{length-map}
use Rattle.c_grammar.specs.declared.trees.SyntaxNode.{SyntaxNode}
use Rattle.c_grammar.specs.Productions.{p_primary, p_unary}
use Rattle.c_grammar.specs.Reads.{Node, node_of}
use Rattle.c_parser.specs.Lone.{Grown, leaf_at, over, levels, IsGrown}
use Rattle.c_parser.proofs.lone.add_lone.Goals as goal

-- a node over the last one
grown_over : (token production child number : ℕ) (g : Grown) (old : List SyntaxNode) (new : List Node) → IsGrown g (map node_of old) child → number ≡ length old
    → new ≡ map node_of old ++ (record { production = production; token = token; children = child ∷ [] }) ∷ [] → IsGrown (over token production g) new number
grown_over token production child number g old new h e f = (
  f ∙ (ap (λ xs. xs ++ (record { production = production; token = token; children = child ∷ [] }) ∷ []) h.0 ∙ ap (λ k. g.0 ++ (record { production = production; token = token; children = k ∷ [] }) ∷ []) h.1),
  e ∙ (sym (length-map old node_of) ∙ ap (λ xs. length xs) h.0),
)

one_more : (n token number : ℕ) (start new : List Node) → IsGrown (levels (suc n) token start) new number → IsGrown (levels (n + 1) token start) new number
one_more n token number start new h = let e : suc n ≡ n + 1 = omega arith in subst (λ m. IsGrown (levels m token start) new number) e h

pub loop-inner-init : goal.loop-inner-init
loop-inner-init c =
    let old = c.args.nodes.now.items in
    let leaf = c.in_ok-leaf.ensures in
    let primary = c.in_ok-last.ensures in
    grown_over c.args.token p_primary c.in_ok-leaf.leaf c.in_ok-last.last (map node_of old ++ leaf_at c.args.token ∷ [], length (map node_of old)) c.add_leaf.new.nodes.items (map node_of c.add_over.new.nodes.items)
    (leaf.1, leaf.0 ∙ sym (length-map old node_of)) primary.0 primary.1

pub loop-inner-preserved : goal.loop-inner-preserved
loop-inner-preserved c =
    let start = map node_of c.args.nodes.now.items in
    let n = c.loop-inner.inner in
    let more = c.in_ok-last-2.ensures in
    one_more n c.args.token c.in_ok-last-2.last start (map node_of c.add_over-in-loop-inner.new.nodes.items)
    (grown_over c.args.token (p_unary - n) c.loop-inner.last c.in_ok-last-2.last (levels n c.args.token start) c.loop-inner.nodes.items (map node_of c.add_over-in-loop-inner.new.nodes.items) c.loop-inner.invariant more.0 more.1)
