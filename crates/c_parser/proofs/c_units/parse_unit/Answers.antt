use Rattle.std.proofs.Common.{◌≡◌, ℕ, ◌<◌, List, [], ◌∷◌, ◌++◌, length, map, refl, ap, ◌∙◌, arith, length-append}
use Rattle.std.proofs.lemmas.List.{length-map}
use Rattle.c_grammar.specs.declared.trees.SyntaxNode.{SyntaxNode}
use Rattle.c_grammar.specs.Reads.{Node, node_of}
use Rattle.c_grammar.specs.Order.{EndsWith}
use Rattle.c_grammar.specs.Tree.{makes_node}
use Rattle.c_grammar.specs.Productions.{p_unit}
use Rattle.c_parser.specs.Parse.{begin}
use Rattle.c_parser.proofs.c_units.parse_unit.Goals as goal

-- a list of nodes that ends with one has one
some : (q place : ℕ) (before seen : List Node) (nodes : List SyntaxNode) → EndsWith q place before seen → seen ≡ map node_of nodes → 0 < length nodes
some q place before seen nodes e f =
    let l : length seen ≡ length nodes = ap length f ∙ length-map nodes node_of in
    let n : Node = record { production = q; token = place; children = e.1 } in
    let m : length seen ≡ length (before ++ (e.0 ++ n ∷ [])) = ap length e.2 in
    omega (arith, l, m, length-append before (e.0 ++ n ∷ []), length-append e.0 (n ∷ []))

pub last_of-requires : goal.last_of-requires
unfolding makes_node
last_of-requires c =
    let r = c.in-Ok.ensures.0 in
    let b = begin 0 c.new-scopes.result c.new.result.items in
    let e = c.one_node.ensures c.args.tokens.now.text.now c.args.tokens.now.list.items p_unit 0 b r.0 refl r.1 in
    let n : 0 < length c.read_production.new.tree.nodes.items = some p_unit 0 b.nodes r.0.nodes c.read_production.new.tree.nodes.items e r.4 in
    omega (arith, n, c.len.ensures, c.read_production.new.tree.nodes.ok)
