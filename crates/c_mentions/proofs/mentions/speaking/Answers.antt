use Rattle.std.proofs.Common.{◌≡◌, ◌++◌, ◌∷◌, [], filter, length, sym, ap, ◌∙◌, arith}
use Rattle.std.specs.List.{range_with_len}
use Rattle.c_grammar.specs.Reads.{node_of}
use Rattle.c_mentions.specs.Mentions.{node_speaks, speaks, speaking}
use Rattle.c_mentions.specs.Syntax.{nodes_of}
use Rattle.c_mentions.proofs.Nodes.{length-nodes_of}
use Rattle.c_mentions.proofs.Speaking.{kept_more, kept_same, node_here}
use Rattle.c_mentions.proofs.mentions.speaking.Goals as goal
use Rattle.c_mentions.proofs.mentions.speaking.Goals.{then-is_speaking+in_ok-push, else-is_speaking}

pub loop-node-preserved : goal.loop-node-preserved
loop-node-preserved c =
    let tokens = c.args.tokens.now in
    let p = speaks tokens (nodes_of c.args.nodes.now) in
    let i = c.loop-node.node in
    let here : c.is_speaking.result ≡ p i = c.is_speaking.ensures ∙ (ap (λ x. node_speaks tokens (node_of x)) c.index-nodes-node.is ∙ node_here tokens c.args.nodes.now i c.index-nodes-node.result c.loop-node-test.true) in
    elim c.if-is_speaking.branch [
      | then-is_speaking+in_ok-push w ↦
          let more : c.if-is_speaking.list.items ≡ c.loop-node.list.items ++ i ∷ [] = cc (w.list-is, w.in_ok-push.ensures.items) in
          kept_more p i c.loop-node.list.items c.if-is_speaking.list.items (sym here ∙ w.if-is_speaking.true) c.loop-node.invariant more
      | else-is_speaking w ↦
          let same : c.if-is_speaking.list.items ≡ c.loop-node.list.items = cc w.list-is in
          same ∙ kept_same p i c.loop-node.list.items (sym here ∙ w.if-is_speaking.false) c.loop-node.invariant
    ]

pub returns : goal.returns
unfolding speaking
returns c =
    let e : c.loop-node.node ≡ length c.args.nodes.now = omega arith in
    c.loop-node.invariant ∙ ap (λ n. filter (speaks c.args.tokens.now (nodes_of c.args.nodes.now)) (range_with_len 0 n)) (e ∙ sym (length-nodes_of c.args.nodes.now))
