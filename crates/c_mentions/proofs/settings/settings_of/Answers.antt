use Rattle.std.proofs.Common.{◌≡◌, ◌<◌, ◌≤◌, ◌+◌, ◌-◌, ℕ, List, true, eqb, eqb-true, length, get_or, sym, ap, ◌∙◌, subst, arith}
use Rattle.std.proofs.lemmas.List.{nil_from_length}
use Rattle.c_grammar.specs.Reads.{Node, node_of}
use Rattle.c_mentions.specs.Syntax.{nodes_of}
use Rattle.c_mentions.specs.declared.settings.Setting.{Setting}
use Rattle.c_mentions.specs.Kept.{nowhere}
use Rattle.c_mentions.specs.Settings.{Stands, Hands, standings, outermost}
use Rattle.c_mentions.proofs.Nodes.{length-nodes_of, get_or-nodes_of}
use Rattle.c_mentions.proofs.Handing.{Behind, behind_more, behind_leaf}
use Rattle.c_mentions.proofs.settings.settings_of.Goals as goal

-- a node without children hands down nothing
pub loop-node-preserved : goal.loop-node-preserved
loop-node-preserved c =
    let tokens = c.args.tokens.now in
    let nodes : List Node = nodes_of c.args.nodes.now in
    let count : length nodes ≡ length c.args.nodes.now = length-nodes_of c.args.nodes.now in
    let m : ℕ = c.loop-node.node - 1 in
    let above : 0 < c.loop-node.node = c.loop-node-test.true in
    let within_nodes : c.loop-node.node ≤ length c.args.nodes.now = c.loop-node.invariant.0 in
    let next : c.loop-node.node ≡ m + 1 = omega arith in
    let node : Node = node_of c.index-nodes-node.result in
    let scopes = c.loop-node.scopes.items in
    let at : node ≡ get_or nodes m node = ap node_of c.index-nodes-node.is ∙ sym (get_or-nodes_of c.args.nodes.now m c.index-nodes-node.result) in
    let children = c.as_slice-children.ensures.value ∙ ap (λ n. n.children.items) (sym c.index-nodes-node.is) in
    let empty : eqb (length node.children) 0 ≡ true = ap (λ l. eqb (length l) 0) (sym children) ∙ (sym c.is_empty.ensures ∙ c.if-not-is_empty.false) in
    let behind : Behind tokens nodes scopes c.loop-node.list (m + 1) = subst (λ n. Behind tokens nodes scopes c.loop-node.list n) next c.loop-node.invariant.2 in
    let within : m < length nodes = omega arith in (omega arith, c.loop-node.invariant.1, behind_leaf tokens nodes m scopes c.loop-node.list node within at (nil_from_length node.children (eqb-true (length node.children) 0 empty)) behind)

pub loop-node-preserved-in-Continue-branch-3 : goal.loop-node-preserved-in-Continue-branch-3
loop-node-preserved-in-Continue-branch-3 c =
    let tokens = c.args.tokens.now in
    let nodes : List Node = nodes_of c.args.nodes.now in
    let count : length nodes ≡ length c.args.nodes.now = length-nodes_of c.args.nodes.now in
    let m : ℕ = c.loop-node.node - 1 in
    let above : 0 < c.loop-node.node = c.loop-node-test.true in
    let within_nodes : c.loop-node.node ≤ length c.args.nodes.now = c.loop-node.invariant.0 in
    let next : c.loop-node.node ≡ m + 1 = omega arith in
    let node : Node = node_of c.index-nodes-node.result in
    let d : Setting = nowhere in
    let scopes = c.loop-node.scopes.items in
    let newer = c.hand_down.new.scopes.items in
    let at : node ≡ get_or nodes m node = ap node_of c.index-nodes-node.is ∙ sym (get_or-nodes_of c.args.nodes.now m c.index-nodes-node.result) in
    let children = c.as_slice-children.ensures.value ∙ ap (λ n. n.children.items) (sym c.index-nodes-node.is) in
    let down = c.in_ok-hand_down.ensures d in
    let given : Hands node.children m down.within c.loop-node.list c.hand_down.new.list = subst (λ l. Hands l m down.within c.loop-node.list c.hand_down.new.list) children down.hands in
    let behind : Behind tokens nodes scopes c.loop-node.list (m + 1) = subst (λ n. Behind tokens nodes scopes c.loop-node.list n) next c.loop-node.invariant.2 in
    let within : m < length nodes = omega arith in (
      omega arith,
      down.hands.count ∙ c.loop-node.invariant.1,
      behind_more tokens nodes m scopes newer c.loop-node.list c.hand_down.new.list down.within d node within at down.extends down.stands given behind,
    )

pub returns : goal.returns
returns c =
    let tokens = c.args.tokens.now in
    let nodes : List Node = nodes_of c.args.nodes.now in
    let end : c.loop-node.node ≡ 0 = omega arith in
    let behind : Behind tokens nodes c.loop-node.scopes.items c.loop-node.list 0 = subst (λ n. Behind tokens nodes c.loop-node.scopes.items c.loop-node.list n) end c.loop-node.invariant.2 in
    record {
      count = c.loop-node.invariant.1 ∙ sym (length-nodes_of c.args.nodes.now);
      each = λ i d l.
          let e : i + 0 ≡ i = omega arith in
          subst (λ k. Stands c.loop-node.scopes.items (get_or c.loop-node.list k d) (get_or (standings tokens nodes 0 nodes) i (outermost (length nodes)))) e (behind.1 i d (omega arith));
    }
