use Rattle.std.proofs.Common.{◌+◌, ℕ, List, length, get_or, drop, length-drop, sym, ap, subst, ◌∙◌, arith, OnOk}
use Rattle.link_units.specs.link_whole.Placed.{AreNamed}
use Rattle.link_units.specs.Nodes.{AreAdded}
use Rattle.link_units.proofs.Noding.{entities_from, named_more}
use Rattle.link_units.proofs.nodes.add_unit.Goals as goal

pub add_nodes-requires-clause-few : goal.add_nodes-requires-clause-few
add_nodes-requires-clause-few c = (let fits = c.type_inv.node_starts (c.args.u + 1) in let step = c.requires.step in omega arith)

pub add_nodes-requires-clause-types : goal.add_nodes-requires-clause-types
add_nodes-requires-clause-types c = c.requires.types

pub add_nodes-requires-clause-named : goal.add_nodes-requires-clause-named
add_nodes-requires-clause-named c =
    let numbers = c.args.numbers.now.numbers.items in
    let start = get_or c.args.numbers.now.starts.items c.args.u 0 in
    let w = c.requires.within in
    let long = length-drop start numbers in
    subst (λ (l : List ℕ). AreNamed (length l) c.args.nodes.items) (sym c.entities_from-entities.ensures) (named_more c.requires.entities (length (drop start numbers)) c.args.nodes.items (omega arith) c.requires.named)

pub returns : goal.returns
returns c =
    let read : List ℕ → ℕ → ℕ = λ l e. get_or l e 0 in
    let f = ap read c.entities_from-entities.ensures ∙ entities_from c.args.numbers.now c.args.u in
    subst (λ (g : ℕ → ℕ). OnOk c.add_nodes.result (AreAdded (get_or c.args.type_starts.now c.args.u 0) (get_or c.args.node_starts.now c.args.u 0) g c.args.nodes.items c.args.list.now.items c.add_nodes.new.list.items)) f c.add_nodes.ensures
