use Rattle.std.proofs.Common.{◌+◌, ap, arith}
use Rattle.link_units.proofs.link_entities.Linking.{node_span}
use Rattle.link_units.proofs.link_entities.entities.node_of.Goals as goal

pub overflow_add-result : goal.overflow_add-result
overflow_add-result c =
    let k = c.args.linking.now in
    let p = node_span k.scene.now.units.now k.node_starts.now c.args.unit c.args.node c.requires.linking.nodes c.requires.there in
    let is = p.start in
    let less = p.less in
    omega arith

pub returns : goal.returns
returns c =
    let k = c.args.linking.now in
    let p = node_span k.scene.now.units.now k.node_starts.now c.args.unit c.args.node c.requires.linking.nodes c.requires.there in
    ap (λ n. n + c.args.node) p.start
