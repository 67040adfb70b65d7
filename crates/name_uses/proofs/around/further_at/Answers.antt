use Rattle.std.proofs.Common.{None, sym, ◌∙◌}
use Rattle.core_nodes.specs.Standing.{core_at}
use Rattle.expression_rows.specs.c_rows.Lists.{named_leaf}
use Rattle.name_uses.proofs.Further.{leaf_by, leaf_none}
use Rattle.name_uses.proofs.around.further_at.Goals as goal

pub returns-in-Some : goal.returns-in-Some
returns-in-Some c = λ w uses is.
    let u = c.args.unit.now in
    leaf_by w c.further_of.result c.in-Some.leaf (named_leaf (core_at u c.args.node)) c.in-Some.ensures (is w c.in-Some.leaf ∙ sym (c.further_of.ensures u w uses))

pub returns-in-None : goal.returns-in-None
returns-in-None c = λ w uses is. leaf_none w None (named_leaf (core_at c.args.unit.now c.args.node)) c.in-None.ensures
