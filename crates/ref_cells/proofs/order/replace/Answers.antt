use Rattle.std.proofs.Common.{◌∙◌, rules}
use Rattle.ref_cells.proofs.Spliced.{vec_drained, spliced}
use Rattle.ref_cells.proofs.order.replace.Goals as goal

pub returns-clause-ok : goal.returns-clause-ok
returns-clause-ok c =
    let it = c.in_ok-_gone.ensures.items in
    spliced c.args.list.now.items it.1 c.args.inside.items c.splice.new.self.items c.args.from c.args.to
    (vec_drained it.0 it.1 c.args.inside.items it.2.0 (it.2.1 ∙ search rules) it.3) it.4
