use Rattle.question_desk.proofs.Keeps.{joins, finds}
use Rattle.question_desk.proofs.Finishing.{finished, kept_order}
use Rattle.question_desk.proofs.desk.Desk.finish.Goals as goal

pub absorb-requires-clause-rule : goal.absorb-requires-clause-rule
absorb-requires-clause-rule g c = joins _ _ _ _

pub absorb-requires-2-clause-rule : goal.absorb-requires-2-clause-rule
absorb-requires-2-clause-rule g c = joins _ _ _ _

pub len_as-requires-clause-rule : goal.len_as-requires-clause-rule
len_as-requires-clause-rule g c = finds _ _

pub returns : goal.returns
returns g c =
    let a = c.args.first in
    let b = c.args.second in
    let t = c.args.taker in
    kept_order _ _ _ _ _
    (finished _ _ _ _ _ _ _ c.requires.numbers.0 c.requires.numbers.1 a.role b.role t.role c.absorb.ensures.rule c.absorb-2.ensures.rule)
    c.len_as.ensures.rule.1
