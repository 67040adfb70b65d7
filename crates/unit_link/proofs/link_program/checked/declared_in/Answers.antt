use Rattle.unit_link.proofs.link_program.Counting.{few, if_ok}
use Rattle.unit_link.proofs.link_program.checked.declared_in.Goals as goal

pub returns-clause-small : goal.returns-clause-small
returns-clause-small c = if_ok c.declarations.result (few c.args.units.now c.in_ok-_counts.ensures.small)
