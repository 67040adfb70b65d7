use Rattle.new_members.proofs.Taking.{takes_one}
use Rattle.round_settling.proofs.settling.add_once.Goals as goal

pub returns-clause-facts : goal.returns-clause-facts
returns-clause-facts c = (takes_one c.args.facts.now c.add.new.self c.args.row c.args.location c.in_ok-add.field-0 c.in_ok-add.ensures.added c.in_ok-add.ensures.new).gains
