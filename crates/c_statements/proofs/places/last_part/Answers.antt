use Rattle.c_statements.proofs.Own.{last_read}
use Rattle.c_statements.proofs.places.last_part.Goals as goal

pub returns : goal.returns
returns c = λ first rest e. last_read c.args.children.now first rest e
