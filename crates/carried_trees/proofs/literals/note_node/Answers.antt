use Rattle.std.proofs.lemmas.Result.{on_ok_weaker}
use Rattle.carried_trees.proofs.Listing.{not_listed}
use Rattle.carried_trees.proofs.literals.note_node.Goals as goal

pub returns-in-Literal-clause-numbered : goal.returns-in-Literal-clause-numbered
returns-in-Literal-clause-numbered c = on_ok_weaker c.note.result (λ h nodes from first count numbered there at. h nodes from first count c.args.node.now numbered there c.in-Literal.is at) c.note.ensures.numbered

pub returns-in_default : goal.returns-in_default
returns-in_default c = record {
  numbered = λ nodes from first count numbered there at. not_listed nodes from first count c.args.own.now c.args.node.now numbered there c.in_default.not-Literal;
  memory = tt;
}
