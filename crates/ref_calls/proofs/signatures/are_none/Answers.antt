use Rattle.ref_calls.proofs.TypeLists.{none_same}
use Rattle.ref_calls.proofs.signatures.are_none.Goals as goal

pub returns-in-len1-up : goal.returns-in-len1-up
returns-in-len1-up c = λ trees. none_same trees c.args.parameters.now c.in-len1-up.len_at_least
