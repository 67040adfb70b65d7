use Rattle.c_types.specs.Table.{types_of}
use Rattle.ref_calls.proofs.TypeLists.{one_differs, three_differ}
use Rattle.ref_calls.proofs.signatures.are_two_pointers.Goals as goal

pub returns-in-len1 : goal.returns-in-len1
returns-in-len1 c = one_differs (types_of c.args.types.now) c.args.parameters.now c.in-len1.len_at_least c.in-len1.len_below

pub returns-in-len3-up : goal.returns-in-len3-up
returns-in-len3-up c = three_differ (types_of c.args.types.now) c.args.parameters.now c.in-len3-up.len_at_least
