use Rattle.c_types.specs.Table.{type_of}
use Rattle.row_numbers.proofs.NumberingLemmas.{further_told}
use Rattle.row_numbers.proofs.numbering.takes_further.Goals as goal

pub returns : goal.returns
returns c = further_told _ (type_of c.args.types.now c.args.id.0) c.is_variadic.ensures
