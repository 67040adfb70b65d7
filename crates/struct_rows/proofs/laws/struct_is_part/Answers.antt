use Rattle.struct_rows.proofs.Building.{struct_part}
use Rattle.struct_rows.proofs.laws.struct_is_part.Goals as goal

pub returns : goal.returns
returns c = struct_part
