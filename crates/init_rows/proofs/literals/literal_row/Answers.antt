use Rattle.std.proofs.Common.{ap, ◌∙◌, Err}
use Rattle.init_rows.specs.Literals.{fitting}
use Rattle.init_rows.proofs.LiteralLaws.{fitting_fault, core_same}
use Rattle.init_rows.proofs.literals.literal_row.Goals as goal

pub returns-in-Ok-clause-row : goal.returns-in-Ok-clause-row
returns-in-Ok-clause-row c = λ w uses told limited. ap fitting (c.in-None.ensures _ _ ∙ c.in-Ok.ensures.made w uses told limited)

pub returns-in-Err-clause-row : goal.returns-in-Err-clause-row
returns-in-Err-clause-row c = λ w uses told limited.
    fitting_fault c.literal_of.new.unit c.literal_of.new.unit c.in-Err.fault _ (core_same c.literal_of.new.unit (Err c.in-Err.fault) _ _ (c.in-None.ensures _ _) (c.in-Err.ensures.made w uses told limited))
