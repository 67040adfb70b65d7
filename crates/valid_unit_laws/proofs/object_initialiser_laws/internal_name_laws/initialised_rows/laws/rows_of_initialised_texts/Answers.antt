use Rattle.valid_unit_laws.proofs.object_initialiser_laws.internal_name_laws.initialised_rows.Owning.{rows_of_initialised_texts}
use Rattle.valid_unit_laws.proofs.object_initialiser_laws.internal_name_laws.initialised_rows.laws.rows_of_initialised_texts.Goals as goal

pub returns : goal.returns
returns c = rows_of_initialised_texts
