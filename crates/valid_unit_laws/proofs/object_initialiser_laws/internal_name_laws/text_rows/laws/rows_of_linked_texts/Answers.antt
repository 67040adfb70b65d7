use Rattle.valid_unit_laws.proofs.object_initialiser_laws.internal_name_laws.text_rows.Linked.{rows_of_linked_texts}
use Rattle.valid_unit_laws.proofs.object_initialiser_laws.internal_name_laws.text_rows.laws.rows_of_linked_texts.Goals as goal

pub returns : goal.returns
returns c = rows_of_linked_texts
