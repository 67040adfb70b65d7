use Rattle.std.specs.Prelude.{zip}
use Rattle.std.proofs.lemmas.Result.{IfErr-weaker}
use Rattle.text_units.specs.Answers.{names_of}
use Rattle.report_cli.proofs.Linked.{fault_of_texts}
use Rattle.report_cli.proofs.solved.lower_texts.Goals as goal

pub returns-clause-refused : goal.returns-clause-refused
returns-clause-refused g c entries = IfErr-weaker c.lower_each.result _ _ (fault_of_texts entries (zip (names_of c.args.names.now) c.args.texts.now)) c.lower_each.ensures.refused
