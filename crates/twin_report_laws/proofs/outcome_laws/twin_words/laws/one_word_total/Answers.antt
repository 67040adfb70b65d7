use Rattle.twin_report_laws.proofs.outcome_laws.twin_words.Whole.{one_word_total}
use Rattle.twin_report_laws.proofs.outcome_laws.twin_words.laws.one_word_total.Goals as goal

pub returns : goal.returns
returns c = λ entered. one_word_total {entered = entered}
