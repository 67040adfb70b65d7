-- Programs that are one, but for numbers, take the same scripts.
use Rattle.twin_report_laws.proofs.outcome_laws.twin_locations.Whole.{twin_locations}
use Rattle.twin_report_laws.specs.outcome_laws.twin_scripts.Scripts.{read_with, TwinScripts}
use Rattle.twin_report_laws.proofs.outcome_laws.twin_scripts.Reading.{one_reading}
use Rattle.twin_report_laws.proofs.outcome_laws.twin_scripts.Settings.{same_words}

pub twin_scripts : TwinScripts
twin_scripts p q one other o made named other_made other_named s z =
    let (lead, again) = twin_locations p q o made named other_made other_named in
    let words = same_words p q o.to o.back o.forth lead one other s z in
    (words, one_reading (read_with p one) (read_with q other) words (same_words q p o.back o.to o.returned again other one z s))
