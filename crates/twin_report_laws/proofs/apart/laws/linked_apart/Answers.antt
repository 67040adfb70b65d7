use Rattle.twin_report_laws.proofs.apart.Linking.{linked_apart}
use Rattle.twin_report_laws.proofs.apart.laws.linked_apart.Goals as goal

pub returns : goal.returns
returns c = λ entered. linked_apart {entered = entered}
