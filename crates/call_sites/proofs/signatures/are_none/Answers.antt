use Rattle.std.proofs.Common.{arith}
use Rattle.call_sites.proofs.SignatureLemmas.{none_length}
use Rattle.call_sites.proofs.signatures.are_none.Goals as goal

pub returns-in-len1-up : goal.returns-in-len1-up
returns-in-len1-up c trees = (λ f. cc, λ e. let none = none_length trees _ e in absurd (omega arith))
