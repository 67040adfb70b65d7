use Rattle.std.proofs.Common.{arith}
use Rattle.call_sites.proofs.SignatureLemmas.{pointers_length}
use Rattle.call_sites.proofs.signatures.are_void_pointers.Goals as goal

pub returns-in_default : goal.returns-in_default
returns-in_default c = (λ f. cc, λ e. let two = pointers_length _ _ e in absurd (omega arith))

pub returns-in_default-2 : goal.returns-in_default-2
returns-in_default-2 c = (λ f. cc, λ e. let two = pointers_length _ _ e in absurd (omega arith))
