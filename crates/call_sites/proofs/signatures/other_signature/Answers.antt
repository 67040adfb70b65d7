use Rattle.std.proofs.Common.{refl}
use Rattle.call_sites.specs.Signatures.{known}
use Rattle.call_sites.proofs.signatures.other_signature.Goals as goal

pub returns-in-Some : goal.returns-in-Some
returns-in-Some c = known c.requires.other (rw c.in-Some.is at c.in_ok-id.ensures) refl
