use Rattle.std.proofs.Common.{refl}
use Rattle.call_sites.specs.Signatures.{known}
use Rattle.call_sites.proofs.signatures.function_signature.Goals as goal

pub returns-in-Some : goal.returns-in-Some
returns-in-Some c =
    known
    (record {
      no_comparison = λ e. let yes = c.is_comparison.ensures.1 e in cc;
      not_at_end = λ e. let yes = c.is_at_end.ensures.1 e in cc;
    })
    (rw (c.in-Some.is, c.in_ok-term.ensures) at c.in_ok-id.ensures)
    refl
