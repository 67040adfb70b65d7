use Rattle.std.proofs.Common.{arith, ◌<◌, ℕ, get_or, subst}
use Rattle.std.proofs.lemmas.List.{get_or_default}
use Rattle.c_check.proofs.reaching.are_bytes.Goals as goal

pub returns : goal.returns
returns c = λ k d inside.
    let byte : get_or c.args.text.now k 0 < 256 = omega (arith, c.type_inv.text k) in
    subst (λ (n : ℕ). n < 256) (get_or_default c.args.text.now k 0 d inside) byte
