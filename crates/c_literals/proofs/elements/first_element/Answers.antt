use Rattle.std.proofs.Common.{sym, ◌∙◌, arith}
use Rattle.std.proofs.lemmas.List.{take_rest}
use Rattle.c_literals.proofs.Inside.{escaped_element, plain_element}
use Rattle.c_literals.proofs.elements.first_element.Goals as goal

pub returns-then-byte-eq92 : goal.returns-then-byte-eq92
returns-then-byte-eq92 c =
    let e = c.escape_before-escape.ensures in
    escaped_element c.args.inside.now _ _ _ _ c.in-len1-up.len_at_least (take_rest c.args.inside.now 1) c.if-byte-eq92.true e.value e.length c.behind_first.ensures

pub returns : goal.returns
returns c =
    plain_element c.args.inside.now _ _ c.in-len1-up.len_at_least (take_rest c.args.inside.now 1) c.from.ensures (λ h. c.if-byte-eq92.false (sym c.from.ensures ∙ h))
    (omega (arith, c.type_inv.inside 0, c.from.ensures))
