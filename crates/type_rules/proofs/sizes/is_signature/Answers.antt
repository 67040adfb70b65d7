use Rattle.std.proofs.Common.{◌≡◌, ◌≤◌, length, ap, ◌∙◌}
use Rattle.c_types.specs.Trees.{NoTypes, grow, trees_at}
use Rattle.c_types.specs.Table.{types_of}
use Rattle.type_rules.proofs.Parts.{more_types}
use Rattle.type_rules.proofs.sizes.is_signature.Goals as goal

pub returns-in-len1-up : goal.returns-in-len1-up
returns-in-len1-up c =
    let trees = types_of c.args.types.now in
    let e = c.term.ensures.tree ∙ ap (grow trees) c.in-Function.is in
    let many : 1 ≤ length c.in-Function.parameters = rw (← c.as_slice.ensures) c.in-len1-up.len_at_least in
    (λ h. cc, λ h. absurd (more_types trees c.in-Function.parameters many (let none : trees_at trees c.in-Function.parameters ≡ NoTypes = cc in none)))
