use Rattle.std.proofs.Common.{◌≤◌, length, refl, sym, ap, ◌∙◌, subst}
use Rattle.c_types.specs.Trees.{Ctype, grow, tree_at}
use Rattle.c_types.specs.Table.{types_of}
use Rattle.type_rules.specs.Sizes.{HasSignature}
use Rattle.type_rules.proofs.Parts.{listed_signature}
use Rattle.type_rules.proofs.sizes.has_signature.Goals as goal

pub returns-in-len1-up : goal.returns-in-len1-up
returns-in-len1-up c =
    let trees = types_of c.args.types.now in
    let e = c.term.ensures.tree ∙ ap (grow trees) c.in-Function.is in
    let many : 1 ≤ length c.in-Function.parameters = rw (← c.as_slice.ensures) c.in-len1-up.len_at_least in
    (λ h. subst (λ (t : Ctype). HasSignature c.args.types.now t) (sym e) (listed_signature c.args.types.now trees c.in-Function.parameters (tree_at trees c.in-Function.given.0) c.in-Function.form many), λ h. refl)
