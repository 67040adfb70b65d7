use Rattle.std.proofs.Common.{arith, ◌<◌, not, length, refl, sym, ap, ◌∙◌}
use Rattle.std.proofs.lemmas.Bool.{lt-ltb}
use Rattle.name_uses.proofs.named.object_named.Goals as goal

pub returns-clause-named : goal.returns-clause-named
returns-clause-named c = λ w u v uses may.
    let n = length c.args.syntax.now.tree.now.nodes.items in
    let below : c.args.entity < n = omega arith in
    ((refl, may c.args.entity ∙ sym (c.may_name-allowed.ensures v uses)), ap not (lt-ltb c.args.entity n below))
