use Rattle.std.proofs.Common.{Bool, ◌||◌, ap, ◌∙◌}
use Rattle.c_types.specs.Table.{type_of}
use Rattle.c_senses.specs.World.{has_size}
use Rattle.c_named.proofs.completeness.is_parameter_complete.Goals as goal

pub returns : goal.returns
returns c = λ w s sense knows completed.
    c.either.ensures
    ∙ (ap (λ (b : Bool). b || c.will_have_size-later.result) (c.has_size-sized.ensures w knows)
    ∙ ap (λ (b : Bool). has_size w (type_of c.args.unit.now.types c.args.ty.0) || b) (c.will_have_size-later.ensures w s sense completed))
