use Rattle.c_types.specs.Table.{types_of}
use Rattle.type_rules.proofs.Parts.{listed_scalars, scalars_listed}
use Rattle.type_rules.proofs.kinds.are_scalars.Goals as goal

pub returns : goal.returns
returns c =
    let trees = types_of c.args.types.now in (
      λ t. listed_scalars trees c.args.ids.now (c.each_scalar.ensures.0 t),
      λ h. c.each_scalar.ensures.1 (scalars_listed trees c.args.ids.now h),
    )
