use Rattle.c_types.specs.Table.{type_of}
use Rattle.core_nodes.proofs.Growing.{builds_on}
use Rattle.c_initials.proofs.ValueLaws.{value_sorted, conversion_keeps, converted_value}
use Rattle.c_initials.proofs.values.expression.Goals as goal

pub returns-in-Ok-clause-builds : goal.returns-in-Ok-clause-builds
returns-in-Ok-clause-builds c = builds_on c.args.unit.now c.value.new.unit c.conversion.new.unit c.value.ensures.builds c.conversion.ensures.builds

pub returns-in-Ok-clause-rows : goal.returns-in-Ok-clause-rows
returns-in-Ok-clause-rows c =
    conversion_keeps c.value.new.unit c.conversion.new.unit c.args.init c.in-Ok.v (type_of c.value.new.unit.types c.args.ty.0) c.conversion.result
    (value_sorted c.args.unit.now c.value.new.unit c.args.init c.args.node c.in-Ok.v c.requires.rows c.in-Ok.ensures.made) c.conversion.ensures.made

pub returns-in-Ok-clause-made : goal.returns-in-Ok-clause-made
returns-in-Ok-clause-made c = λ w k.
    converted_value w c.args.unit.now c.value.new.unit c.conversion.new.unit c.args.init c.args.node c.in-Ok.v c.args.ty.0 c.conversion.result k c.value.ensures.builds c.requires.ty
    (c.in-Ok.ensures.made w k) c.conversion.ensures.made
