use Rattle.core_tree.specs.Typed.{trees_of}
use Rattle.core_valid.proofs.Whole.{checked_valid, valid_checked}
use Rattle.core_valid.proofs.unit.valid_unit.Goals as goal

pub unit_alone-requires : goal.unit_alone-requires
unit_alone-requires c = (c.unit_checked.ensures.0 c.if-unit_checked.true).range

pub returns-then-unit_checked : goal.returns-then-unit_checked
returns-then-unit_checked c = (
  λ t. let alone = c.unit_alone.ensures.0 t in record { trees = checked_valid (trees_of c.args.unit.now) (c.unit_checked.ensures.0 c.if-unit_checked.true); keys = alone.0; linkages = alone.1 },
  λ h. c.unit_alone.ensures.1 (h.keys, h.linkages),
)

pub returns-else-unit_checked : goal.returns-else-unit_checked
returns-else-unit_checked c =
    (λ t. cc, λ h. c.unit_checked.ensures.1 (valid_checked (trees_of c.args.unit.now) h.trees))
