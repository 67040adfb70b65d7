use Rattle.core_tree.specs.Typed.{trees_in}
use Rattle.core_valid.proofs.Whole.{all_types, valid_checked, program_from, program_linked}
use Rattle.core_valid.proofs.unit.valid_program.Goals as goal

pub program_linked-requires : goal.program_linked-requires
program_linked-requires c =
    all_types (trees_in c.args.program.now) (c.program_checked.ensures.0 c.if-program_checked.true).range

pub returns-then-program_checked : goal.returns-then-program_checked
returns-then-program_checked c =
    (λ t. program_from c.args.program.now (c.program_checked.ensures.0 c.if-program_checked.true) (c.program_linked.ensures.0 t), λ h. c.program_linked.ensures.1 (program_linked c.args.program.now h))

pub returns-else-program_checked : goal.returns-else-program_checked
returns-else-program_checked c =
    (λ t. cc, λ h. c.program_checked.ensures.1 (valid_checked (trees_in c.args.program.now) h.trees))
