use Rattle.std.proofs.Common.{Some, ap, ◌∙◌}
use Rattle.core_tree.specs.Seen.{core_of}
use Rattle.ref_cells.specs.declared.cells.Value.{Value}
use Rattle.ref_start.proofs.FirstInstances.{named_fixed}
use Rattle.ref_start.proofs.fixed.value_by.Goals as goal

pub returns-in_ok-place_value-in-Some-clause-value : goal.returns-in_ok-place_value-in-Some-clause-value
returns-in_ok-place_value-in-Some-clause-value c =
    ap (λ (v : Value). Some v) c.in_ok-place_value-in-Some.ensures
    ∙ named_fixed (core_of c.args.trees.now) c.args.memory.now c.requires.range c.args.table.now c.args.standing.now c.args.n c.in-Some.i
    c.requires.table c.requires.standing c.in-Some.ensures
