use Rattle.std.proofs.Common.{subst}
use Rattle.c_types.specs.declared.term.Term.{Term}
use Rattle.c_types.specs.Made.{IsSized}
use Rattle.core_nodes.proofs.integers.integer_of.Goals as goal

pub returns-in-Integer-clause-size : goal.returns-in-Integer-clause-size
returns-in-Integer-clause-size c =
    subst (λ (t : Term). IsSized t) c.in-Integer.is (c.type_count-count.ensures.made.sizes c.args.ty.0 c.term.result.now c.term.ensures.value)
