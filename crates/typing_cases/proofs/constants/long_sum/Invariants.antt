use Rattle.c_consts.specs.Nodes.{AreRows}
use Rattle.typing_cases.proofs.constants.long_sum.Given as goal

abbrev pub invariant-terms : goal.invariant-terms
invariant-terms l = AreRows l.sheet.types l.sheet.nodes.items
