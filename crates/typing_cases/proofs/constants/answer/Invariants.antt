use Rattle.c_consts.specs.Nodes.{AreRows}
use Rattle.typing_cases.proofs.constants.answer.Given as goal

abbrev pub invariant-loop-word : goal.invariant-loop-word
invariant-loop-word l = AreRows l.sheet.types l.sheet.nodes.items
