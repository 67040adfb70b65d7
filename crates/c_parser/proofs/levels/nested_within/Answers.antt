use Rattle.std.proofs.Common.{sym, arith}
use Rattle.c_parser.proofs.Chains.{nested_three, nested_two, nested_one}
use Rattle.c_parser.proofs.levels.nested_within.Goals as goal

pub returns-then-level-le-ASSIGNMENT-clause-is : goal.returns-then-level-le-ASSIGNMENT-clause-is
returns-then-level-le-ASSIGNMENT-clause-is c = sym (nested_three c.args.level (omega (arith, c.requires.from)) (omega arith))

pub returns-then-level-le-CONDITIONAL-clause-is : goal.returns-then-level-le-CONDITIONAL-clause-is
returns-then-level-le-CONDITIONAL-clause-is c = sym (nested_two c.args.level (omega arith) (omega arith))

pub returns-else-level-le-CONDITIONAL-clause-is : goal.returns-else-level-le-CONDITIONAL-clause-is
returns-else-level-le-CONDITIONAL-clause-is c = sym (nested_one c.args.level (omega arith) (omega (arith, c.requires.to)))
