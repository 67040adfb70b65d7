use Rattle.std.proofs.Common.{◌≡◌, ◌++◌}
use Rattle.gen_units.specs.Generated.{function_lines}
use Rattle.gen_units.proofs.texts.add_all_functions.Given as goal

-- the text has what was added for the numbers so far
abbrev pub invariant-loop-number : goal.invariant-loop-number
invariant-loop-number l = l.text.items ≡ l.fn.text.items ++ function_lines l.count l.number
