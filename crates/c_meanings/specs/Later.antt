-- Senses when more has been made.
use Rattle.std.specs.Prelude.{ℕ, List, ◌++◌}
use Rattle.core_tree.specs.declared.node.Unit.{Unit}
use Rattle.c_senses.specs.Sense.{Sense, sense_in}
use Rattle.c_results.specs.declared.made.Made.{Made}
use Rattle.c_results.specs.Standing.{senses_made}

-- the senses of nodes when more has been made
abbrev pub later : Unit → List Made → List Made → ℕ → Sense
later u results more = sense_in (senses_made u (results ++ more))
