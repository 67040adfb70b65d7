-- The rows of expressions as they are built (C11 6.5): all, but primaries whose constants and strings no reading of
-- a text takes say that they aren't.
use Rattle.std.specs.Prelude.{ℕ, ◌==◌, List, if◌then◌else◌}
use Rattle.c_grammar.specs.Productions.{p_primary}
use Rattle.c_senses.specs.Tree.{Source}
use Rattle.c_senses.specs.Given.{Given}
use Rattle.c_senses.specs.World.{World}
use Rattle.c_senses.specs.Sense.{Sense}
use Rattle.c_senses.specs.Expressions.{expression_row}
use Rattle.expression_rows.specs.c_rows.Built.{built_primary}

abbrev pub built_row : World → Source → (ℕ → Sense) → ℕ → ℕ → List ℕ → Given Sense
built_row w s sense production at children =
    if production == p_primary then built_primary w s sense at children
    else expression_row w s sense production at children
