use Rattle.std.proofs.Common.{◌≡◌, ℕ, drop}
use Rattle.c_senses.specs.World.{World}
use Rattle.c_senses.specs.Sense.{Sense}
use Rattle.c_senses.specs.Statements.{behind_semicolon}
use Rattle.tree_reads.specs.Sources.{source_read}
use Rattle.c_statements.proofs.fors.behind_semicolon.Given as goal

abbrev pub invariant-loop-i : goal.invariant-loop-i
invariant-loop-i l = (w : World) (sense : ℕ → Sense) → behind_semicolon w (source_read l.syntax) sense (drop l.i l.list) ≡ behind_semicolon w (source_read l.syntax) sense l.list
