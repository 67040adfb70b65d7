use Rattle.std.proofs.Common.{◌≡◌, ◌<◌, ℕ, true}
use Rattle.c_senses.specs.Tree.{is_name, spelling_at}
use Rattle.tree_reads.specs.Sources.{source_read}
use Rattle.c_statements.specs.Labels.{IsAscii}
use Rattle.unit_walk.proofs.unit_choices.names.names_are_ascii.Given as goal

-- the names so far are
abbrev pub invariant-loop-node : goal.invariant-loop-node
invariant-loop-node l = (name : ℕ) → name < l.node → is_name (source_read l.syntax) name ≡ true → IsAscii (spelling_at (source_read l.syntax) name)
