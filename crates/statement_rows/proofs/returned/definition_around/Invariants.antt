use Rattle.std.proofs.Common.{◌≡◌, ◌<◌, ◌-◌, length, IfSome}
use Rattle.c_senses.specs.Tree.{above_within, nearest_above}
use Rattle.tree_reads.specs.Sources.{source_read}
use Rattle.statement_rows.specs.Parts.{is_definition}
use Rattle.statement_rows.proofs.returned.definition_around.Given as goal

abbrev pub invariant-loop-step : goal.invariant-loop-step
invariant-loop-step l = record {
  within : IfSome l.next (λ p. p < length l.syntax.tree.now.nodes.items);
  rest : above_within (source_read l.syntax) (is_definition (source_read l.syntax)) (length l.syntax.tree.now.nodes.items - l._step) l.next ≡ nearest_above (source_read l.syntax) (is_definition (source_read l.syntax)) l.node;
}
