use Rattle.std.proofs.Common.{◌≡◌, ◌<◌, ◌-◌, length, IfSome}
use Rattle.c_grammar.specs.Productions.{p_block}
use Rattle.c_senses.specs.Tree.{is_a, above_within, nearest_above}
use Rattle.tree_reads.specs.Sources.{source_read}
use Rattle.c_initials.proofs.storage.block_above.Given as goal

abbrev pub invariant-loop-step : goal.invariant-loop-step
invariant-loop-step l = record {
  within : IfSome l.next (λ p. p < length l.syntax.tree.now.nodes.items);
  rest : above_within (source_read l.syntax) (is_a (source_read l.syntax) p_block) (length l.syntax.tree.now.nodes.items - l._step) l.next ≡ nearest_above (source_read l.syntax) (is_a (source_read l.syntax) p_block) l.node;
}
