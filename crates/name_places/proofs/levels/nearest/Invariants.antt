use Rattle.std.proofs.Common.{◌≡◌, ◌<◌, ◌-◌, length, IfSome}
use Rattle.c_senses.specs.Tree.{above_within, nearest_above}
use Rattle.tree_reads.specs.Sources.{source_read}
use Rattle.name_places.specs.Levels.{level_seen}
use Rattle.name_places.proofs.levels.nearest.Given as goal

-- what is asked of the levels that are left is what is asked of all
abbrev pub invariant-loop-step : goal.invariant-loop-step
invariant-loop-step l = record {
  within : IfSome l.next (λ p. p < length l.syntax.tree.now.nodes.items);
  rest : above_within (source_read l.syntax) (level_seen (source_read l.syntax) l.level) (length l.syntax.tree.now.nodes.items - l._step) l.next ≡ nearest_above (source_read l.syntax) (level_seen (source_read l.syntax) l.level) l.node;
}
