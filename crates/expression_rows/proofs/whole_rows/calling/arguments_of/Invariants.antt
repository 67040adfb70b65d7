use Rattle.c_senses.specs.Sense.{sense_in}
use Rattle.c_results.specs.Standing.{senses_made}
use Rattle.tree_reads.specs.Sources.{source_read}
use Rattle.expression_rows.proofs.whole_rows.Arguments.{Gathered}
use Rattle.expression_rows.proofs.whole_rows.calling.arguments_of.Given as goal

-- the trees so far stand before those of the parts that are left
abbrev pub invariant-loop-k : goal.invariant-loop-k
invariant-loop-k l = Gathered l.unit (source_read l.syntax) (sense_in (senses_made l.unit l.results)) l.at l.parts l.k l.nodes.items
