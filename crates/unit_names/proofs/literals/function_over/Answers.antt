use Rattle.std.proofs.Common.{arith, ◌≤◌, length, sym}
use Rattle.c_results.specs.Standing.{senses_made}
use Rattle.c_senses.specs.Sense.{sense_in}
use Rattle.tree_reads.specs.Sources.{source_read}
use Rattle.unit_names.proofs.Past.{around_past}
use Rattle.unit_names.proofs.literals.function_over.Goals as goal

pub returns-then-leaf-len-clause-name : goal.returns-then-leaf-len-clause-name
returns-then-leaf-len-clause-name c = λ u.
    let past : length c.args.syntax.now.tree.now.nodes.items ≤ c.args.leaf = omega (arith, c.args.syntax.now.tree.now.nodes.ok) in
    sym (around_past (source_read c.args.syntax.now) (sense_in (senses_made u c.args.results.now)) c.args.leaf c.requires.first past)
