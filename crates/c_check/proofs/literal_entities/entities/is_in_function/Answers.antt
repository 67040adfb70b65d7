use Rattle.std.proofs.Common.{arith, ◌≤◌, ◌∙◌, length, is_some, ap, sym}
use Rattle.c_results.specs.Standing.{senses_made}
use Rattle.c_senses.specs.Sense.{sense_in}
use Rattle.tree_reads.specs.Sources.{source_read}
use Rattle.c_check.proofs.literal_entities.Past.{around_past}
use Rattle.c_check.proofs.literal_entities.entities.is_in_function.Goals as goal

pub returns-then-leaf-len : goal.returns-then-leaf-len
returns-then-leaf-len c = λ u.
    let past : length c.args.syntax.now.tree.now.nodes.items ≤ c.args.leaf = omega (arith, c.args.syntax.now.tree.now.nodes.ok) in
    ap is_some (sym (around_past (source_read c.args.syntax.now) (sense_in (senses_made u c.args.results.now)) c.args.leaf c.requires.first past))

pub returns : goal.returns
returns c = λ u. c.is_some.ensures ∙ ap is_some (c.function_around.ensures.name u)
