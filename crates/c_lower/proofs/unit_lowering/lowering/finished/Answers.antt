use Rattle.std.proofs.Common.{◌≡◌, ◌∙◌, ◌++◌, List, map, ap, sym, subst}
use Rattle.std.specs.Prelude.{MatchResult}
use Rattle.core_tree.specs.declared.node.Node.{Node}
use Rattle.core_nodes.specs.declared.fault.CheckFault.TheVariants.{OutOfMemory}
use Rattle.c_results.specs.Standing.{senses_made}
use Rattle.tree_reads.specs.Sources.{source_in}
use Rattle.unit_finish.specs.declared.unit_parts.declared.Declared.{Declared}
use Rattle.unit_finish.specs.unit_parts.Renamed.{literals_in}
use Rattle.unit_finish.specs.Complete.{AlwaysCompletes}
use Rattle.unit_finish.specs.Walked.{literal_entry}
use Rattle.c_lower.proofs.unit_lowering.Ending.{completed_types}
use Rattle.c_lower.proofs.unit_lowering.lowering.finished.Goals as goal

pub finish-requires : goal.finish-requires
finish-requires c =
    let u = c.requires.completes.0 in
    let uses = c.requires.completes.1 in
    let h = c.args.heading in
    let entry = literal_entry (source_in c.args.syntax.now uses) (senses_made u c.args.results) in
    let entries = c.in-Ok.ensures.entries u uses ∙ ap (λ (nodes : List Node). map entry (literals_in nodes)) c.as_slice-nodes.ensures.value in
    subst (λ (l : List Declared). AlwaysCompletes h.name h.unit c.args.types c.args.keys.items c.args.kept.nodes.items (c.args.kept.names.items ++ l)) (sym entries) c.requires.completes.2

pub returns-clause-types : goal.returns-clause-types
returns-clause-types c =
    let h = c.args.heading in
    completed_types h.name h.unit c.args.types c.args.keys.items c.args.kept.nodes.items (c.args.kept.names.items ++ c.in-Ok.literals.items) c.finish.result c.finish.ensures.completes

pub returns-clause-right : goal.returns-clause-right
returns-clause-right c = λ u walked uses list ready types number is_walked is_kept.
    let s = source_in c.args.syntax.now uses in
    let senses = senses_made u c.args.results in
    let entries = c.in-Ok.ensures.entries u uses ∙ ap (λ (nodes : List Node). map (literal_entry s senses) (literals_in nodes)) c.as_slice-nodes.ensures.value in
    c.finish.ensures.right s senses walked list ready types number is_walked is_kept entries

pub declared_literals-requires-clause-names : goal.declared_literals-requires-clause-names
declared_literals-requires-clause-names c = c.requires.names

pub declared_literals-requires-clause-named : goal.declared_literals-requires-clause-named
declared_literals-requires-clause-named c = c.requires.named
