use Rattle.std.proofs.Common.{arith, ◌≤◌, false, length, ◌∙◌}
use Rattle.c_senses.specs.Sense.{sense_in}
use Rattle.c_results.specs.Standing.{senses_made}
use Rattle.tree_reads.specs.Sources.{source_in}
use Rattle.tree_reads.specs.Sources.{source_read}
use Rattle.statement_rows.proofs.Placing.{typedef_name, function_name, object_name, not_placed}
use Rattle.statement_rows.proofs.objects.is_automatic_object.Goals as goal

pub returns-then-is_typedef : goal.returns-then-is_typedef
returns-then-is_typedef c = λ u w uses.
    let sense = sense_in (senses_made u c.args.results.now) in
    typedef_name w (source_in c.args.syntax.now uses) sense c.args.leaf (c.if-is_typedef.ensures ∙ c.requires.kinds.typedefs sense c.args.leaf)

pub returns-then-is_function : goal.returns-then-is_function
returns-then-is_function c = λ u w uses.
    let sense = sense_in (senses_made u c.args.results.now) in
    function_name w (source_in c.args.syntax.now uses) sense c.args.leaf (c.if-is_function.ensures ∙ c.requires.kinds.functions sense c.args.leaf)

pub returns-then-leaf-len : goal.returns-then-leaf-len
returns-then-leaf-len c = λ u w uses.
    let s = source_in c.args.syntax.now uses in
    let sense = sense_in (senses_made u c.args.results.now) in
    let past : length c.args.syntax.now.tree.now.nodes.items ≤ c.args.leaf = omega arith in
    object_name w s sense c.args.leaf false (c.if-is_typedef.ensures ∙ c.requires.kinds.typedefs sense c.args.leaf) (c.if-is_function.ensures ∙ c.requires.kinds.functions sense c.args.leaf)
    (not_placed (source_read c.args.syntax.now) c.requires.ordered c.args.leaf past sense)

pub returns : goal.returns
returns c = λ u w uses.
    let s = source_in c.args.syntax.now uses in
    let sense = sense_in (senses_made u c.args.results.now) in
    object_name w s sense c.args.leaf c.is_placed.result (c.if-is_typedef.ensures ∙ c.requires.kinds.typedefs sense c.args.leaf) (c.if-is_function.ensures ∙ c.requires.kinds.functions sense c.args.leaf)
    (c.is_placed.ensures u uses)
