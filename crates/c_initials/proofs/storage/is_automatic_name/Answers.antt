use Rattle.std.proofs.Common.{◌∙◌, ap, not}
use Rattle.c_senses.specs.Sense.{sense_in}
use Rattle.c_results.specs.Standing.{senses_made}
use Rattle.tree_reads.specs.Sources.{source_read}
use Rattle.c_initials.proofs.StorageLaws.{parameter_is, function_isnt, object_is}
use Rattle.c_initials.proofs.storage.is_automatic_name.Goals as goal

pub returns-then-is_parameter : goal.returns-then-is_parameter
returns-then-is_parameter c = λ u functions.
    let s = source_read c.args.scope.now.syntax.now in
    let sense = sense_in (senses_made u c.args.scope.now.results.now) in
    parameter_is s sense c.args.leaf (c.if-is_parameter.ensures sense)

pub returns-then-is_function : goal.returns-then-is_function
returns-then-is_function c = λ u functions.
    let s = source_read c.args.scope.now.syntax.now in
    let sense = sense_in (senses_made u c.args.scope.now.results.now) in
    function_isnt s sense c.args.leaf (c.if-is_parameter.ensures sense) (c.if-is_function.ensures ∙ functions c.args.leaf)

pub returns : goal.returns
returns c = λ u functions.
    let s = source_read c.args.scope.now.syntax.now in
    let sense = sense_in (senses_made u c.args.scope.now.results.now) in
    ap not (c.is_static_object.ensures u) ∙ object_is s sense c.args.leaf (c.if-is_parameter.ensures sense) (c.if-is_function.ensures ∙ functions c.args.leaf)
