use Rattle.std.proofs.Common.{sym, ap, ◌∙◌, not}
use Rattle.c_senses.specs.Sense.{sense_in}
use Rattle.c_senses.specs.Initialised.{is_automatic}
use Rattle.c_results.specs.Standing.{senses_made}
use Rattle.tree_reads.specs.Sources.{source_read}
use Rattle.c_initials.specs.Fixed.{is_firm}
use Rattle.c_initials.proofs.placing.is_held.Goals as goal

pub returns-in-Some : goal.returns-in-Some
returns-in-Some c = λ u w told.
    let s = source_read c.args.scope.now.syntax.now in
    let sense = sense_in (senses_made u c.args.scope.now.results.now) in
    ap not (c.in-Some.ensures u w (told.functions sense)) ∙ sym (ap (is_firm (is_automatic w s sense)) c.in-Entity.is)
