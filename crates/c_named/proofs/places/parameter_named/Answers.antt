use Rattle.std.proofs.Common.{Bool, ◌||◌, not, sym, ap, ◌∙◌}
use Rattle.pta_base.specs.declared.kind.Kind.TheVariants.{Operand}
use Rattle.c_types.specs.Table.{type_of}
use Rattle.c_senses.specs.Sense.{sense_in}
use Rattle.c_results.specs.Standing.{senses_made}
use Rattle.tree_reads.specs.Sources.{source_in}
use Rattle.c_senses.specs.Entities.{defined_parameter, is_parameter_complete}
use Rattle.c_named.proofs.Judging.{given_true, given_false}
use Rattle.c_named.proofs.places.parameter_named.Goals as goal

pub returns-then-not-may_stand : goal.returns-then-not-may_stand
returns-then-not-may_stand c = λ u w uses knows completed g.
    let s = source_in c.args.syntax.now uses in
    let sense = sense_in (senses_made u c.args.results.now) in
    let at = c.args.declared.at in
    let t = type_of c.args.unit.now.types c.args.declared.ty.0 in
    given_false (not (defined_parameter w s sense at) || is_parameter_complete w s sense t) Operand c.args.declared.leaf g
    (sym (c.if-not-may_stand.ensures
    ∙ (ap (λ (b : Bool). not b || c.is_parameter_complete-complete.result) (c.is_listed_parameter-listed.ensures u w)
    ∙ ap (λ (b : Bool). not (defined_parameter w s sense at) || b) (c.is_parameter_complete-complete.ensures w s sense knows completed))))

pub returns : goal.returns
returns c = λ u w uses knows completed g.
    let s = source_in c.args.syntax.now uses in
    let sense = sense_in (senses_made u c.args.results.now) in
    let at = c.args.declared.at in
    let t = type_of c.args.unit.now.types c.args.declared.ty.0 in
    given_true (not (defined_parameter w s sense at) || is_parameter_complete w s sense t) Operand c.args.declared.leaf g
    (sym (c.if-not-may_stand.ensures
    ∙ (ap (λ (b : Bool). not b || c.is_parameter_complete-complete.result) (c.is_listed_parameter-listed.ensures u w)
    ∙ ap (λ (b : Bool). not (defined_parameter w s sense at) || b) (c.is_parameter_complete-complete.ensures w s sense knows completed))))
