use Rattle.std.proofs.Common.{rules, ℕ, sym, ap, ◌∙◌, Option, ℤ, to_z-of_z, FitsSigned}
use Rattle.std.specs.Int.{w128}
use Rattle.c_inits.specs.Syntax.{AtIndex, AtName}
use Rattle.c_inits.specs.View.{index_or_name}
use Rattle.c_senses.specs.Sense.{sense_in}
use Rattle.c_results.specs.Standing.{senses_made}
use Rattle.tree_reads.specs.Sources.{source_read}
use Rattle.c_initialise.specs.Facts.{told, index_told}
use Rattle.c_initialise.proofs.Told.{index_is, index_none}
use Rattle.c_initialise.proofs.facts.designator_at.Goals as goal

pub returns-in-Some : goal.returns-in-Some
returns-in-Some c =
    let u = c.args.source.now.unit.now in
    let s = source_read c.args.source.now.syntax.now in
    let sense = sense_in (senses_made u c.args.source.now.results.now) in
    let fits : FitsSigned w128 c.in-Some.value = search rules in
    ap (AtIndex c.args.node) (c.index_of.ensures ∙ ap index_told (to_z-of_z fits))
    ∙ sym (ap (λ (o : Option ℕ). index_or_name (told c.args.source.now) c.args.node o) (index_is s sense (sense c.args.node) c.in-Some.value (sym (c.value_at.ensures u) ∙ c.in-Some.is)))

pub returns-in_ok-name-in-None : goal.returns-in_ok-name-in-None
returns-in_ok-name-in-None c =
    let u = c.args.source.now.unit.now in
    let s = source_read c.args.source.now.syntax.now in
    let sense = sense_in (senses_made u c.args.source.now.results.now) in
    ap (AtName c.args.node) (c.in_ok-name-in-None.ensures sense)
    ∙ sym (ap (λ (o : Option ℕ). index_or_name (told c.args.source.now) c.args.node o) (index_none s sense (sense c.args.node) (sym (c.value_at.ensures u) ∙ c.in-None.is)))
