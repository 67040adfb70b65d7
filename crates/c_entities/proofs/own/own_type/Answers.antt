use Rattle.std.proofs.Common.{ℕ, Option, Some, sym, ap, ◌∙◌, option_map}
use Rattle.c_types.specs.Trees.{Ctype}
use Rattle.c_types.specs.Table.{type_of}
use Rattle.core_nodes.specs.passed.c_senses.Sense.{sense_in}
use Rattle.core_nodes.specs.passed.c_senses.Entities as spec
use Rattle.core_nodes.proofs.Growing.{builds_on}
use Rattle.c_results.specs.Standing.{senses_made}
use Rattle.tree_reads.specs.Sources.{source_read}
use Rattle.c_entities.specs.Types.{type_in}
use Rattle.c_entities.proofs.Reading.{chosen, other}
use Rattle.c_entities.proofs.own.own_type.Goals as goal

pub returns-then-is_parameter-clause-made : goal.returns-then-is_parameter-clause-made
returns-then-is_parameter-clause-made c =
    let s = source_read c.args.syntax.now in
    let u = c.args.unit.now in
    let sense = sense_in (senses_made u c.args.results.now) in
    c.parameter_type.ensures.seen u ∙ chosen (spec.is_parameter s sense c.args.leaf) _ _ (sym (c.is_parameter.ensures sense) ∙ c.if-is_parameter.true)

pub returns-in-Ok-clause-builds : goal.returns-in-Ok-clause-builds
returns-in-Ok-clause-builds c = builds_on c.args.unit.now c.derived_type.new.unit c.with_length.new.unit c.in-Ok-Some.ensures.builds c.in-Ok.ensures.builds

pub returns-in-Ok-clause-made : goal.returns-in-Ok-clause-made
returns-in-Ok-clause-made c =
    let s = source_read c.args.syntax.now in
    let u = c.args.unit.now in
    let sense = sense_in (senses_made u c.args.results.now) in
    let given = spec.length_given_by s sense (spec.initialiser_for s sense c.args.leaf) in
    let mid = c.derived_type.new.unit.types in
    let made = sym (ap (type_in mid) c.in-Ok-Some.field-0-is) ∙ c.in-Ok-Some.ensures.made in
    ap Some c.in-Ok.ensures.made
    ∙ (ap (λ (n : Option ℕ). Some (spec.with_length n (type_of mid c.in-Ok-Some.ty.0))) (c.length_given-count.ensures u)
    ∙ (ap (λ (o : Option Ctype). option_map (spec.with_length given) o) made
    ∙ other (spec.is_parameter s sense c.args.leaf) _ _ (sym (c.is_parameter.ensures sense) ∙ c.if-is_parameter.false)))

pub returns-in-Err-with_length-clause-builds : goal.returns-in-Err-with_length-clause-builds
returns-in-Err-with_length-clause-builds c = builds_on c.args.unit.now c.derived_type.new.unit c.with_length.new.unit c.in-Ok-Some.ensures.builds c.in-Err-with_length.ensures.builds

pub returns-in-Ok-None-clause-made : goal.returns-in-Ok-None-clause-made
returns-in-Ok-None-clause-made c =
    let s = source_read c.args.syntax.now in
    let u = c.args.unit.now in
    let sense = sense_in (senses_made u c.args.results.now) in
    let given = spec.length_given_by s sense (spec.initialiser_for s sense c.args.leaf) in
    let mid = c.derived_type.new.unit.types in
    let made = sym (ap (type_in mid) c.in-Ok-None.field-0-is) ∙ c.in-Ok-None.ensures.made in
    ap (λ (o : Option Ctype). option_map (spec.with_length given) o) made
    ∙ other (spec.is_parameter s sense c.args.leaf) _ _ (sym (c.is_parameter.ensures sense) ∙ c.if-is_parameter.false)
