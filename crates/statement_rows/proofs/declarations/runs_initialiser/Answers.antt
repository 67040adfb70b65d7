use Rattle.std.proofs.Common.{ℕ, Bool, false, Option, Some, None, option_and_then, ap, ◌∙◌}
use Rattle.c_senses.specs.Sense.{sense_in}
use Rattle.c_senses.specs.Statements as spec
use Rattle.c_results.specs.Standing.{senses_made}
use Rattle.tree_reads.specs.Sources.{source_in}
use Rattle.statement_rows.specs.Parts.{name_in}
use Rattle.statement_rows.proofs.declarations.runs_initialiser.Goals as goal

pub returns-in_default : goal.returns-in_default
returns-in_default c = λ u w uses.
    let s = source_in c.args.syntax.now uses in
    let sense = sense_in (senses_made u c.args.results.now) in
    ap (λ (o : Option ℕ). elim (option_and_then (λ d. name_in (sense d)) o) as (λ _. Bool) [ None ↦ false | Some leaf ↦ spec.is_automatic_object w s sense leaf ]) (c.in_default.ensures sense)

pub returns-in-Some-name_at : goal.returns-in-Some-name_at
returns-in-Some-name_at c = λ u w uses.
    let s = source_in c.args.syntax.now uses in
    let sense = sense_in (senses_made u c.args.results.now) in
    c.is_automatic_object.ensures u w uses
    ∙ (ap (λ (o : Option ℕ). elim o as (λ _. Bool) [ None ↦ false | Some leaf ↦ spec.is_automatic_object w s sense leaf ]) (c.in-Some-name_at.ensures u)
    ∙ ap (λ (o : Option ℕ). elim (option_and_then (λ d. name_in (sense d)) o) as (λ _. Bool) [ None ↦ false | Some leaf ↦ spec.is_automatic_object w s sense leaf ]) (c.in-Some.ensures sense))

pub returns-in-None : goal.returns-in-None
returns-in-None c = λ u w uses.
    let s = source_in c.args.syntax.now uses in
    let sense = sense_in (senses_made u c.args.results.now) in
    ap (λ (o : Option ℕ). elim o as (λ _. Bool) [ None ↦ false | Some leaf ↦ spec.is_automatic_object w s sense leaf ]) (c.in-None.ensures u)
    ∙ ap (λ (o : Option ℕ). elim (option_and_then (λ d. name_in (sense d)) o) as (λ _. Bool) [ None ↦ false | Some leaf ↦ spec.is_automatic_object w s sense leaf ]) (c.in-Some.ensures sense)
