use Rattle.std.proofs.Common.{ℕ, Option, Some, None, ap, ◌∙◌}
use Rattle.core_nodes.specs.passed.c_senses.Sense.{sense_in}
use Rattle.c_results.specs.Standing.{senses_made}
use Rattle.c_entities.specs.Words.{length_in}
use Rattle.c_entities.proofs.own.length_given.Goals as goal

pub returns-in-Some-made_at : goal.returns-in-Some-made_at
returns-in-Some-made_at c = λ u.
    let sense = sense_in (senses_made u c.args.results.now) in
    c.length_made.ensures u ∙ (ap length_in (c.in-Some-made_at.ensures.sense u) ∙ ap (λ (o : Option ℕ). elim o as (λ x. Option ℕ) [ None ↦ None | Some init ↦ length_in (sense init) ]) (c.in-Some.ensures sense))

pub returns-in-None-made_at : goal.returns-in-None-made_at
returns-in-None-made_at c = λ u.
    let sense = sense_in (senses_made u c.args.results.now) in
    ap length_in (c.in-None-made_at.ensures.sense u) ∙ ap (λ (o : Option ℕ). elim o as (λ x. Option ℕ) [ None ↦ None | Some init ↦ length_in (sense init) ]) (c.in-Some.ensures sense)
