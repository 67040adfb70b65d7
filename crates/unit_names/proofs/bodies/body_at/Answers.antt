use Rattle.std.proofs.Common.{ℕ, Option, option_and_then, ap, ◌∙◌}
use Rattle.c_senses.specs.Sense.{sense_in}
use Rattle.c_results.specs.Standing.{senses_made}
use Rattle.tree_reads.specs.Sources.{source_in}
use Rattle.unit_names.specs.Bodies.{core_of}
use Rattle.unit_names.proofs.Parts.{body_is}
use Rattle.unit_names.proofs.bodies.body_at.Goals as goal

pub returns-in-Some-clause-seen : goal.returns-in-Some-clause-seen
returns-in-Some-clause-seen c = λ u uses.
    let senses = senses_made u c.args.results.now in
    c.core_node_at.ensures.seen u
    ∙ (ap (λ (o : Option ℕ). option_and_then (λ i. core_of (sense_in senses i)) o) (c.in-Some.ensures uses senses) ∙ body_is (source_in c.args.syntax.now uses) senses c.args.leaf)

pub returns-in-None-clause-seen : goal.returns-in-None-clause-seen
returns-in-None-clause-seen c = λ u uses.
    let senses = senses_made u c.args.results.now in
    ap (λ (o : Option ℕ). option_and_then (λ i. core_of (sense_in senses i)) o) (c.in-None.ensures uses senses) ∙ body_is (source_in c.args.syntax.now uses) senses c.args.leaf
