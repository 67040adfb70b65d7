use Rattle.std.proofs.Common.{ℕ, Option, Some, length, option_map, ap, ◌∙◌}
use Rattle.c_senses.specs.Sense.{sense_in}
use Rattle.c_results.specs.Standing.{senses_made}
use Rattle.tree_reads.specs.Sources.{source_in}
use Rattle.c_senses.specs.Entities.{entity_of}
use Rattle.unit_names.proofs.literals.literal_owner.Goals as goal

pub entity_of-requires-clause-leaf : goal.entity_of-requires-clause-leaf
entity_of-requires-clause-leaf c = c.in-Some.ensures.within (length c.args.syntax.now.tree.now.nodes.items) c.requires.named

pub returns-in-Some : goal.returns-in-Some
returns-in-Some c = λ u uses.
    let s = source_in c.args.syntax.now uses in
    let sense = sense_in (senses_made u c.args.results.now) in
    ap (λ (n : ℕ). Some n) (c.entity_of.ensures u uses) ∙ ap (λ (o : Option ℕ). option_map (entity_of s sense) o) (c.in-Some.ensures.name u)

pub returns-in-None : goal.returns-in-None
returns-in-None c = λ u uses.
    let s = source_in c.args.syntax.now uses in
    let sense = sense_in (senses_made u c.args.results.now) in
    ap (λ (o : Option ℕ). option_map (entity_of s sense) o) (c.in-None.ensures.name u)
