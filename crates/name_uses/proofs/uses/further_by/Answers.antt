use Rattle.std.proofs.Common.{◌≡◌, ℕ, Bool, Option, Some, None, length, ap, ◌∙◌}
use Rattle.std.specs.Prelude.{option_map, if◌then◌else◌}
use Rattle.c_senses.specs.Entities.{entity_of, function_around}
use Rattle.c_senses.specs.Sense.{sense_in}
use Rattle.c_results.specs.Standing.{senses_made}
use Rattle.tree_reads.specs.Sources.{source_in}
use Rattle.name_uses.proofs.uses.further_by.Goals as goal

pub returns-then-not-is_further : goal.returns-then-not-is_further
returns-then-not-is_further c = λ u w uses.
    let s = source_in c.args.syntax.now uses in
    let sense = sense_in (senses_made u c.args.results.now) in
    ap (λ (b : Bool). if b then option_map (entity_of s sense) (function_around s sense c.args.leaf) else None) (c.if-not-is_further.ensures u w uses)

pub returns-in-Some : goal.returns-in-Some
returns-in-Some c = λ u w uses.
    let s = source_in c.args.syntax.now uses in
    let sense = sense_in (senses_made u c.args.results.now) in
    let here : Some c.entity_of.result ≡ option_map (entity_of s sense) (function_around s sense c.args.leaf) =
    ap Some (c.entity_of.ensures u uses) ∙ ap (λ (o : Option ℕ). option_map (entity_of s sense) o) (c.in-Some.ensures.name u) in
    here ∙ ap (λ (b : Bool). if b then option_map (entity_of s sense) (function_around s sense c.args.leaf) else None) (c.if-not-is_further.ensures u w uses)

pub returns-in-None : goal.returns-in-None
returns-in-None c = λ u w uses.
    let s = source_in c.args.syntax.now uses in
    let sense = sense_in (senses_made u c.args.results.now) in
    ap (λ (o : Option ℕ). option_map (entity_of s sense) o) (c.in-None.ensures.name u)
    ∙ ap (λ (b : Bool). if b then option_map (entity_of s sense) (function_around s sense c.args.leaf) else None) (c.if-not-is_further.ensures u w uses)

pub entity_of-requires-clause-leaf : goal.entity_of-requires-clause-leaf
entity_of-requires-clause-leaf c = c.in-Some.ensures.within (length c.args.syntax.now.tree.now.nodes.items) c.requires.results
