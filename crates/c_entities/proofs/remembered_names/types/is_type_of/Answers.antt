use Rattle.std.proofs.Common.{ℕ, List, Option, Some, option_map, ap, ◌∙◌}
use Rattle.c_types.specs.Table.{Table, type_of}
use Rattle.core_nodes.specs.passed.c_senses.Sense.{Derivation}
use Rattle.core_nodes.specs.passed.c_senses.Declarators.{derived}
use Rattle.c_results.specs.Standing.{derivations_seen}
use Rattle.c_entities.specs.remembered_names.Steps.{type_by}
use Rattle.c_entities.proofs.remembered_names.types.is_type_of.Goals as goal

pub returns-in-Some-declarator_at : goal.returns-in-Some-declarator_at
returns-in-Some-declarator_at c = λ e u types.
    let base = c.args.steps.base in
    let list = c.in-Some-declarator_at.list.now in
    ap (type_by u c.args.results.now base) c.in-Some.is
    ∙ (ap (λ (o : Option (Option ℕ × List Derivation)). option_map (λ (p : Option ℕ × List Derivation). derived p.1 (type_of u.types base.0)) o) (c.in-Some-declarator_at.ensures.seen u)
    ∙ (ap (λ (t : Table). Some (derived (derivations_seen t list) (type_of t base.0))) types ∙ ap Some (c.is_made_of.ensures e)))
