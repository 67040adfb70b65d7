use Rattle.std.proofs.Common.{◌≡◌, ℕ, List, Option, Some, option_map, ap, sym, ◌∙◌}
use Rattle.c_types.specs.Trees.{Ctype}
use Rattle.c_types.specs.Table.{type_of}
use Rattle.core_nodes.specs.passed.c_senses.Sense.{Derivation}
use Rattle.core_nodes.specs.passed.c_senses.Declarators.{derived}
use Rattle.c_results.specs.Standing.{derivations_seen}
use Rattle.c_results.proofs.Keeping.{derivations_kept}
use Rattle.c_entities.specs.remembered_names.Steps.{type_by}
use Rattle.c_entities.proofs.remembered_names.types.type_made.Goals as goal

pub derived-requires-clause-derivations : goal.derived-requires-clause-derivations
derived-requires-clause-derivations c = c.in-Some-declarator_at.ensures.within c.args.unit.now c.requires.results

pub returns-in-Ok-clause-made : goal.returns-in-Ok-clause-made
returns-in-Ok-clause-made c =
    let old = c.args.unit.now in
    let new = c.derived.new.unit in
    let base = c.args.steps.base in
    let list = c.in-Some-declarator_at.list.now in
    let b = c.in-Ok.ensures.builds in
    let kept : derivations_seen new.types list ≡ derivations_seen old.types list = derivations_kept old.types new.types b.types list (c.in-Some-declarator_at.ensures.within old c.requires.results) in
    ap (type_by new c.args.results.now base) c.in-Some.is
    ∙ (ap (λ (o : Option (Option ℕ × List Derivation)). option_map (λ (p : Option ℕ × List Derivation). derived p.1 (type_of new.types base.0)) o) (c.in-Some-declarator_at.ensures.seen new)
    ∙ (ap (λ (ds : List Derivation). Some (derived ds (type_of new.types base.0))) kept
    ∙ (ap (λ (t : Ctype). Some (derived (derivations_seen old.types list) t)) (b.types base.0 c.requires.base) ∙ ap Some (sym c.in-Ok.ensures.made))))
