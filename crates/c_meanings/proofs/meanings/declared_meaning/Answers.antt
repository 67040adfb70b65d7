use Rattle.std.proofs.Common.{refl, ap, sym, subst, ◌∙◌}
use Rattle.c_types.specs.Table.{type_of}
use Rattle.c_senses.specs.Sense.{sense_in}
use Rattle.c_senses.specs.Entities.{declared_meaning}
use Rattle.c_results.specs.Standing.{senses_made}
use Rattle.tree_reads.specs.Sources.{source_in}
use Rattle.c_entities.specs.remembered_names.Remembering.{AreRemembered}
use Rattle.c_entities.proofs.remembered_names.Onward.{means_now}
use Rattle.c_meanings.proofs.meanings.declared_meaning.Goals as goal

pub returns-in-Some-clause-made : goal.returns-in-Some-clause-made
returns-in-Some-clause-made c = λ uses.
    let syntax = c.args.syntax.now in
    let results = c.args.results.now in
    let s = source_in syntax uses in
    let u = c.args.unit.now in
    let sense = sense_in (senses_made u results) in
    let e = c.in-Some.found in
    let right = c.in-Some.ensures.right syntax (subst (AreRemembered syntax results) (sym c.as_slice.ensures.value) c.requires.linkages.memory) in
    c.meaning_by.ensures.gives u s sense refl
    ∙ (sym (means_now syntax results e right u uses (type_of u.types e.ty.0) (c.in-Some.ensures.typed u refl)) ∙ ap (declared_meaning s sense) c.in-Some.ensures.leaf)

pub returns-in-Some-clause-within : goal.returns-in-Some-clause-within
returns-in-Some-clause-within c = c.meaning_by.ensures.within c.args.unit.now refl
