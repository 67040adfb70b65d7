use Rattle.std.proofs.Common.{List, refl, ap, sym, ◌∙◌}
use Rattle.std.proofs.lemmas.Result.{IfOk-weaker}
use Rattle.c_types.specs.Table.{type_of}
use Rattle.c_senses.specs.Sense.{Sense, sense_in}
use Rattle.c_senses.specs.Entities.{declared_meaning}
use Rattle.core_nodes.proofs.Growing.{builds_on}
use Rattle.c_results.specs.Standing.{senses_made}
use Rattle.c_results.proofs.Keeping.{mades_kept}
use Rattle.tree_reads.specs.Sources.{source_in}
use Rattle.c_entities.proofs.remembered_names.Onward.{means_now}
use Rattle.c_meanings.proofs.Tests.{some_of}
use Rattle.c_meanings.proofs.meanings.first_meaning.Goals as goal

pub returns-in-Some-clause-linkages : goal.returns-in-Some-clause-linkages
returns-in-Some-clause-linkages c =
    let h = c.in_ok-found.ensures.linkages in
    record {
      many_linked = h.many_linked;
      many_own = h.many_own;
      statics = h.statics;
      scopes = h.scopes;
      own = h.own;
      typing = h.typing;
      internal = h.internal;
      memory = c.remember.ensures c.args.syntax.now c.args.results.now (some_of _ _ _ c.in-Some.is c.in_ok-found.ensures.right) h.memory;
    }

pub returns-in-Some-clause-made : goal.returns-in-Some-clause-made
returns-in-Some-clause-made c = λ uses.
    let syntax = c.args.syntax.now in
    let results = c.args.results.now in
    let s = source_in syntax uses in
    let u0 = c.args.unit.now in
    let u = c.to_remember.new.unit in
    let sense = sense_in (senses_made u results) in
    let e = c.in-Some.found in
    let h = c.in_ok-found.ensures in
    c.meaning_by.ensures.gives u s sense refl
    ∙ (sym (means_now syntax results e (some_of _ _ _ c.in-Some.is h.right) u uses (type_of u.types e.ty.0) (some_of _ _ _ c.in-Some.is h.typed))
    ∙ (ap (declared_meaning s sense) (some_of _ _ _ c.in-Some.is h.leaf) ∙ ap (λ (ss : List Sense). declared_meaning s (sense_in ss) c.args.leaf) (mades_kept u0 u h.builds results c.requires.results)))

pub returns-in-Some-clause-within : goal.returns-in-Some-clause-within
returns-in-Some-clause-within c = c.meaning_by.ensures.within c.to_remember.new.unit refl

pub returns-in-None-clause-builds : goal.returns-in-None-clause-builds
returns-in-None-clause-builds c = builds_on c.args.unit.now c.to_remember.new.unit c.looked_up.new.unit c.in_ok-found.ensures.builds c.looked_up.ensures.builds

pub returns-in-None-clause-made : goal.returns-in-None-clause-made
returns-in-None-clause-made c =
    let results = c.args.results.now in
    let u0 = c.args.unit.now in
    let u = c.to_remember.new.unit in
    IfOk-weaker c.looked_up.result _ _
    (λ m h uses.
    let s = source_in c.args.syntax.now uses in
    h uses ∙ ap (λ (ss : List Sense). declared_meaning s (sense_in ss) c.args.leaf) (mades_kept u0 u c.in_ok-found.ensures.builds results c.requires.results))
    c.looked_up.ensures.made
