use Rattle.std.proofs.Common.{◌≡◌, ◌<◌, List, true, false, Option, Some, IfSome, length, sym, ap, subst, ◌∙◌}
use Rattle.c_results.specs.Standing.{senses_made}
use Rattle.tree_reads.specs.Sources.{source_in}
use Rattle.c_types.specs.declared.term.TypeId.{TypeId}
use Rattle.c_entities.specs.Types.{type_in}
use Rattle.c_types.specs.Table.{type_of}
use Rattle.c_senses.specs.Sense.{Sense}
use Rattle.c_senses.specs.Right as right
use Rattle.c_results.proofs.Keeping.{mades_kept, withins_kept}
use Rattle.unit_names.proofs.Known.{declares_known}
use Rattle.unit_names.proofs.Parts.{named_none, named_by}
use Rattle.unit_names.proofs.declared.declared_at.Goals as goal

pub returns-then-not-known-clause-declared : goal.returns-then-not-known-clause-declared
returns-then-not-known-clause-declared c = λ uses.
    let u = c.args.unit.now in
    let s = source_in c.args.syntax.now uses in
    let senses = senses_made u c.args.results.now in
    let e : c.in_ok-known.known ≡ false = cc in
    named_none s senses c.args.leaf (declares_known s senses c.args.leaf c.in_ok-known.known (sym (c.requires.may u uses)) (c.in_ok-known.ensures.known u uses) ∙ e)

pub returns-clause-declared : goal.returns-clause-declared
returns-clause-declared c = λ uses.
    let s = source_in c.args.syntax.now uses in
    let old = c.args.unit.now in
    let new = c.entity_type.new.unit in
    let rs = c.args.results.now in
    let senses = senses_made old rs in
    let t = type_of new.types c.in-Some.ty.0 in
    let e : c.in_ok-known.known ≡ true = cc in
    let types : Some t ≡ right.entity_type s senses c.args.leaf = sym (ap (type_in new.types) c.in-Some.is) ∙ c.in_ok-ty.ensures.made uses in
    ap (λ (x : right.Declared). Some x)
    (c.in_ok-declared.ensures.seen new uses ∙ ap (λ (ss : List Sense). right.declared_as s ss c.args.leaf t) (mades_kept old new c.in_ok-ty.ensures.builds rs c.requires.results))
    ∙ named_by s senses c.args.leaf (Some t) (declares_known s senses c.args.leaf c.in_ok-known.known (sym (c.requires.may old uses)) (c.in_ok-known.ensures.known old uses) ∙ e) types

pub returns-clause-within : goal.returns-clause-within
returns-clause-within c =
    let old = c.args.unit.now in
    let new = c.entity_type.new.unit in
    let ty : c.in-Some.ty.0 < length new.types.terms = subst (λ (o : Option TypeId). IfSome o (λ t. t.0 < length new.types.terms)) c.in-Some.is c.in_ok-ty.ensures.within in
    c.in_ok-declared.ensures.within new (withins_kept old new c.in_ok-ty.ensures.builds c.args.results.now c.requires.results) ty
