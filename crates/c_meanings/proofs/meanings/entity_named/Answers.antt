use Rattle.std.proofs.Common.{option_map}
use Rattle.c_types.specs.Table.{type_of}
use Rattle.c_senses.specs.Sense.{Sense}
use Rattle.c_senses.specs.Entities.{type_behind, entity_of, named_by, object_or_function}
use Rattle.core_nodes.proofs.Growing.{builds_on}
use Rattle.c_results.proofs.Keeping.{mades_kept}
use Rattle.c_entities.specs.Types.{type_in}
use Rattle.std.proofs.Common.{◌≡◌, ℕ, List, Some, refl, ap, sym, ◌∙◌}
use Rattle.c_senses.specs.Sense.{sense_in}
use Rattle.c_results.specs.Standing.{senses_made}
use Rattle.tree_reads.specs.Sources.{source_in}
use Rattle.c_meanings.proofs.meanings.entity_named.Goals as goal

pub returns-in_err-found-clause-builds : goal.returns-in_err-found-clause-builds
returns-in_err-found-clause-builds c = builds_on c.args.unit.now c.named_by.new.unit c.type_thinned.new.unit c.in_ok-named.ensures.builds c.in_err-found.ensures.builds

pub returns-in-Some-clause-builds : goal.returns-in-Some-clause-builds
returns-in-Some-clause-builds c = builds_on c.args.unit.now c.named_by.new.unit c.type_thinned.new.unit c.in_ok-named.ensures.builds c.in_ok-found.ensures.builds

pub returns-in-None-clause-builds : goal.returns-in-None-clause-builds
returns-in-None-clause-builds c = builds_on c.args.unit.now c.named_by.new.unit c.type_thinned.new.unit c.in_ok-named.ensures.builds c.in_ok-found.ensures.builds

pub returns-in-Some-clause-made : goal.returns-in-Some-clause-made
returns-in-Some-clause-made c = λ uses.
    let s = source_in c.args.syntax.now uses in
    let u0 = c.args.unit.now in
    let u1 = c.named_by.new.unit in
    let u2 = c.type_thinned.new.unit in
    let rs = c.args.results.now in
    let sense = sense_in (senses_made u0 rs) in
    let made : type_in u2.types c.in_ok-found.found ≡ type_behind s sense c.args.leaf =
    c.in_ok-found.ensures.made uses ∙ ap (λ (ss : List Sense). type_behind s (sense_in ss) c.args.leaf) (mades_kept u0 u1 c.in_ok-named.ensures.builds rs c.requires.results) in
    let some : Some (type_of u2.types c.in-Some.ty.0) ≡ type_behind s sense c.args.leaf = sym (ap (type_in u2.types) c.in-Some.is) ∙ made in
    let entity : c.in_ok-entity.entity.leaf ≡ entity_of s sense (named_by s sense c.args.leaf) =
    c.in_ok-entity.ensures.entity u0 uses ∙ ap (entity_of s sense) (c.in_ok-named.ensures.made uses) in
    c.object_or_function.ensures.gives u2 s sense refl
    ∙ (ap (λ (e : ℕ). Some (object_or_function s sense e (type_of u2.types c.in-Some.ty.0))) entity
    ∙ ap (option_map (object_or_function s sense (entity_of s sense (named_by s sense c.args.leaf)))) some)

pub returns-in-Some-clause-within : goal.returns-in-Some-clause-within
returns-in-Some-clause-within c = c.object_or_function.ensures.within c.type_thinned.new.unit refl

pub returns-in-None-clause-made : goal.returns-in-None-clause-made
returns-in-None-clause-made c = λ uses.
    let s = source_in c.args.syntax.now uses in
    let u0 = c.args.unit.now in
    let u1 = c.named_by.new.unit in
    let u2 = c.type_thinned.new.unit in
    let rs = c.args.results.now in
    let sense = sense_in (senses_made u0 rs) in
    let made : type_in u2.types c.in_ok-found.found ≡ type_behind s sense c.args.leaf =
    c.in_ok-found.ensures.made uses ∙ ap (λ (ss : List Sense). type_behind s (sense_in ss) c.args.leaf) (mades_kept u0 u1 c.in_ok-named.ensures.builds rs c.requires.results) in
    ap (option_map (object_or_function s sense (entity_of s sense (named_by s sense c.args.leaf)))) (sym (ap (type_in u2.types) c.in-None.is) ∙ made)
