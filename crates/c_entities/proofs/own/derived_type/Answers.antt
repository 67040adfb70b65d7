use Rattle.std.proofs.Common.{◌≡◌, ℕ, Option, Some, sym, ap, ◌∙◌, option_and_then}
use Rattle.c_types.specs.Table.{type_of}
use Rattle.core_nodes.specs.passed.c_senses.Sense.{Sense, Specified, sense_in}
use Rattle.core_nodes.specs.passed.c_senses.Tree.{Source}
use Rattle.core_nodes.specs.passed.c_senses.Declarators.{specs_of, outermost_of}
use Rattle.core_nodes.specs.passed.c_senses.Entities.{specified, specified_of, derived_type}
use Rattle.c_results.specs.Standing.{senses_made}
use Rattle.tree_reads.specs.Sources.{source_read}
use Rattle.c_entities.proofs.Reading.{specs_missing, type_seen, type_missing}
use Rattle.c_entities.proofs.own.derived_type.Goals as goal

-- the specifiers of a name by the node that has been found
at : (s : Source) (sense : ℕ → Sense) (leaf d i : ℕ) → Some d ≡ outermost_of s leaf → Some i ≡ specs_of s d → specified_of s sense leaf ≡ specified s sense (Some i)
at s sense leaf d i e f = ap (λ (o : Option ℕ). specified s sense (option_and_then (specs_of s) o)) (sym e) ∙ ap (specified s sense) (sym f)

pub returns-in_default-specified_at-clause-made : goal.returns-in_default-specified_at-clause-made
returns-in_default-specified_at-clause-made c =
    let s = source_read c.args.syntax.now in
    let u = c.args.unit.now in
    let sense = sense_in (senses_made u c.args.results.now) in
    let e = at s sense c.args.leaf c.in-Some.declarator c.in-Some-specs_of.specifiers c.in-Some.ensures.nearest c.in-Some-specs_of.ensures in
    sym (ap (λ (o : Option Specified). derived_type s sense o (outermost_of s c.args.leaf)) (e ∙ specs_missing (sense c.in-Some-specs_of.specifiers) (c.in_default-specified_at.ensures.seen u)))

pub returns-in_default-declarator_at-clause-made : goal.returns-in_default-declarator_at-clause-made
returns-in_default-declarator_at-clause-made c =
    let s = source_read c.args.syntax.now in
    let u = c.args.unit.now in
    let sense = sense_in (senses_made u c.args.results.now) in
    let e = at s sense c.args.leaf c.in-Some.declarator c.in-Some-specs_of.specifiers c.in-Some.ensures.nearest c.in-Some-specs_of.ensures in
    type_missing s sense (specified_of s sense c.args.leaf) (outermost_of s c.args.leaf) c.in-Some-specs_of.specifiers c.in-Some.declarator _ e (sym c.in-Some.ensures.nearest) (c.in-Some-specified_at.ensures.seen u) (c.in_default-declarator_at.ensures.seen u)

pub derived-requires-clause-derivations : goal.derived-requires-clause-derivations
derived-requires-clause-derivations c = c.in-Some-declarator_at.ensures.within c.args.unit.now c.requires.results

pub returns-clause-made : goal.returns-clause-made
returns-clause-made c =
    let s = source_read c.args.syntax.now in
    let u = c.args.unit.now in
    let sense = sense_in (senses_made u c.args.results.now) in
    let e = at s sense c.args.leaf c.in-Some.declarator c.in-Some-specs_of.specifiers c.in-Some.ensures.nearest c.in-Some-specs_of.ensures in
    ap Some c.in-Ok.ensures.made
    ∙ type_seen s sense (specified_of s sense c.args.leaf) (outermost_of s c.args.leaf) c.in-Some-specs_of.specifiers c.in-Some.declarator (type_of u.types c.in-Some-specified_at.base.0) e (sym c.in-Some.ensures.nearest) (c.in-Some-specified_at.ensures.seen u) _ _ (c.in-Some-declarator_at.ensures.seen u)
